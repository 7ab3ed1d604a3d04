-- `send_columns`: those that are 32 at a time, then the rest.
use Prim.Native.Nat.{◌-◌, ◌%◌}
use native.Mathlib.Omega.{arith}
use Rattle.digits.specs.Digits.{digits_of}
use Rattle.weave.proofs.Weaving.{woven-more, has_on}
use Rattle.weave.proofs.send_columns.Goals as goal

pub send_narrow-requires : goal.send_narrow-requires
send_narrow-requires c =
    let send-wide = c.send_wide-half in
    let pre = c.requires in
    let b = c.args in
    let half = send-wide in (
      pre.0,
      half.ensures.ready,
      omega (arith, half.ensures.place, half.auto.line, pre.2),
      omega arith,
      has_on b.a.now b.b.now b.c.now b.d.now b.i b.columns (b.columns - b.columns % 32) (b.columns % 32) _ pre.3 (omega arith) c.moved_on.ensures,
    )

pub returns : goal.returns
returns c =
    let send-wide = c.send_wide-half in
    let moved_on = c.moved_on in
    let send-narrow = c.send_narrow in
    let b = c.args in
    woven-more (digits_of b.a.now) (digits_of b.b.now) (digits_of b.c.now) (digits_of b.d.now) b.i _ (b.columns - b.columns % 32) (b.columns % 32)
    b.columns _ _ _ _ _ _ send-wide.ensures moved_on.ensures send-narrow.ensures (omega arith)
