-- `send`: one place after the other, by the laws of Counting and Sending.
use mathlib.Core.Path.{◌≡◌, refl}
use Prim.Native.Nat.{◌*◌}
use native.Mathlib.Omega.{arith}
use lib.ListN.{length}
use Rattle.engine.proofs.Counting.{frame_noted, line_short, counted_start, counted-all}
use Rattle.plain.proofs.Sending.{sent-more, sent-all}
use Rattle.plain.proofs.send.send.Goals as goal

pub overflow_mul-end : goal.overflow_mul-end
overflow_mul-end c =
    omega (arith, line_short _ c.requires.0 _ _ c.requires.1)

pub loop-p-init : goal.loop-p-init
loop-p-init c = (
  refl,
  omega (arith, line_short _ c.requires.0 _ _ c.requires.1),
  counted_start _ _ _,
  record { bytes = λ i. omega (arith, c.type_inv.line i); size = refl; done = λ k h. absurd (omega arith) },
)

pub sent_at-d-requires : goal.sent_at-d-requires
sent_at-d-requires c =
    let i = c.loop-p.invariant in
    (c.requires.0, frame_noted _ c.requires.0 _ _ c.requires.1 _ (omega arith), i.2)

pub put_from-requires : goal.put_from-requires
put_from-requires c = (omega arith, c.sent_at-d.ensures.1)

pub count_place-requires : goal.count_place-requires
count_place-requires c =
    let i = c.loop-p.invariant in
    (c.requires.0, omega arith, frame_noted _ c.requires.0 _ _ c.requires.1 _ (omega arith), i.2)

pub loop-p-preserved : goal.loop-p-preserved
loop-p-preserved c =
    let i = c.loop-p.invariant in
    let put = c.put_from in (
      omega arith,
      omega arith,
      c.count_place.ensures,
      sent-more _ _ _ _ _ _ _ _ i.3 _ c.sent_at-d.ensures.0 put.ensures.0 put.ensures.1 (omega arith),
    )

pub returns : goal.returns
returns c =
    let i = c.loop-p.invariant in
    let p = c.loop-p.p in
    let end : p ≡ 8 * length c.args.line.now = omega arith in
    (rw end at (counted-all _ _ _ _ _ i.2), sent-all _ _ _ _ _ _ _ i.3 end)
