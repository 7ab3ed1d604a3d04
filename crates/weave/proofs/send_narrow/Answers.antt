-- `send_narrow`: the first few columns, then eights, of which some are still to come (`Eights`).
use mathlib.Core.Path.{◌≡◌, refl, ◌∙◌}
use Prim.Native.Nat.{◌-◌, ◌*◌, ◌/◌, ◌%◌}
use native.Mathlib.Omega.{arith}
use Rattle.digits.specs.Digits.{digits_of}
use Rattle.digits.proofs.Laws.{digits-binary}
use Rattle.words.proofs.Writing.{appended-none}
use Rattle.weave.specs.Weave.{woven}
use Rattle.weave.proofs.Weaving.{first-few, first-woven, woven-more, eights-start, eights-more, eights-all}
use Rattle.weave.proofs.send_narrow.Goals as goal

pub returns-then-columns-eq0 : goal.returns-then-columns-eq0
unfolding woven
returns-then-columns-eq0 c = rw c.if-columns-eq0.true (appended-none _ _ c.requires.1)

pub send_first-w-requires : goal.send_first-w-requires
send_first-w-requires c =
    let b = c.args in
    let pre = c.requires in
    let few =
    first-few (digits_of b.a.now) (digits_of b.b.now) (digits_of b.c.now) (digits_of b.d.now)
    (digits-binary b.a.now) (digits-binary b.b.now) (digits-binary b.c.now) (digits-binary b.d.now) b.i b.columns _ _ _ _
    c.read_digits-x.ensures.0 c.read_digits-y.ensures.0 c.read_digits-z.ensures.0 c.read_digits-t.ensures.0 (b.columns % 8) (b.columns - b.columns % 8) (omega arith) in
    (pre.0, pre.1, omega (arith, pre.2), omega (arith, pre.3), omega arith, few.0, few.1, few.2, few.3)

pub loop-eight-init : goal.loop-eight-init
loop-eight-init c = eights-start _ _ _ _ _ _ _ _ _ _ _ _ c.send_first-w.ensures.ready

pub send_eight-w-requires : goal.send_eight-w-requires
send_eight-w-requires c =
    let b = c.args in
    let pre = c.requires in
    let l = c.loop-eight in
    let done = l.invariant.done b.i c.read_digits-x.ensures.0 c.read_digits-y.ensures.0 c.read_digits-z.ensures.0 c.read_digits-t.ensures.0 in (
      pre.0,
      done.ready,
      omega (arith, c.loop-eight-test.true, l.invariant.to, l.invariant.kept, done.place, c.send_first-w.ensures.place, c.send_first-w.auto.line, pre.2),
      omega (arith, l.invariant.to, c.loop-eight-test.true, pre.3),
    )

pub loop-eight-preserved : goal.loop-eight-preserved
loop-eight-preserved c =
    let b = c.args in
    eights-more _ _ _ _ _ _ _ _ _ _ _ _ (digits-binary b.a.now) (digits-binary b.b.now) (digits-binary b.c.now) (digits-binary b.d.now)
    _ _ _ _ _ _ c.loop-eight.invariant (omega (arith, c.loop-eight-test.true)) (omega arith) c.send_eight-w.auto.line c.send_eight-w.ensures

pub shape_of-line : goal.shape_of-line
shape_of-line c = c.loop-eight.invariant.kept ∙ c.send_first-w.auto.line

pub returns : goal.returns
returns c =
    let b = c.args in
    let pre = c.requires in
    let first = b.columns % 8 in
    let rest = b.columns - first in
    let all : 8 * (b.columns / 8) ≡ rest = omega arith in
    let back : b.columns - rest ≡ first = omega arith in
    let eights = eights-all _ _ _ _ _ _ _ _ _ _ _ _ _ _ _ c.loop-eight.invariant (omega (arith, c.loop-eight-test.false)) b.i
    c.read_digits-x.ensures.0 c.read_digits-y.ensures.0 c.read_digits-z.ensures.0 c.read_digits-t.ensures.0 in
    let few = first-woven (digits_of b.a.now) (digits_of b.b.now) (digits_of b.c.now) (digits_of b.d.now)
    (digits-binary b.a.now) (digits-binary b.b.now) (digits-binary b.c.now) (digits-binary b.d.now) b.i b.columns _ _ _ _
    c.read_digits-x.ensures.0 c.read_digits-y.ensures.0 c.read_digits-z.ensures.0 c.read_digits-t.ensures.0 first rest (omega arith) (omega arith) in
    woven-more (digits_of b.a.now) (digits_of b.b.now) (digits_of b.c.now) (digits_of b.d.now) b.i _ first rest b.columns _ _ _ _ _ _
    (rw few at c.send_first-w.ensures) refl (rw (all, back) at eights) (omega arith)
