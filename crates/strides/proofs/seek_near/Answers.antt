-- `seek_near`: no window so far was the word (proofs/Passing.antt).
use mathlib.Core.Path.{◌≡◌}
use native.Mathlib.Omega.{arith}
use borrow.Author.Tests.{ne_eqb}
use Rattle.digits.specs.Digits.{digits_of}
use Rattle.digits.proofs.Laws.{digits-binary}
use Rattle.strides.proofs.Passing.{passed_none, passed-one, passed-fits}
use Rattle.strides.proofs.seek_near.Goals as goal

pub loop-at-init : goal.loop-at-init
loop-at-init c =
    (c.requires.1, passed_none _ _ _ _ _ _ (omega arith))

pub window_on-next-requires : goal.window_on-next-requires
window_on-next-requires c =
    (c.requires.0.most, c.requires.0.masked, c.loop-at.invariant.0, c.digit_at.ensures.1)

pub returns-then-next-word : goal.returns-then-next-word
returns-then-next-word c = c.loop-at.invariant.1

pub loop-at-preserved : goal.loop-at-preserved
loop-at-preserved c =
    let l = c.loop-at in
    let on =
    passed-one c.args.len c.args.word (digits_of c.args.piece.now) _ c.args.first c.args.window l.at l.w _ _ l.invariant.1 (omega arith)
    c.digit_at.ensures.0 c.window_on-next.ensures (ne_eqb _ _ c.if-next-word.false) in
    (passed-fits c.args.len c.args.word (digits_of c.args.piece.now) _ c.args.first c.args.window c.requires.0.most (digits-binary c.args.piece.now) _ _ c.requires.1 on, on)

pub returns : goal.returns
returns c =
    let end : c.loop-at.at ≡ c.args.last = omega (arith, c.requires.3) in
    rw end at c.loop-at.invariant.1
