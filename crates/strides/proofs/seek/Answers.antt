-- `seek`: by the digit, by 48 and by the digit again (proofs/Passing.antt).
use native.Mathlib.Omega.{arith}
use Rattle.digits.specs.Digits.{digits_of}
use Rattle.digits.proofs.Laws.{digits-binary}
use Rattle.strides.proofs.Passing.{passed-before, passed-join, passed-far, passed-fits, stop-before, stop-at}
use Rattle.strides.proofs.seek.Goals as goal

pub seek_near-near-requires : goal.seek_near-near-requires
seek_near-near-requires c =
    let s = stop-before c.args.first c.args.end c.min.result c.requires.3 c.min.ensures in
    (c.requires.0, c.requires.1, c.requires.2, s.0, omega (arith, s.1, c.requires.4))

pub returns-then-near-start : goal.returns-then-near-start
returns-then-near-start c =
    let s = stop-before c.args.first c.args.end c.min.result c.requires.3 c.min.ensures in
    passed-before _ _ _ _ _ _ _ _ _ c.seek_near-near.ensures (omega (arith, s.1))

pub seek_far-far-requires : goal.seek_far-far-requires
seek_far-far-requires c =
    let near = c.seek_near-near.ensures in
    let s =
    stop-at c.args.first c.args.end c.min.result _ c.requires.3 c.min.ensures near.before c.if-near-start.false in
    (c.requires.0.least, c.requires.0.most, c.requires.0.fits, c.requires.2, s.0, s.1, s.2, c.requires.4)

pub window_over-w-requires : goal.window_over-w-requires
window_over-w-requires c =
    let near = c.seek_near-near.ensures in
    let far = c.seek_far-far.ensures in (
      c.requires.0.most,
      c.requires.0.masked,
      passed-fits c.args.len c.args.word (digits_of c.args.piece.now) _ c.args.first c.args.window c.requires.0.most (digits-binary c.args.piece.now) _ _
          c.requires.1 near,
      c.requires.2,
      far.0,
      omega (arith, far.1, c.requires.4),
    )

pub seek_near-requires : goal.seek_near-requires
seek_near-requires c =
    let near = c.seek_near-near.ensures in
    let far = c.seek_far-far.ensures in
    let s =
    stop-at c.args.first c.args.end c.min.result _ c.requires.3
    c.min.ensures near.before c.if-near-start.false in
    let on =
    passed-far c.args.len c.args.word (digits_of c.args.piece.now) c.args.end c.args.first c.args.window (digits-binary c.args.piece.now)
    c.requires.0.most c.requires.1 _ _ _ _ _ near s.3 far.0 far.1 far.2 c.window_over-w.ensures in (
      c.requires.0,
      passed-fits c.args.len c.args.word (digits_of c.args.piece.now) c.args.end c.args.first c.args.window c.requires.0.most
          (digits-binary c.args.piece.now) _ _ c.requires.1 on,
      c.requires.2,
      omega (arith, far.1),
      omega (arith, c.requires.3, c.requires.4),
    )

pub returns : goal.returns
returns c =
    let near = c.seek_near-near.ensures in
    let far = c.seek_far-far.ensures in
    let s =
    stop-at c.args.first c.args.end c.min.result _ c.requires.3
    c.min.ensures near.before c.if-near-start.false in
    let on =
    passed-far c.args.len c.args.word (digits_of c.args.piece.now) c.args.end c.args.first c.args.window (digits-binary c.args.piece.now)
    c.requires.0.most c.requires.1 _ _ _ _ _ near s.3 far.0 far.1 far.2 c.window_over-w.ensures in
    let last = passed-before c.args.len c.args.word (digits_of c.args.piece.now) c.args.end _ _ _ _ _ c.seek_near.ensures (omega (arith, c.requires.3)) in
    passed-join _ _ _ _ _ _ _ _ _ _ _ on last
