-- `seek_by`: the word was met at none of the digits so far (proofs/Passing.antt).
use Prim.Native.Nat.{◌+◌, ◌-◌, ◌*◌, ◌/◌}
use native.Mathlib.Omega.{arith}
use Rattle.digits.proofs.Laws.{digits-binary}
use Rattle.strides.proofs.Passing.{unmet-none, unmet-more, turn-load, turn-place, turn-next}
use Rattle.strides.proofs.seek_by.Goals as goal

pub loop-at-init : goal.loop-at-init
loop-at-init c =
    (omega arith, c.requires.4, c.requires.3, unmet-none _ _ _ _)

pub load8-requires : goal.load8-requires
load8-requires c =
    turn-load c.args.from c.args.end c.loop-at.at c.args.places _ c.requires.2 c.requires.0.some c.loop-at.invariant.0 c.loop-at-test.true c.requires.5

pub is_clear-requires : goal.is_clear-requires
is_clear-requires c =
    let t = c.requires.0 in
    (t.least, t.most, t.fits, t.room, t.masked)

pub returns-then-not-is_clear : goal.returns-then-not-is_clear
returns-then-not-is_clear c =
    let l = c.loop-at in
    (l.invariant.0, l.invariant.1, l.invariant.3)

pub loop-at-preserved : goal.loop-at-preserved
loop-at-preserved c =
    let l = c.loop-at in
    let at = l.at in
    let n = c.args.places in
    let t = c.requires.0 in
    let clear = c.is_clear.ensures c.if-not-is_clear.false in (
      omega (arith, l.invariant.0),
      c.loop-at-test.true,
      turn-next at n l.invariant.2 t.bytes,
      unmet-more c.args.len c.args.word _ (digits-binary c.args.piece.now) c.args.from at (8 * ((at + n) / 8 - 8)) n _ t.room
          (turn-place c.args.from at n l.invariant.2 t.bytes c.requires.2 t.some l.invariant.0) c.load8.ensures clear l.invariant.3,
    )

pub returns : goal.returns
returns c =
    let l = c.loop-at in
    (l.invariant.0, l.invariant.1, l.invariant.3)
