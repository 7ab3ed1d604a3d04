-- `feed_four`: tributary after tributary.
use mathlib.Core.Path.{◌≡◌, refl, sym}
use mathlib.Core.List.{List}
use Prim.Native.Nat.{ℕ, ◌+◌, ◌*◌}
use lib.ListN.{length}
use native.Mathlib.Omega.{arith}
use Rattle.digits.specs.Digits.{digits_of}
use Rattle.table.specs.declared.Row.{Row}
use Rattle.levels.specs.Sizes.{quarter_of}
use Rattle.levels.specs.Order.{actions}
use Rattle.slips.specs.Slips.{lent_from}
use Rattle.verdict_blocks.specs.Blocks.{Block, frames_to}
use Rattle.verdict_blocks.specs.Readings.{carried_in}
use Rattle.verdict_blocks.specs.Keeping.{block_at, with_block}
use Rattle.verdict_blocks.proofs.Sizes.{counted-by}
use Rattle.verdict_blocks.proofs.Several.{several-none, several-next, several-ahead, run-whole}
use Rattle.verdict_blocks.proofs.ways.feed_four.Goals as goal

-- tributary j's block after the frames
abbrev ran_in : List ℕ → ℕ → Row → ℕ → List ℕ → ℕ → List ℕ → List ℕ → ℕ → ℕ → Block
ran_in state w row earlier notes pattern room sent base j =
    frames_to pattern (lent_from base (digits_of (quarter_of sent j))) (digits_of (quarter_of room j)) (λ (f : ℕ). carried_in row (actions row earlier notes j f))
    (block_at state (4 * w + j)) (length notes)

pub loop-j-init : goal.loop-j-init
loop-j-init c = (sym (several-none c.args.state.now (4 * c.args.w) _ c.requires.0), c.requires.0, c.requires.8)

pub bounds-counts-j : goal.bounds-counts-j
bounds-counts-j c = omega arith

pub feed_at-requires : goal.feed_at-requires
feed_at-requires c =
    let l = c.loop-j in
    let p = c.requires in
    let a = c.args in
    let r = p.6 l.j (omega arith) in
    let same =
    several-ahead a.state.now (4 * a.w) (ran_in a.state.now a.w a.row a.earlier a.notes.now a.pattern a.room.now a.sent.now a.base) p.0
    l.j l.state l.invariant.0 (omega (arith, p.1))
    (λ i hi.
    run-whole a.row p.2 a.pattern (lent_from a.base (digits_of (quarter_of a.sent.now i))) (digits_of (quarter_of a.room.now i)) a.earlier a.notes.now i
    (block_at a.state.now (4 * a.w + i)) p.3 (p.6 i (omega arith))) in
    (l.invariant.1, omega (arith, p.1), (p.2, omega arith, p.3, p.4, p.5, rw same r.known, rw same r.sound, p.7, l.invariant.2), counted-by a.row p.2 a.earlier a.notes.now _ l.j (omega arith) p.9)

pub loop-j-preserved : goal.loop-j-preserved
loop-j-preserved c =
    let l = c.loop-j in
    let p = c.requires in
    let a = c.args in
    let g : ℕ → Block = ran_in a.state.now a.w a.row a.earlier a.notes.now a.pattern a.room.now a.sent.now a.base in
    let same =
    several-ahead a.state.now (4 * a.w) g p.0 l.j l.state l.invariant.0 (omega (arith, p.1))
    (λ i hi.
    run-whole a.row p.2 a.pattern (lent_from a.base (digits_of (quarter_of a.sent.now i))) (digits_of (quarter_of a.room.now i)) a.earlier a.notes.now i
    (block_at a.state.now (4 * a.w + i)) p.3 (p.6 i (omega arith))) in
    let fed : c.feed_at.new.state ≡ with_block l.state (4 * a.w + l.j) (g l.j) = rw same at c.feed_at.ensures in (
      several-next a.state.now (4 * a.w) g p.0 l.j (l.j + 1) l.state c.feed_at.new.state refl l.invariant.0 fed,
      omega (arith, c.feed_at.auto.state, l.invariant.1),
      omega (arith, c.feed_at.auto.scratch, l.invariant.2),
    )

pub shape_of-state : goal.shape_of-state
shape_of-state c = omega (arith, c.loop-j.invariant.1, c.requires.0)

pub shape_of-scratch : goal.shape_of-scratch
shape_of-scratch c = omega (arith, c.loop-j.invariant.2, c.requires.8)

pub returns : goal.returns
returns c =
    let l = c.loop-j in
    let end : l.j ≡ 4 = omega arith in
    rw end at l.invariant.0
