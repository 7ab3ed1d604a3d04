-- `feed_four`: tributary after tributary.
use mathlib.Core.Path.{◌≡◌}
use mathlib.Core.List.{List}
use Prim.Native.Nat.{ℕ, ◌+◌, ◌*◌}
use lib.ListN.{length}
use Rattle.digits.specs.Digits.{digits_of}
use Rattle.table.specs.declared.Row.{Row}
use Rattle.levels.specs.Sizes.{quarter_of}
use Rattle.levels.specs.Order.{actions}
use Rattle.slips.specs.Slips.{lent_from}
use Rattle.verdict_blocks.specs.Blocks.{Block, frames_to}
use Rattle.verdict_blocks.specs.Readings.{carried_in}
use Rattle.verdict_blocks.specs.Keeping.{block_at, with_blocks}
use Rattle.verdict_blocks.proofs.ways.feed_four.Given as goal

-- tributary j's block after the frames
abbrev ran_in : List ℕ → ℕ → Row → ℕ → List ℕ → ℕ → List ℕ → List ℕ → ℕ → ℕ → Block
ran_in state w row earlier notes pattern room sent base j =
    frames_to pattern (lent_from base (digits_of (quarter_of sent j))) (digits_of (quarter_of room j)) (λ (f : ℕ). carried_in row (actions row earlier notes j f))
    (block_at state (4 * w + j)) (length notes)

abbrev pub invariant-loop-j : goal.invariant-loop-j
invariant-loop-j l =
    (l.state ≡ with_blocks l.initial.state (4 * l.w) (ran_in l.initial.state l.w l.row l.earlier l.notes l.pattern l.room l.sent l.base) l.j)
    × (length l.state ≡ 683)
    × (length l.scratch ≡ 128)
