-- A fresh state: its blocks, written one after the other; and it is valid.
use mathlib.Core.Path.{◌≡◌, refl, ◌∙◌}
use mathlib.Core.Bool.{Bool, cond, true, false, ◌&&◌}
use mathlib.Core.List.{List, ◌++◌, append_assoc}
use Prim.Native.Nat.{ℕ, ◌+◌, ◌*◌, ◌≤◌}
use native.Mathlib.Omega.{arith}
use native.Mathlib.Decide.{ℕ_discrete}
use native.Mathlib.Numerals.{add-one}
use lib.ListN.{length, take, drop}
use lib.Dec.{leb, ltb}
use borrow.Author.Tests.{le-leb, ltb-false}
use Rattle.digits.specs.Digits.{tab}
use Rattle.digits.proofs.Laws.{tab-length}
use Rattle.table.specs.declared.Row.{Row}
use Rattle.levels.specs.Order.{has_negative}
use Rattle.levels.specs.Faults.{bad_earlier}
use Rattle.slips.specs.Slips.{step_price, apart, fresh}
use Rattle.verdict_blocks.specs.Blocks.{Block, fresh_block}
use Rattle.verdict_blocks.specs.Keeping.{block_numbers, block_from, block_at, with_block}
use Rattle.verdict_states.specs.States.{blocks_numbers, numbers_of, state_from, fresh_state, bad_pattern, fresh_fault, good_lanes, good_standing, good_blocks, good_head, is_valid}
use Rattle.verdict_blocks.proofs.Kept.{numbers-length}
use Rattle.verdict_states.proofs.Cutting.{part-more}
use Rattle.verdict_states.proofs.Good.{pattern-one, head-parts}

lanes-whole : length fresh ≡ 17
unfolding fresh
lanes-whole = tab-length 17 0 (λ (k : ℕ). step_price * apart k 8)

pub fresh-whole : (pattern : ℕ) → length (block_numbers (fresh_block pattern)) ≡ 42
fresh-whole pattern = numbers-length (fresh_block pattern) lanes-whole (tab-length 17 0 (λ (k : ℕ). 0))

-- one more block
pub blocks_more : (ns head : List ℕ) (b : ℕ) (g : ℕ → Block) → 11 + 42 * b ≤ length ns → length (block_numbers (g b)) ≡ 42
    → take (11 + 42 * b) ns ≡ head ++ blocks_numbers b g → take (11 + 42 * (b + 1)) (with_block ns b (g b)) ≡ head ++ blocks_numbers (b + 1) g
unfolding with_block blocks_numbers
blocks_more ns head b g long whole e =
    let at : 11 + 42 * (b + 1) ≡ 11 + 42 * b + 42 = omega arith in
    let more : take (11 + 42 * b + 42) (take (11 + 42 * b) ns ++ (block_numbers (g b) ++ drop 42 (drop (11 + 42 * b) ns))) ≡ head ++ (blocks_numbers b g ++ block_numbers (g b)) =
    part-more (11 + 42 * b) 42 ns (block_numbers (g b)) (head ++ blocks_numbers b g) long whole e (drop 42 (drop (11 + 42 * b) ns))
    ∙ append_assoc head (blocks_numbers b g) (block_numbers (g b)) in
    rw (at, add-one b) more

-- ---- a fresh state is valid

fault-parts : (p q : Bool) → ◌≡◌ {A = ℕ} (cond p 13 (cond q 5 0)) 0 → (p ≡ false) × (q ≡ false)
fault-parts true q e = absurd (none e)
  where
    none : ◌≡◌ {A = ℕ} 13 0 → ⊥
    none z = omega arith
fault-parts false true e = absurd (none e)
  where
    none : ◌≡◌ {A = ℕ} 5 0 → ⊥
    none z = omega arith
fault-parts false false e = (refl, refl)

vote-low : (t : Bool) (earlier other : ℕ) → (t && ltb 15 earlier) ≡ false → other ≤ 15 → leb (cond t earlier other) 15 ≡ true
vote-low true earlier other e h = le-leb earlier 15 (ltb-false 15 earlier e)
vote-low false earlier other e h = le-leb other 15 h

module _ (row : Row) (level earlier pattern : ℕ) where
  abbrev made : List ℕ
  made = numbers_of (fresh_state row level earlier pattern)

  blocks-fresh : bad_pattern pattern ≡ false → good_blocks pattern (block_at made) 16 ≡ true
  unfolding good_blocks good_standing good_lanes numbers_of blocks_numbers block_numbers block_from fresh_state fresh tab
  blocks-fresh good =
      elim (ℕ_discrete pattern 0) [
        | yes z ↦ rw z
        | no some ↦
            elim (ℕ_discrete pattern 15) [
              | yes e ↦ rw e
              | no far ↦ rw (pattern-one pattern good some far)
            ]
      ]

  head-fresh : bad_pattern pattern ≡ false → bad_earlier row earlier ≡ false → good_head (state_from made) ≡ true
  unfolding numbers_of fresh_state
  head-fresh good low =
      head-parts made
      ∙ rw (good, vote-low (has_negative row) earlier 0 low (omega arith), vote-low (has_negative row) earlier 15 low (omega arith))

  pub fresh-valid : fresh_fault row earlier pattern ≡ 0 → is_valid (state_from made) ≡ true
  unfolding fresh_fault state_from numbers_of fresh_state
  fresh-valid none =
      let parts = fault-parts (bad_pattern pattern) (bad_earlier row earlier) none in
      rw (head-fresh parts.0 parts.1) (blocks-fresh parts.0)
