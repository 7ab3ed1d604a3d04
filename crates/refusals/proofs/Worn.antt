-- The verdict on a worn line: each of its two calls' refusal number is the first of its table that applies, and a refused call leaves nothing.
use Rattle.std.specs.Prelude.{Option, Some, None}
use mathlib.Core.Path.{◌≡◌, refl, ◌∙◌}
use mathlib.Core.Bool.{Bool, true, false, not, ◌&&◌}
use mathlib.Core.List.{List}
use Prim.Native.Nat.{ℕ, ◌%◌}
use lib.Dec.{eqb, ltb}
use lib.ListN.{length, get_or, replicate}
use borrow.Author.Tests.{eqb-true}
use Rattle.table.specs.declared.Row.{Row}
use Rattle.table.specs.Table.{level_of}
use Rattle.levels.specs.Sizes.{on_level, bad_line}
use Rattle.levels.specs.Faults.{bad_earlier}
use Rattle.verdict.specs.Feed.{feed_fault, feed_refusal, state_on, answer_on, FeedMet}
use Rattle.verdict_states.specs.States.{state_from, bad_pattern, is_valid, fresh_fault, fresh_refusal, fresh_numbers, FreshMet}
use Rattle.refusals.specs.First.{FirstThatApplies}
use Rattle.refusals.specs.Worn.{fresh_table, feed_table, FreshNothing, FeedNothing}
use Rattle.refusals.proofs.First.{first_of, is-first}

-- ---- a fresh state

pub verdict-fresh-order : (level earlier pattern : ℕ) → FirstThatApplies (fresh_table level earlier pattern) (fresh_refusal level earlier pattern)
unfolding fresh_fault
verdict-fresh-order level earlier pattern =
    is-first (fresh_table level earlier pattern) (fresh_refusal level earlier pattern) (go (level_of level) refl)
  where
    go : (l : Option Row) → level_of level ≡ l → first_of (fresh_table level earlier pattern) ≡ fresh_refusal level earlier pattern
    go (Some row) e = by (bad_pattern pattern) (bad_earlier row earlier) refl refl
      where
        by : (p d : Bool) → bad_pattern pattern ≡ p → bad_earlier row earlier ≡ d → first_of (fresh_table level earlier pattern) ≡ fresh_refusal level earlier pattern
        by true d ep ed = rw (e, ep)
        by false true ep ed = rw (e, ep, ed)
        by false false ep ed = rw (e, ep, ed)
    go None e = rw e

pub verdict-fresh-nothing : (level earlier pattern refusal : ℕ) (made : List ℕ) → FreshMet level earlier pattern refusal made → (refusal ≡ 0 → ⊥) → FreshNothing made
verdict-fresh-nothing level earlier pattern refusal made met h = met.1 ∙ go (level_of level) refl (λ e. h (met.0 ∙ e))
  where
    go : (l : Option Row) → level_of level ≡ l → (fresh_refusal level earlier pattern ≡ 0 → ⊥) → FreshNothing (fresh_numbers level earlier pattern)
    go None e refused = rw e
    go (Some row) e refused = by (eqb (fresh_fault row earlier pattern) 0) refl
      where
        by : (t : Bool) → eqb (fresh_fault row earlier pattern) 0 ≡ t → FreshNothing (fresh_numbers level earlier pattern)
        by true t = absurd (refused (rw e (eqb-true (fresh_fault row earlier pattern) 0 t)))
        by false t = rw (e, t)

-- ---- a feed

pub verdict-feed-order : (state : List ℕ) (line next sent : ℕ) → FirstThatApplies (feed_table state line next sent) (feed_refusal state line next sent)
unfolding feed_fault
verdict-feed-order state line next sent = is-first (feed_table state line next sent) (feed_refusal state line next sent) (go (level_of (get_or state 0 0)) refl)
  where
    go : (l : Option Row) → level_of (get_or state 0 0) ≡ l → first_of (feed_table state line next sent) ≡ feed_refusal state line next sent
    go (Some row) e =
        by (is_valid (state_from state)) (bad_line row line) (eqb (state_from state).pattern 0 && not (eqb (sent % 4) 0)) (ltb 16 next) refl refl refl refl
      where
        by : (v a c d : Bool) → is_valid (state_from state) ≡ v → bad_line row line ≡ a → (eqb (state_from state).pattern 0 && not (eqb (sent % 4) 0)) ≡ c → ltb 16 next ≡ d
            → first_of (feed_table state line next sent) ≡ feed_refusal state line next sent
        by false a c d ev ea ec ed = rw (e, ev)
        by true true c d ev ea ec ed = rw (e, ev, ea)
        by true false true d ev ea ec ed = rw (e, ev, ea, ec)
        by true false false true ev ea ec ed = rw (e, ev, ea, ec, ed)
        by true false false false ev ea ec ed = rw (e, ev, ea, ec, ed)
    go None e = rw e

abbrev left_by : List ℕ → List ℕ → ℕ → List ℕ → ℕ → List ℕ
left_by state line next sent first = on_level (level_of (get_or state 0 0)) (λ (row : Row). state_on row state line next sent first) state

abbrev answer_by : List ℕ → List ℕ → ℕ → List ℕ → ℕ → List ℕ
answer_by state line next sent first = on_level (level_of (get_or state 0 0)) (λ (row : Row). answer_on row state line next sent first) (replicate 88 0)

pub verdict-feed-nothing : (state line : List ℕ) (next : ℕ) (sent : List ℕ) (first refusal : ℕ) (left answer : List ℕ)
    → FeedMet state line next sent first refusal left answer → (refusal ≡ 0 → ⊥) → FeedNothing state left answer
verdict-feed-nothing state line next sent first refusal left answer met h =
    rw (met.leaves, met.answers) (go (level_of (get_or state 0 0)) refl (λ e. h (met.number ∙ e)))
  where
    go : (l : Option Row) → level_of (get_or state 0 0) ≡ l → (feed_refusal state (length line) next (length sent) ≡ 0 → ⊥) → FeedNothing state (left_by state line next sent first) (answer_by state line next sent first)
    go None e refused = rw e (refl, refl)
    go (Some row) e refused = by (eqb (feed_fault row (state_from state) (length line) next (length sent)) 0) refl
      where
        by : (t : Bool) → eqb (feed_fault row (state_from state) (length line) next (length sent)) 0 ≡ t → FeedNothing state (left_by state line next sent first) (answer_by state line next sent first)
        by true t = absurd (refused (rw e (eqb-true (feed_fault row (state_from state) (length line) next (length sent)) 0 t)))
        by false t = rw (e, t) (refl, refl)
