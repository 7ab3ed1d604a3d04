-- The delay of the notes: after f turns the first f are delayed, the others are as they were, and the note last seen is that of frame
-- f - 1, or the one before all.
use mathlib.Core.Path.{◌≡◌, refl, sym, ◌∙◌}
use mathlib.Core.List.{List, ◌∷◌}
use Prim.Native.Nat.{ℕ, ◌+◌, min, ◌≤◌, ◌<◌}
use native.Mathlib.Omega.{arith}
use native.Mathlib.Numerals.{add-one}
use native.Mathlib.Decide.{dec_lt, ℕ_discrete}
use lib.ListN.{length, get_or, set, length-set}
use lib.Seq.{get_or-set_same, get_or-set_other}
use borrow.Author.Tests.{lt-ltb, le-ltb}
use Rattle.digits.specs.Digits.{tab}
use Rattle.digits.proofs.Laws.{tab-of}
use Rattle.workbench.specs.Bench.{decided_by, delayed}

module _ (before : ℕ) (notes old : List ℕ) where
  -- the note of a frame that has one, and what stays past the notes
  delayed-in : (f : ℕ) → f < length notes → delayed before notes old f ≡ decided_by (get_or (before ∷ notes) f 0) (get_or notes f 0)
  unfolding delayed
  delayed-in f h = rw (lt-ltb f (length notes) h)

  delayed-past : (f : ℕ) → length notes ≤ f → delayed before notes old f ≡ get_or old f 0
  unfolding delayed
  delayed-past f h = rw (le-ltb f (length notes) h)

  pub record Delaying (f last : ℕ) (new : List ℕ) : Type 0 where
    pub seen : last ≡ get_or (before ∷ notes) f 0
    pub within : f ≤ length notes
    pub same : length new ≡ length old
    pub done : (k : ℕ) → k < f → get_or new k 0 ≡ delayed before notes old k
    pub ahead : (k : ℕ) → f ≤ k → get_or new k 0 ≡ get_or old k 0

  pub delaying-more : (f last note : ℕ) (new : List ℕ) → Delaying f last new → f < length notes → f < length old → note ≡ decided_by last (get_or notes f 0)
      → Delaying (f + 1) (get_or notes f 0) (set new f note)
  delaying-more f last note new d h ho e =
      record {
        seen = rw (add-one f) refl;
        within = omega arith;
        same = length-set new f note ∙ d.same;
        done = λ k hk. place k hk;
        ahead = λ k hk. get_or-set_other new f k note 0 (past k hk) ∙ d.ahead k (omega arith);
      }
    where
      past : (k : ℕ) → f + 1 ≤ k → k ≡ f → ⊥
      past k hk at = omega arith

      room : f < length new
      room = omega (arith, d.same)

      place : (k : ℕ) → k < f + 1 → get_or (set new f note) k 0 ≡ delayed before notes old k
      place k hk =
          elim (ℕ_discrete k f) [
            | yes at ↦ rw (at, get_or-set_same new f note 0 room, delayed-in f h, e, d.seen) refl
            | no other ↦ get_or-set_other new f k note 0 other ∙ d.done k (omega arith)
          ]

  -- the end: of the late notes or of the notes, whichever comes first
  pub delaying-end : (f last : ℕ) (new : List ℕ) → Delaying f last new → min (length old) (length notes) ≤ f → new ≡ tab (length old) 0 (delayed before notes old)
  delaying-end f last new d at = tab-of new (length old) (delayed before notes old) d.same place
    where
      place : (k : ℕ) → k < length old → get_or new k 0 ≡ delayed before notes old k
      place k hk =
          elim (dec_lt k f) [
            | yes h ↦ d.done k h
            | no n ↦ d.ahead k (omega arith) ∙ sym (delayed-past k (omega arith))
          ]
