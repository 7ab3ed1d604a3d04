-- The search for the first note that meets a test: what the library's `position` tells of `first_with`.
use mathlib.Core.Path.{◌≡◌, refl}
use mathlib.Core.Bool.{Bool, cond, true, false}
use mathlib.Core.List.{List}
use Prim.Native.Nat.{ℕ, ◌≤◌, ◌<◌}
use native.Mathlib.Numerals.{one-add}
use lib.Dec.{ltb}
use lib.ListN.{length}
use borrow.Author.Tests.{ltb-true, ltb-false}
use Rattle.std.specs.Prelude.{Option, Some, None, position}
use Rattle.std.specs.List.{position_or_len}
use Rattle.std.proofs.lemmas.List.Recursion.{is_position_or_len}
use Rattle.levels.specs.Faults.{first_with}

module _ (test : ℕ → Bool) (notes : List ℕ) where
  first-is : first_with test notes ≡ position_or_len test notes
  unfolding first_with
  first-is = is_position_or_len (first_with test) test refl (λ x xs. rw one-add) notes

  by-length : (t : Bool) → ltb (first_with test notes) (length notes) ≡ t → (r : Option ℕ) → r ≡ cond t (Some (first_with test notes)) None
      → ((f : ℕ) → r ≡ Some f → (f ≡ first_with test notes) × (first_with test notes < length notes)) × (r ≡ None → length notes ≤ first_with test notes)
  by-length true e r is = ((λ f s. ((cc), ltb-true _ _ e)), λ n. absurd (cc))
  by-length false e r is = ((λ f s. absurd (cc)), λ n. ltb-false _ _ e)

  -- the note that it names, and where it names none
  pub first-found : (f : ℕ) → Some f ≡ position test notes → (f ≡ first_with test notes) × (first_with test notes < length notes)
  first-found f e = (by-length (ltb (first_with test notes) (length notes)) refl (Some f) (rw first-is e)).0 f refl

  pub none-found : None ≡ position test notes → length notes ≤ first_with test notes
  none-found e = (by-length (ltb (first_with test notes) (length notes)) refl None (rw first-is e)).1 refl
