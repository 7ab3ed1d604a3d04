-- The first note that meets a test stands where std's words find it.
use mathlib.Core.Path.{◌≡◌, refl}
use mathlib.Core.Bool.{Bool, true, false}
use mathlib.Core.List.{List}
use Prim.Native.Nat.{ℕ}
use native.Mathlib.Numerals.{one-add}
use native.Mathlib.Omega.{arith}
use lib.Dec.{ltb}
use lib.ListN.{length}
use Rattle.std.specs.Prelude.{Some, None}
use Rattle.std.specs.List.{position, position_or_len}
use Rattle.std.proofs.lemmas.Grind.{common_steps}
use Rattle.std.proofs.lemmas.List.Recursion.{is_position_or_len}
use Rattle.engine.specs.Engine.{first_with}

pub first_found : (test : ℕ → Bool) (notes : List ℕ) → first_with test notes ≡ position_or_len test notes
unfolding first_with
first_found test = is_position_or_len (first_with test) test refl (λ note notes. rw one-add)

-- what is known of the first note that meets a test where the search finds one, and where it finds none
pub found : (test : ℕ → Bool) (notes : List ℕ) (f : ℕ) → Some f ≡ position test notes → (ltb (first_with test notes) (length notes) ≡ true) × (first_with test notes ≡ f)
found test notes f e = grind (arith, common_steps, first_found test notes)

pub absent : (test : ℕ → Bool) (notes : List ℕ) → None ≡ position test notes → ltb (first_with test notes) (length notes) ≡ false
absent test notes e = grind (arith, common_steps, first_found test notes)
