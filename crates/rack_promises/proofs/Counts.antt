-- The count of aligned lines is a count over records: of each record its mode is asked, and nothing else.
use mathlib.Core.Path.{◌≡◌, refl, ap, ◌∙◌}
use mathlib.Core.Bool.{cond}
use mathlib.Core.List.{List, [], ◌∷◌}
use Prim.Native.Nat.{ℕ, zero, suc, ◌+◌, ◌≤◌}
use native.Mathlib.Omega.{arith}
use lib.ListN.{length}
use borrow.Author.Tests.{le-ltb}
use Rattle.digits.specs.Sums.{sum_to}
use Rattle.records.specs.declared.record.Record.{Record}
use Rattle.records.specs.Record.{is_aligned}
use Rattle.rack.specs.Rack.{at, aligned_of, AlignedMet}
use Rattle.records.specs.Rule.{count_refusal}
use Rattle.rack_promises.specs.Alone.{aligned_in}

-- the first term of a sum, taken out
first_out : (n : ℕ) (g : ℕ → ℕ) → sum_to (suc n) g ≡ g 0 + sum_to n (λ i. g (suc i))
unfolding sum_to
first_out zero g = omega arith
first_out (suc n) g = let e = first_out n g in omega (arith, e)

pub sum-is-count : (records : List Record) → aligned_of records (length records) ≡ aligned_in records
unfolding sum_to aligned_in
sum-is-count [] = refl
sum-is-count (r ∷ records) =
    first_out (length records) (λ i. cond (is_aligned (at (r ∷ records) i).mode) 1 0) ∙ ap (λ (n : ℕ). cond (is_aligned r.mode) 1 0 + n) (sum-is-count records)

-- what the call tells of a list of up to 64
pub counted : (records : List Record) (r : ℕ) (answer : List ℕ) → AlignedMet records r answer → length records ≤ 64 → (r ≡ 0) × (answer ≡ aligned_in records ∷ [])
unfolding count_refusal
counted records r answer met few =
    let none : count_refusal (length records) ≡ 0 = rw (le-ltb 64 (length records) few) in
    (met.0 ∙ none, met.1 ∙ rw none (ap (λ (n : ℕ). n ∷ []) (sum-is-count records)))
