-- `total`: the sum of the list is the sum by number.
use native.Mathlib.Omega.{arith}
use native.Mathlib.Numerals.{add-one}
use mathlib.Core.Path.{◌≡◌, refl, ap, ◌∙◌}
use mathlib.Core.List.{List}
use Prim.Native.Nat.{ℕ, zero, suc, ◌+◌, ◌^◌, ◌≤◌, ◌<◌}
use lib.ListN.{length, get_or, take}
use Rattle.std.proofs.Common.{rules}
use Rattle.std.specs.List.{sum}
use Rattle.std.proofs.lemmas.List.{take_all}
use Rattle.std.proofs.lemmas.List.Sums.{sum_by_more}
use Rattle.digits.specs.Sums.{sum_to}
use Rattle.digits.proofs.Sums.{sum-most}
use Rattle.differing.proofs.counting.total.Goals as goal

by-number : (xs : List ℕ) (n : ℕ) → n ≤ length xs → sum (take n xs) ≡ sum_to n (λ (k : ℕ). get_or xs k 0)
unfolding sum_to
by-number xs zero h = refl
by-number xs (suc n) h =
    (rw add-one at (sum_by_more (λ (x : ℕ). x) xs n 0 (omega arith)))
    ∙ ap (λ (s : ℕ). s + get_or xs n 0) (by-number xs n (omega arith))

fifteen : (xs : List ℕ) → length xs ≡ 15 → sum xs ≡ sum_to 15 (λ (k : ℕ). get_or xs k 0)
fifteen xs e = rw (take_all 15 xs (omega arith)) at (by-number xs 15 (omega arith))

pub sum-requires-clause-fits : goal.sum-requires-clause-fits
sum-requires-clause-fits c =
    let xs = c.args.sums.now in
    let few : sum xs < 2 ^ 64 = omega (arith, fifteen xs c.told-sums, sum-most 15 (2 ^ 59) (λ (k : ℕ). get_or xs k 0) (λ k h. omega (arith, c.requires k))) in
    search rules

pub returns : goal.returns
returns c =
    let e : c.sum.result ≡ sum c.args.sums.now = search rules in
    e ∙ fifteen c.args.sums.now c.told-sums
