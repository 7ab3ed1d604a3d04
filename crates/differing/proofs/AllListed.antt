-- Where no more digits differ than are listed, each of them is listed, the last too.
use mathlib.Core.Path.{◌≡◌}
use mathlib.Core.Bool.{Bool}
use mathlib.Core.List.{List}
use Prim.Native.Nat.{ℕ, ◌+◌, ◌≤◌, ◌<◌}
use native.Mathlib.Omega.{arith}
use Rattle.table.specs.declared.Row.{Row}
use Rattle.tally.specs.Tally.{all_of}
use Rattle.tally.proofs.Sums.{all_more}
use Rattle.differing.specs.Promises.{Lists}
use Rattle.differing.specs.AllListed.{EachListed}
use Rattle.differing.proofs.Picked.{all-rises}

pub each-listed : (row : Row) (test : ℕ → Bool) (n listed : ℕ) (places : List ℕ) → Lists row test n listed places → all_of test n ≤ listed
    → EachListed row test n listed places
each-listed row test n listed places lists few p h c = (all_of test p, (before, lists.complete p h c before))
  where
    one : all_of test (p + 1) ≡ all_of test p + 1
    one = rw c at (all_more row test p)

    before : all_of test p < listed
    before = omega (arith, one, all-rises test (p + 1) n (omega arith))
