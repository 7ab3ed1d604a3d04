-- What is counted along a reading's room is what the definitions count along the reading: the first n digits of its quarter.
use mathlib.Core.Path.{◌≡◌}
use mathlib.Core.List.{List}
use Prim.Native.Nat.{ℕ, ◌+◌, ◌-◌, ◌≤◌, ◌<◌}
use native.Mathlib.Omega.{arith}
use lib.ListN.{length, take}
use lib.Seq.{length-take-le, get_or-take}
use Rattle.digits.proofs.Sums.{sum_same}
use Rattle.judge.specs.Wrong.{stage_of, due_at, wrong_at, wrong_in}
use Rattle.judge.specs.Counting.{wrong_among}

pub wrong-counted : (pattern : ℕ) (ds sent : List ℕ) (n : ℕ) → n ≤ length ds → wrong_among pattern sent ds (n - pattern) ≡ wrong_in pattern sent (take n ds)
unfolding wrong_among wrong_in due_at
wrong-counted pattern ds sent n h =
    rw (length-take-le n ds h)
    (sum_same (n - pattern) (λ (k : ℕ). wrong_at pattern sent ds (pattern + k)) (λ (k : ℕ). wrong_at pattern sent (take n ds) (pattern + k)) same)
  where
    same : (k : ℕ) → k < n - pattern → wrong_at pattern sent ds (pattern + k) ≡ wrong_at pattern sent (take n ds) (pattern + k)
    same k hk =
        rw (
          get_or-take n ds (pattern + k) 0 (omega arith),
          get_or-take n ds (pattern + k - stage_of pattern) 0 (omega arith),
          get_or-take n ds (pattern + k - pattern) 0 (omega arith),
        )
