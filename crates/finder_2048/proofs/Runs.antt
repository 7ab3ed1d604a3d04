-- Laws of the run over a piece: the loop's invariant, one turn of the loop, and its two ends.
use mathlib.Core.Path.{◌≡◌, refl, sym, ◌∙◌}
use mathlib.Core.Bool.{true, false}
use mathlib.Core.List.{List}
use Prim.Native.Nat.{ℕ, suc, ◌+◌, ◌*◌, ◌-◌, ◌≤◌, ◌<◌}
use native.Mathlib.Omega.{arith}
use lib.ListN.{length, get_or}
use Rattle.digits.specs.Digits.{digits_of}
use Rattle.digits.specs.Runs.{run_of, piece_of}
use Rattle.digits.proofs.Runs.{piece-step}
use Rattle.finder_2048.specs.declared.State.{State}
use Rattle.finder_2048.specs.Modes.{step_of, turned}
use Rattle.finder_2048.specs.Feed.{Valid, run_from}
use Rattle.finder_2048.specs.Hurry.{Hurried}

-- what is left to do at place p, with state s, is what was to do at the start
pub record Going (slice : List ℕ) (first count end : ℕ) (s₀ s : State) (p : ℕ) : Type 0 where
  pub valid : Valid s
  pub from : first ≤ p
  pub upto : p ≤ end
  pub ends : end ≡ first + count
  pub within : end ≤ 8 * length slice
  pub small : length slice ≤ 65536
  pub same : run_of step_of turned (piece_of slice p (end - p)) (p - first) s ≡ run_from s₀ (piece_of slice first count)

pub going : (slice : List ℕ) (first count : ℕ) (s : State)
    → Valid s → length slice ≤ 65536 → first + count ≤ 8 * length slice → Going slice first count (first + count) s s first
going slice first count s v small within =
    let none : first - first ≡ 0 = omega arith in
    let whole : first + count - first ≡ count = omega arith in
    record {
      valid = v;
      from = omega arith;
      upto = omega arith;
      ends = refl;
      within = within;
      small = small;
      same = rw (none, whole);
    }

-- digits in a hurry leave the same to do
pub going_on : (slice : List ℕ) (first count end : ℕ) (s₀ s : State) (p at : ℕ) (s' : State)
    → Going slice first count end s₀ s p → Hurried slice end p s at s' → Going slice first count end s₀ s' at
going_on slice first count end s₀ s p at s' g h =
    let t : p - first + (at - p) ≡ at - first = omega (arith, g.from, h.from) in
    record {
      valid = h.valid;
      from = omega (arith, g.from, h.from);
      upto = omega (arith, h.before);
      ends = g.ends;
      within = g.within;
      small = g.small;
      same = rw t at (sym (h.same (p - first))) ∙ g.same;
    }

module _ (slice : List ℕ) (first count end : ℕ) (s₀ s : State) (p : ℕ) (g : Going slice first count end s₀ s p) where
  pub run_end : end ≤ p → record { taken = p - first; stopped = false; state = s } ≡ run_from s₀ (piece_of slice first count)
  unfolding run_of
  run_end h =
      let e : end - p ≡ 0 = omega (arith, g.upto) in
      rw e at g.same

  -- a turn, by what its calls ensure
  module _ (h : p < end) (d : ℕ) (s' : State) (ed : d ≡ get_or (digits_of slice) p 0) (es : s' ≡ step_of s d) where
    step_is : step_of s (get_or (digits_of slice) p 0) ≡ s'
    step_is = rw (← ed, ← es)

    pub run_on : turned s s' ≡ false
        → run_of step_of turned (piece_of slice (p + 1) (end - (p + 1))) (p + 1 - first) s' ≡ run_from s₀ (piece_of slice first count)
    unfolding run_of
    run_on et =
        let t : p + 1 - first ≡ suc (p - first) = omega (arith, g.from) in
        rw (piece-step slice p end h g.within, step_is, et, ← t) at g.same

    pub run-stop : turned s s' ≡ true → record { taken = p + 1 - first; stopped = true; state = s' } ≡ run_from s₀ (piece_of slice first count)
    unfolding run_of
    run-stop et =
        let t : p + 1 - first ≡ suc (p - first) = omega (arith, g.from) in
        rw (piece-step slice p end h g.within, step_is, et, ← t) at g.same
