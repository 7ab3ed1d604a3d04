-- Laws of the run over a piece: the loop's invariant, one turn of the loop, and its two ends.
use mathlib.Core.Path.{◌≡◌, refl, sym, ◌∙◌}
use mathlib.Core.Bool.{true, false}
use mathlib.Core.List.{List}
use Prim.Native.Nat.{ℕ, suc, ◌+◌, ◌*◌, ◌-◌, ◌≤◌, ◌<◌}
use native.Mathlib.Omega.{arith}
use lib.ListN.{length, get_or}
use Rattle.digits.specs.Digits.{digits_of, between}
use Rattle.digits.proofs.Runs.{piece-step}
use Rattle.table.specs.declared.Row.{Row}
use Rattle.modes.specs.declared.Core.{Core}
use Rattle.pieces.specs.declared.alarm.Stretch.{Stretch}
use Rattle.modes.specs.Modes.{step_of, tested_at}
use Rattle.pieces.specs.Frame.{keep_of, ready_of}
use Rattle.pieces.specs.Alarm.{counted, Counting}
use Rattle.digits.specs.Runs.{piece_of}
use Rattle.receiver.specs.Feed.{state_of, after_of, accepted, run_of}
use Rattle.modes.specs.Modes.{Valid}
use Rattle.receiver.specs.Hunt.{Hunted}
use Rattle.receiver.specs.Carry.{Carried}
use Rattle.pieces.proofs.Counts.{counted_none, counted-one, counted-join}

-- what is left to do at place p, with core c, frame f and the digits so far counted, is what was to do at the start
pub record Going (row : Row) (slice : List ℕ) (first count end level : ℕ) (st₀ : Stretch) (c₀ : Core) (f₀ : List ℕ) (c : Core) (f : List ℕ) (words p : ℕ) : Type 0 where
  pub valid : Valid row c
  pub counting : Counting row st₀
  pub from : first ≤ p
  pub upto : p ≤ end
  pub ends : end ≡ first + count
  pub within : end ≤ 8 * length slice
  pub small : length slice ≤ 65536
  pub most : words ≤ p - first
  pub same : run_of row (piece_of slice p (end - p)) (p - first) words (state_of level c f (counted row st₀ (between slice first p)))
      ≡ run_of row (piece_of slice first count) 0 0 (state_of level c₀ f₀ st₀)

pub going : (row : Row) (slice : List ℕ) (first count level : ℕ) (st : Stretch) (c : Core) (f : List ℕ)
    → Valid row c → Counting row st → length slice ≤ 65536 → first + count ≤ 8 * length slice
    → Going row slice first count (first + count) level st c f c f 0 first
going row slice first count level st c f v k small within =
    let none : first - first ≡ 0 = omega arith in
    let whole : first + count - first ≡ count = omega arith in
    record {
      valid = v;
      counting = k;
      from = omega arith;
      upto = omega arith;
      ends = refl;
      within = within;
      small = small;
      most = omega arith;
      same = rw (← counted_none row slice st first, none, whole);
    }

-- a stretch of the hunt leaves the same to do
pub going_on : (row : Row) (slice : List ℕ) (first count end level : ℕ) (st₀ : Stretch) (c₀ : Core) (f₀ : List ℕ) (c : Core) (f : List ℕ) (words p at tested : ℕ) (c' : Core)
    → Going row slice first count end level st₀ c₀ f₀ c f words p → Hunted row slice end p c at tested c'
    → Going row slice first count end level st₀ c₀ f₀ c' f (words + tested) at
going_on row slice first count end level st₀ c₀ f₀ c f words p at tested c' g h =
    let t : p - first + (at - p) ≡ at - first = omega (arith, g.from, h.from) in
    record {
      valid = h.valid;
      counting = g.counting;
      from = omega (arith, g.from, h.from);
      upto = omega (arith, h.before);
      ends = g.ends;
      within = g.within;
      small = g.small;
      most = omega (arith, g.most, h.most, g.from, h.from);
      same = rw (t, ← counted-join row slice st₀ first p at g.from h.from) at (sym (h.same level (p - first) words f (counted row st₀ (between slice first p)))) ∙ g.same;
    }

-- so do digits in a hurry outside hunting
pub going-carried : (row : Row) (slice : List ℕ) (first count end level : ℕ) (st₀ : Stretch) (c₀ : Core) (f₀ : List ℕ) (c : Core) (f : List ℕ) (words p at : ℕ) (c' : Core) (f' : List ℕ)
    → Going row slice first count end level st₀ c₀ f₀ c f words p → Carried row slice end p c f at c' f'
    → Going row slice first count end level st₀ c₀ f₀ c' f' words at
going-carried row slice first count end level st₀ c₀ f₀ c f words p at c' f' g h =
    let t : p - first + (at - p) ≡ at - first = omega (arith, g.from, h.from) in
    record {
      valid = h.valid;
      counting = g.counting;
      from = omega (arith, g.from, h.from);
      upto = omega (arith, h.before);
      ends = g.ends;
      within = g.within;
      small = g.small;
      most = omega (arith, g.most, g.from, h.from);
      same = rw (t, ← counted-join row slice st₀ first p at g.from h.from) at (sym (h.same level (p - first) words (counted row st₀ (between slice first p)))) ∙ g.same;
    }

module _ (row : Row) (slice : List ℕ) (first count end level : ℕ) (st₀ : Stretch) (c₀ : Core) (f₀ : List ℕ) (c : Core) (f : List ℕ) (words p : ℕ)
    (g : Going row slice first count end level st₀ c₀ f₀ c f words p) where
  pub run_end : (st : Stretch) → st ≡ counted row st₀ (between slice first p) → end ≤ p
      → accepted (state_of level c f st) (p - first) words false ≡ run_of row (piece_of slice first count) 0 0 (state_of level c₀ f₀ st₀)
  unfolding run_of
  run_end st es h =
      let e : end - p ≡ 0 = omega (arith, g.upto) in
      rw es (rw e at g.same)

  -- a turn, by what its calls ensure
  module _ (h : p < end) (d tested : ℕ) (c' : Core) (f' : List ℕ)
      (ed : d ≡ get_or (digits_of slice) p 0) (ec : c' ≡ step_of row c d) (et : tested ≡ tested_at row c) (ef : f' ≡ keep_of row c' d f) where
    after_is : after_of row (state_of level c f (counted row st₀ (between slice first p))) (get_or (digits_of slice) p 0)
        ≡ state_of level c' f' (counted row st₀ (between slice first (p + 1)))
    unfolding after_of
    after_is = rw (counted-one row slice st₀ first p d g.from (omega (arith, g.within)) ed, ← ed, ← ec, ← ef)

    pub run_on : ready_of row c' ≡ false
        → run_of row (piece_of slice (p + 1) (end - (p + 1))) (p + 1 - first) (words + tested)
        (state_of level c' f' (counted row st₀ (between slice first (p + 1))))
        ≡ run_of row (piece_of slice first count) 0 0 (state_of level c₀ f₀ st₀)
    unfolding run_of
    run_on er =
        let t : p + 1 - first ≡ suc (p - first) = omega (arith, g.from) in
        rw et (rw (piece-step slice p end h g.within, after_is, er, ← t) at g.same)

    pub run-ready : (st : Stretch) → st ≡ counted row st₀ (between slice first (p + 1)) → ready_of row c' ≡ true
        → accepted (state_of level c' f' st) (p + 1 - first) (words + tested) true ≡ run_of row (piece_of slice first count) 0 0 (state_of level c₀ f₀ st₀)
    unfolding run_of
    run-ready st es er =
        let t : p + 1 - first ≡ suc (p - first) = omega (arith, g.from) in
        rw (et, es) (rw (piece-step slice p end h g.within, after_is, er, ← t) at g.same)
