-- Nothing lost: a reading costs nothing exactly where every one of its digits is the one sent at its own number; then no lane has moved.
use mathlib.Core.Path.{◌≡◌, refl, ◌∙◌, ap}
use mathlib.Core.List.{List}
use Prim.Native.Nat.{ℕ, zero, suc, ◌+◌, ◌-◌, ◌*◌, ◌/◌, ◌≤◌, ◌<◌}
use native.Mathlib.Omega.{arith}
use native.Mathlib.Nat.{add-zero, add-suc}
use lib.ListN.{length, get_or}
use Rattle.digits.specs.Digits.{tab}
use Rattle.digits.proofs.Laws.{tab-length}
use Rattle.digits.proofs.Sums.{sum-zero}
use Rattle.slips.specs.Slips.{step_price, wrong_price, apart, wrong_of, step_of, least_to, least_of, best_to, best_of, laid_at, laid_of, fresh, Settled}
use Rattle.slips.proofs.Rooms.{fresh_at}
use Rattle.slips.proofs.Settling.{settled-step}
use Rattle.verdict_blocks.specs.Blocks.{zero_at, fresh_low, start_of, frames_to, frame_to, digits_to}
use Rattle.verdict_promises.specs.Paths.{wrongs_on, slips_on, Near, Path, from_fresh, low_in}
use Rattle.verdict_promises.proofs.Least.{Best, least-reached}
use Rattle.verdict_promises.proofs.Runs.{digit-lanes, laid-known, laid-lanes, digits-known, run-known, run-lanes, block_in, lanes_in}

-- ---- the fresh lanes, settled in the middle one

fresh-long : length fresh ≡ 17
unfolding fresh
fresh-long = tab-length 17 0 (λ (k : ℕ). step_price * apart k 8)

fresh-settled : Settled 8 fresh
fresh-settled = record { lane = omega arith; others = λ k h. rw (fresh_at k h, fresh_at 8 (omega arith)) (omega arith) }

fresh-best : best_of fresh ≡ 8
unfolding fresh best_to tab
fresh-best = refl

fresh-laid : laid_of fresh 8 ≡ fresh
unfolding fresh laid_of laid_at least_to tab
fresh-laid = refl

fresh-least : least_of fresh ≡ 0
unfolding fresh least_of least_to tab
fresh-least = refl

module _ (sent : ℕ → ℕ) (ds : List ℕ) (counts : ℕ → ℕ) where
  -- the first n digits are right, each beside the digit sent of its own number
  abbrev pub Right : ℕ → Type 0
  Right n = (i : ℕ) → i < n → wrong_of sent (i + zero_at) (get_or ds i 0) ≡ 0

  -- ---- they leave the lanes as they were

  pub record Unmoved (low : ℕ) (lanes : List ℕ) : Type 0 where
    pub is_low : low ≡ fresh_low
    pub is_fresh : lanes ≡ fresh

  digits-right : (f : ℕ) → Unmoved (low_in sent ds counts f) (from_fresh sent ds counts f).lanes → (n : ℕ) → Right (start_of counts f + n) → lanes_in sent ds counts f n ≡ fresh
  unfolding digits_to
  digits-right f still zero right = still.is_fresh
  digits-right f still (suc n) right =
      let N = start_of counts f + n in
      let known = digits-known sent ds (start_of counts f) (start_of counts f) (low_in sent ds counts f) (from_fresh sent ds counts f) (run-known sent ds counts f) n in
      let old = digits-right f still n (λ i h. right i (omega arith)) in
      digit-lanes sent N (low_in sent ds counts f) (block_in sent ds counts f n) (get_or ds N 0) known
      ∙ stays N (low_in sent ds counts f) (lanes_in sent ds counts f n) still.is_low old (right N (omega arith))
    where
      stays : (N low : ℕ) (v : List ℕ) → low ≡ fresh_low → v ≡ fresh → wrong_of sent (N + zero_at) (get_or ds N 0) ≡ 0 → step_of sent (N + low) (get_or ds N 0) v ≡ fresh
      stays N low v e g right =
          let at : N + fresh_low + 8 ≡ N + zero_at = omega arith in
          rw (e, g) (settled-step sent 8 (N + fresh_low) (get_or ds N 0) fresh fresh-long fresh-settled (rw at right))

  pub run-right : (F : ℕ) → Right (start_of counts F) → Unmoved (low_in sent ds counts F) (from_fresh sent ds counts F).lanes
  unfolding frames_to frame_to start_of
  run-right zero right = record { is_low = refl; is_fresh = refl }
  run-right (suc f) right =
      let still = run-right f (λ i h. right i (omega arith)) in
      let end = digits-right f still (counts f) right in
      let b = block_in sent ds counts f (counts f) in
      let known = digits-known sent ds (start_of counts f) (start_of counts f) (low_in sent ds counts f) (from_fresh sent ds counts f) (run-known sent ds counts f) (counts f) in
      let low = (laid-known sent (start_of counts f + counts f) (low_in sent ds counts f) b known).is_low in
      let lanes = laid-lanes sent (start_of counts f + counts f) (low_in sent ds counts f) b known in
      record {
        is_low = low ∙ lower (low_in sent ds counts f) b.lanes still.is_low end;
        is_fresh = lanes ∙ laid b.lanes end;
      }
    where
      lower : (l : ℕ) (v : List ℕ) → l ≡ fresh_low → v ≡ fresh → l + best_of v - 8 ≡ fresh_low
      lower l v e g = rw (e, g, fresh-best) (omega arith)

      laid : (v : List ℕ) → v ≡ fresh → laid_of v (best_of v) ≡ fresh
      laid v g = rw (g, fresh-best) fresh-laid

  -- so they cost nothing
  pub right-free : (F : ℕ) → Right (start_of counts F) → least_of (from_fresh sent ds counts F).lanes ≡ 0
  right-free F right = ap least_of (run-right F right).is_fresh ∙ fresh-least

  -- and the path that never steps stays in the lanes
  start_up : (f g : ℕ) → start_of counts f ≤ start_of counts (f + g)
  unfolding start_of
  start_up f zero = rw (add-zero f) (omega arith)
  start_up f (suc g) = rw (add-suc f g) (omega (arith, start_up f g))

  pub right-path : (F : ℕ) → Right (start_of counts F) → Path (low_in sent ds counts) counts F (λ i. zero_at)
  right-path F right = record { begins = refl; within = λ f m hf hm. near (low_in sent ds counts f) (run-right f (λ i h. right i (before f hf i h))).is_low }
    where
      near : (low : ℕ) → low ≡ fresh_low → Near low zero_at
      near low e = (omega (arith, e), omega (arith, e))

      before : (f : ℕ) → f < F → (i : ℕ) → i < start_of counts f → i < start_of counts F
      before f hf i h = let e : f + (F - f) ≡ F = omega arith in omega (arith, start_up f (F - f), ap (λ (k : ℕ). start_of counts k) e)

  -- ---- what costs nothing has no wrong digit

  no_steps : (path : ℕ → ℕ) (n : ℕ) → slips_on path n ≡ 0 → (i : ℕ) → i ≤ n → path i ≡ path 0
  unfolding slips_on
  no_steps path n none zero h = refl
  no_steps path n none (suc i) h =
      let one : apart (path (suc i)) (path i) ≡ 0 = sum-zero n (λ (i : ℕ). apart (path (suc i)) (path i)) none i (omega arith) in
      let old = no_steps path n none i (omega arith) in
      omega (arith, one, old)

  wrong-none : (path : ℕ → ℕ) (n : ℕ) → wrongs_on sent ds path n ≡ 0 → (i : ℕ) → i < n → wrong_of sent (i + path (suc i)) (get_or ds i 0) ≡ 0
  unfolding wrongs_on
  wrong-none path n none i h = sum-zero n (λ (i : ℕ). wrong_of sent (i + path (suc i)) (get_or ds i 0)) none i h

  pub free-right : (F : ℕ) → F ≤ 144115188075855872 → ((f : ℕ) → f < F → 0 < counts f) → least_of (from_fresh sent ds counts F).lanes / 4294967296 ≡ 0 → Right (start_of counts F)
  unfolding digits_to
  free-right F few some free = right
    where
      best : Best sent ds (low_in sent ds counts) counts F (lanes_in sent ds counts) (run-lanes sent ds counts F few some)
      best = least-reached sent ds (low_in sent ds counts) counts F (lanes_in sent ds counts) (run-lanes sent ds counts F few some)

      none : (x w k : ℕ) → x ≡ wrong_price * w + step_price * k → x / 4294967296 ≡ 0 → (w ≡ 0) × (k ≡ 0)
      none x w k e z = (omega arith, omega arith)

      both : (wrongs_on sent ds best.path (start_of counts F) ≡ 0) × (slips_on best.path (start_of counts F) ≡ 0)
      both = none (least_of (from_fresh sent ds counts F).lanes) (wrongs_on sent ds best.path (start_of counts F)) (slips_on best.path (start_of counts F)) best.price free

      right : Right (start_of counts F)
      right i h =
          let at : best.path (suc i) ≡ zero_at = no_steps best.path (start_of counts F) both.1 (suc i) h ∙ best.is_path.begins in
          rw at at (wrong-none best.path (start_of counts F) both.0 i h)
