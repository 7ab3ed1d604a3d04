-- What frames make of a block whose digits sent are known: its lanes, its shifts and how much was read; and so what a recording costs from a fresh state on.
use mathlib.Core.Path.{◌≡◌, refl, ap}
use mathlib.Core.List.{List}
use Prim.Native.Nat.{ℕ, zero, suc, ◌+◌, ◌-◌, ◌*◌, ◌≤◌, ◌<◌}
use native.Mathlib.Omega.{arith}
use native.Mathlib.Nat.{add-zero, add-suc}
use lib.Dec.{eqb}
use lib.ListN.{get_or}
use borrow.Author.Tests.{eq-eqb}
use Rattle.slips.specs.Slips.{step_of, least_of, best_of, laid_of}
use Rattle.verdict_blocks.specs.Blocks.{Block, fresh_low, fresh_block, judged_by, sent_to, digit_of, digits_to, laid_anew, frame_to, start_of, frames_to}
use Rattle.verdict_promises.specs.Paths.{Cheapest, from_fresh, low_in}
use Rattle.verdict_promises.proofs.Least.{Lanes, cheapest-run}

-- what was sent is known, so many digits were read, and lane 0 has this shift
pub record Known (read low : ℕ) (b : Block) : Type 0 where
  pub taken : b.standing.taken ≡ 1
  pub is_read : b.standing.read ≡ read
  pub is_low : b.standing.low ≡ low

module _ (sent : ℕ → ℕ) where
  -- a digit is judged
  judged : (b : Block) (d : ℕ) → b.standing.taken ≡ 1 → digit_of 0 sent b d ≡ judged_by sent b d
  unfolding digit_of sent_to
  judged b d e = rw e

  pub digit-known : (read low : ℕ) (b : Block) (d : ℕ) → Known read low b → Known (suc read) low (digit_of 0 sent b d)
  unfolding judged_by
  digit-known read low b d k = rw (judged b d k.taken) (record { taken = k.taken; is_read = ap suc k.is_read; is_low = k.is_low })

  pub digit-lanes : (read low : ℕ) (b : Block) (d : ℕ) → Known read low b → (digit_of 0 sent b d).lanes ≡ step_of sent (read + low) d b.lanes
  unfolding judged_by
  digit-lanes read low b d k = rw (judged b d k.taken, ← k.is_read, ← k.is_low) refl

  pub laid-known : (read low : ℕ) (b : Block) → Known read low b → Known read (low + best_of b.lanes - 8) (laid_anew 0 b)
  unfolding laid_anew
  laid-known read low b k = rw (eq-eqb b.standing.taken 1 k.taken) (record { taken = k.taken; is_read = k.is_read; is_low = rw k.is_low refl })

  pub laid-lanes : (read low : ℕ) (b : Block) → Known read low b → (laid_anew 0 b).lanes ≡ laid_of b.lanes (best_of b.lanes)
  unfolding laid_anew
  laid-lanes read low b k = rw (eq-eqb b.standing.taken 1 k.taken) refl

  module _ (ds : List ℕ) where
    pub digits-known : (p read low : ℕ) (b : Block) → Known read low b → (n : ℕ) → Known (read + n) low (digits_to 0 sent ds p b n)
    unfolding digits_to
    digits-known p read low b k zero = rw (add-zero read) k
    digits-known p read low b k (suc n) = rw (add-suc read n) (digit-known (read + n) low (digits_to 0 sent ds p b n) (get_or ds (p + n) 0) (digits-known p read low b k n))

    module _ (counts : ℕ → ℕ) where
      abbrev pub block_in : ℕ → ℕ → Block
      block_in f n = digits_to 0 sent ds (start_of counts f) (from_fresh sent ds counts f) n

      abbrev pub lanes_in : ℕ → ℕ → List ℕ
      lanes_in f n = (block_in f n).lanes

      pub fresh-known : Known 0 fresh_low (fresh_block 0)
      fresh-known = record { taken = refl; is_read = refl; is_low = refl }

      pub run-known : (f : ℕ) → Known (start_of counts f) (low_in sent ds counts f) (from_fresh sent ds counts f)
      unfolding frames_to start_of frame_to
      run-known zero = fresh-known
      run-known (suc f) =
          let k = digits-known (start_of counts f) (start_of counts f) (low_in sent ds counts f) (from_fresh sent ds counts f) (run-known f) (counts f) in
          let laid = laid-known (start_of counts f + counts f) (low_in sent ds counts f) (block_in f (counts f)) k in
          record { taken = laid.taken; is_read = laid.is_read; is_low = refl }

      -- how low the lanes come: 8 further at most with each frame
      low-far : (f : ℕ) → fresh_low ≤ low_in sent ds counts f + 8 * f
      unfolding frames_to frame_to
      low-far zero = omega arith
      low-far (suc f) =
          let k = digits-known (start_of counts f) (start_of counts f) (low_in sent ds counts f) (from_fresh sent ds counts f) (run-known f) (counts f) in
          let laid = (laid-known (start_of counts f + counts f) (low_in sent ds counts f) (block_in f (counts f)) k).is_low in
          omega (arith, laid, low-far f)

      pub run-lanes : (F : ℕ) → F ≤ 144115188075855872 → ((f : ℕ) → f < F → 0 < counts f) → Lanes sent ds (low_in sent ds counts) counts F lanes_in
      unfolding frames_to digits_to frame_to start_of
      run-lanes F few some =
          record {
            first_low = refl;
            first = refl;
            more = λ f n hf hn. digit-lanes (start_of counts f + n) (low_in sent ds counts f) (block_in f n) (get_or ds (start_of counts f + n) 0) (within f n);
            next_low = λ f hf. (laid-known (start_of counts f + counts f) (low_in sent ds counts f) (block_in f (counts f)) (within f (counts f))).is_low;
            next = λ f hf. laid-lanes (start_of counts f + counts f) (low_in sent ds counts f) (block_in f (counts f)) (within f (counts f));
            far = λ f hf. omega (arith, low-far f);
            some = λ f h hf. some f hf;
          }
        where
          within : (f n : ℕ) → Known (start_of counts f + n) (low_in sent ds counts f) (block_in f n)
          within f n = digits-known (start_of counts f) (start_of counts f) (low_in sent ds counts f) (from_fresh sent ds counts f) (run-known f) n

      -- the cheapest explanation of a recording of whole frames, held against digits that were sent
      pub cheapest : (F : ℕ) → F ≤ 144115188075855872 → ((f : ℕ) → f < F → 0 < counts f) → least_of (from_fresh sent ds counts F).lanes < 9223372036854775808
          → Cheapest sent ds (low_in sent ds counts) counts F (least_of (from_fresh sent ds counts F).lanes)
      unfolding digits_to
      cheapest F few some small = cheapest-run sent ds (low_in sent ds counts) counts F lanes_in (run-lanes F few some) small
