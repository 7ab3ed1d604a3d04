-- No frames at all: accepted at every level, with any buffer of four equal quarters and any earlier vote that the level accepts.
use Rattle.std.specs.Prelude.{Some}
use mathlib.Core.Path.{◌≡◌, sym}
use mathlib.Core.Bool.{false}
use mathlib.Core.List.{List, [], ◌++◌}
use Prim.Native.Nat.{ℕ, ◌+◌, ◌*◌, ◌-◌, ◌/◌, ◌<◌}
use native.Mathlib.Omega.{arith}
use native.Mathlib.Nat.{div-lt_iff_lt-mul}
use lib.Dec.{lit<}
use lib.ListN.{length, replicate, length-replicate, replicate-append-replicate}
use Rattle.digits.specs.Digits.{bytes_of, tab}
use Rattle.digits.specs.Sums.{sum_to}
use Rattle.digits.proofs.Laws.{digits-zeros, bytes-of-digits, zeros-at}
use Rattle.table.specs.declared.Row.{Row}
use Rattle.table.specs.Table.{level_of}
use Rattle.levels.specs.Table.{Shared}
use Rattle.levels.specs.Sizes.{Framed, Accepted}
use Rattle.levels.specs.Order.{actions, places_of, count_of}
use Rattle.levels.specs.Faults.{fault, bad_earlier, fault_of, send_fault_of}
use Rattle.levels.proofs.Rows.{shared-row}
use Rattle.levels.proofs.Positions.{in_frame}
use Rattle.levels.proofs.Judged.{no-frames-refused}
use Rattle.levels.proofs.Refusals.{fit-faultless, set-faultless}
use Rattle.extraction.specs.Quarters.{taken_to, quarter_from, quarters_from}
use Rattle.promises.specs.NoFrames.{NoFrames}

-- zeros packed are zeros
bytes-zeros : (q : ℕ) → bytes_of q (replicate (8 * q) 0) ≡ replicate q 0
bytes-zeros q =
    let size : length (replicate {A = ℕ} q 0) ≡ q = length-replicate q 0 in
    rw size at (rw (digits-zeros q) at (bytes-of-digits (replicate q 0) (λ i. rw (zeros-at q i) (lit< tt))))

zeros-joined : (m n : ℕ) → replicate {A = ℕ} m 0 ++ replicate n 0 ≡ replicate (m + n) 0
zeros-joined m n = replicate-append-replicate m n 0

module _ (level : ℕ) (row : Row) (e : level_of level ≡ Some row) (earlier : ℕ) (good : bad_earlier row earlier ≡ false) (buffer : List ℕ) (q : ℕ) (four : length buffer ≡ 4 * q) where
  abbrev sh : Shared row
  sh = shared-row level row e

  none : 0 / row.bytes ≡ 0
  none =
      let some : 0 < row.bytes = omega (arith, sh.packed, in_frame row sh 0 0 (omega (arith, sh.later_set)) (omega (arith, sh.room))) in
      let lt : 0 / row.bytes < 1 = (div-lt_iff_lt-mul some).1 (omega arith) in
      omega (arith, lt)

  framed : Framed row 0 0
  framed = record { frames = rw none (omega arith); few = rw none (omega arith); noted = sym none }

  sizes : Accepted row 0 0 (length buffer)
  sizes = record { framed = framed; quarters = omega (arith, four); room = rw none (omega arith) }

  faultless : fault_of row earlier 0 [] (length buffer) ≡ fault 0 0
  faultless = fit-faultless row earlier 0 [] (length buffer) sizes good (λ f h. absurd (omega arith))

  send-faultless : send_fault_of row earlier 0 [] (length buffer) ≡ fault 0 0
  send-faultless = set-faultless row earlier 0 [] (length buffer) faultless (λ f h. absurd (omega arith))

  none-counted : (j : ℕ) → count_of row (actions row earlier [] j) 0 ≡ 0
  unfolding count_of sum_to
  none-counted j = omega arith

  quarter : (j : ℕ) → quarter_from row earlier [] [] q j ≡ replicate q 0
  unfolding quarter_from taken_to places_of
  quarter j =
      let all : 8 * q - 0 ≡ 8 * q = omega arith in
      rw all (bytes-zeros q)

  quarters : quarters_from row earlier [] [] q ≡ replicate (4 * q) 0
  unfolding quarters_from
  quarters =
      let sum : q + (q + (q + q)) ≡ 4 * q = omega arith in
      rw (quarter 0, quarter 1, quarter 2, quarter 3, zeros-joined q q, zeros-joined q (q + q), zeros-joined q (q + (q + q)), sum)

  pub no_frames : NoFrames level earlier buffer
  unfolding sum_to bytes_of tab
  no_frames =
      let each : length buffer / 4 ≡ q = omega (arith, four) in
      record {
        sent = rw (e, send-faultless, none-counted 0, none-counted 1, none-counted 2, none-counted 3);
        unwritten = rw (e, send-faultless);
        read = rw (e, no-frames-refused row 0 0 framed);
        extracted = rw (e, faultless, none-counted 0, none-counted 1, none-counted 2, none-counted 3);
        cleared = rw (e, faultless, each, four) quarters;
      }
