-- The notes that are read from any line: their decisions are the votes of its groups, and they have no bit that the level has not.
use mathlib.Core.Path.{◌≡◌}
use mathlib.Core.Bool.{Bool, cond, true, false}
use mathlib.Core.List.{List}
use Prim.Native.Nat.{ℕ, zero, suc, ◌+◌, ◌*◌, ◌^◌, ◌≤◌, ◌<◌}
use native.Mathlib.Omega.{arith}
use native.Mathlib.Nat.{zero-add}
use lib.Dec.{ltb}
use lib.ListN.{get_or}
use Rattle.digits.specs.Digits.{Binary}
use Rattle.digits.proofs.Laws.{tab-at}
use Rattle.digits.proofs.Lists.{of_four}
use Rattle.table.specs.declared.Row.{Row}
use Rattle.levels.specs.Table.{Shared}
use Rattle.levels.specs.Places.{noted_of}
use Rattle.levels.specs.Order.{decisions}
use Rattle.levels.proofs.Choice.{cond-by}
use Rattle.reading.specs.Notes.{vote_at, service_at, bit_of, note_of, notes_of}
use Rattle.reading.proofs.NoteBits.{note-decision}

pub decisions-read : (row : Row) (ds : List ℕ) → Binary ds → (F f j : ℕ) → f < F → j < 4 → decisions (notes_of row ds F) j f ≡ (vote_at row ds f j).stuffed
decisions-read row ds bin F f j hf hj =
    rw (tab-at F 0 (note_of row ds) f hf, zero-add f) (note-decision row ds bin f j hj)

-- a note whose service bits are the first n
bits_fit : (s : ℕ → ℕ) (n : ℕ) → n < 5 → ((k : ℕ) → s k ≤ cond (ltb k n) 1 0) → 15 + 16 * s 0 + 32 * s 1 + 64 * s 2 + 128 * s 3 < 2 ^ (4 + n)
bits_fit s zero l h = omega (arith, h 0, h 1, h 2, h 3)
bits_fit s (suc n) l h =
    of_four (λ (n : ℕ). ((k : ℕ) → s k ≤ cond (ltb k (suc n)) 1 0) → 15 + 16 * s 0 + 32 * s 1 + 64 * s 2 + 128 * s 3 < 2 ^ (4 + suc n))
    (λ h. omega (arith, h 0, h 1, h 2, h 3))
    (λ h. omega (arith, h 0, h 1, h 2, h 3))
    (λ h. omega (arith, h 0, h 1, h 2, h 3))
    (λ h. omega (arith, h 0, h 1, h 2, h 3))
    n
    (omega arith)
    h

module _ (row : Row) (ds : List ℕ) (bin : Binary ds) (f : ℕ) where
  service-most : (k : ℕ) → service_at row ds f k ≤ cond (ltb k (noted_of row)) 1 0
  unfolding service_at
  service-most k = go (ltb k (noted_of row))
    where
      go : (t : Bool) → cond t (get_or ds (f * row.digits + (row.alarm + k)) 0) 0 ≤ cond t 1 0
      go true = omega (arith, bin (f * row.digits + (row.alarm + k)))
      go false = omega arith

  bit-most : (j : ℕ) → bit_of (vote_at row ds f j).stuffed ≤ 1
  bit-most j = cond-by (λ (b : ℕ). b ≤ 1) (vote_at row ds f j).stuffed (omega arith) (omega arith)

  pub note-fits : Shared row → (F : ℕ) → f < F → get_or (notes_of row ds F) f 0 < 2 ^ (4 + noted_of row)
  unfolding note_of
  note-fits sh F hf =
      rw (tab-at F 0 (note_of row ds) f hf, zero-add f)
      (omega (arith, bits_fit (service_at row ds f) (noted_of row) (omega (arith, sh.few_alarm, sh.few_national)) service-most, bit-most 0, bit-most 1, bit-most 2, bit-most 3))
