-- The bits of a note that was read: bits 0 to 3 are the decisions of the four control groups of its own frame, bits 4 to 7 the service
-- digits as they came, and those that the level has not are zero.
use mathlib.Core.Path.{◌≡◌, refl, ◌∙◌, ap}
use mathlib.Core.Bool.{Bool, true, false}
use mathlib.Core.List.{List, [], ◌∷◌, ◌++◌}
use Prim.Native.Nat.{ℕ, zero, suc, ◌+◌, ◌*◌, ◌/◌, ◌%◌, ◌^◌, ◌≤◌, ◌<◌}
use native.Mathlib.Omega.{arith}
use native.Mathlib.Nat.{zero-div, zero-add}
use lib.Dec.{eqb, ltb, lit<}
use lib.ListN.{get_or, get_or-append}
use lib.Seq.{get_or-append-add}
use lib.Pow.{shr-shr}
use borrow.Author.Tests.{le-ltb}
use Rattle.digits.specs.Digits.{Binary, tab}
use Rattle.digits.proofs.Laws.{tab-at, tab-binary, binary-append}
use Rattle.table.specs.declared.Row.{Row}
use Rattle.levels.specs.Places.{noted_of}
use Rattle.levels.specs.Order.{stuffed}
use Rattle.levels.proofs.Choice.{cond-by}
use Rattle.reading.specs.Notes.{bit_of, vote_at, service_at, note_of}

-- the number whose bits these are, the first worth 1, and its bits
unfoldable value_of : List ℕ → ℕ
value_of [] = 0
value_of (b ∷ bs) = b + 2 * value_of bs

bit-of-value : (bs : List ℕ) → Binary bs → (k : ℕ) → value_of bs / 2 ^ k % 2 ≡ get_or bs k 0
unfolding value_of
bit-of-value [] bin k = rw (zero-div (2 ^ k))
bit-of-value (b ∷ bs) bin zero = omega (arith, bin 0)
bit-of-value (b ∷ bs) bin (suc k) =
    let half : (b + 2 * value_of bs) / 2 ^ 1 ≡ value_of bs = omega (arith, bin 0) in
    let e : suc k ≡ 1 + k = omega arith in
    rw (e, ← shr-shr (b + 2 * value_of bs) 1 k, half) (bit-of-value bs (λ i. bin (suc i)) k)

module _ (row : Row) (ds : List ℕ) (bin : Binary ds) (f : ℕ) where
  abbrev decision : ℕ → ℕ
  decision j = bit_of (vote_at row ds f j).stuffed

  abbrev service : ℕ → ℕ
  service k = service_at row ds f k

  abbrev bits : List ℕ
  bits = tab 4 0 decision ++ tab 4 0 service

  service-binary : (k : ℕ) → service k < 2
  unfolding service_at
  service-binary k = cond-by (λ (d : ℕ). d < 2) (ltb k (noted_of row)) (bin (f * row.digits + (row.alarm + k))) (lit< tt)

  decision-binary : (j : ℕ) → decision j < 2
  decision-binary j = cond-by (λ (d : ℕ). d < 2) (vote_at row ds f j).stuffed {a = 1} {b = 0} (lit< tt) (lit< tt)

  bits-binary : Binary bits
  bits-binary = binary-append (tab 4 0 decision) (tab 4 0 service) (tab-binary 4 0 decision decision-binary) (tab-binary 4 0 service service-binary)

  note-value : note_of row ds f ≡ value_of bits
  unfolding note_of value_of tab
  note-value = omega arith

  note-bit : (k : ℕ) → note_of row ds f / 2 ^ k % 2 ≡ get_or bits k 0
  note-bit k = ap (λ (n : ℕ). n / 2 ^ k % 2) note-value ∙ bit-of-value bits bits-binary k

  -- "Bits 0 to 3 (values 1, 2, 4, 8): tributary 1 to 4 is stuffed", "with the majority decisions"
  pub note-decision : (j : ℕ) → j < 4 → stuffed (note_of row ds f) j ≡ (vote_at row ds f j).stuffed
  unfolding tab
  note-decision j h =
      let e : get_or bits j 0 ≡ decision j = get_or-append (tab 4 0 decision) (tab 4 0 service) 0 j h ∙ tab-at 4 0 decision j h ∙ ap decision (zero-add j) in
      rw (note-bit j ∙ e) (one (vote_at row ds f j).stuffed)
    where
      one : (t : Bool) → eqb (bit_of t) 1 ≡ t
      one true = refl
      one false = refl

  -- "Bit 4: remote alarm digit. Bit 5: first national digit. Bits 6 and 7: second and third national digit"
  pub note-service : (k : ℕ) → k < 4 → note_of row ds f / 2 ^ (4 + k) % 2 ≡ service_at row ds f k
  unfolding tab
  note-service k h =
      note-bit (4 + k) ∙ get_or-append-add (tab 4 0 decision) (tab 4 0 service) k 0 ∙ tab-at 4 0 service k h ∙ ap service (zero-add k)

  -- "level 4 only", "bits 6 and 7 zero at levels 2 and 3", and at levels 12 and 14 "the rest zero": where a note of the level has two service
  -- digits or none, and so of any number of them
  pub note-further : (k : ℕ) → k < 4 → noted_of row ≤ k → note_of row ds f / 2 ^ (4 + k) % 2 ≡ 0
  unfolding service_at
  note-further k h few = note-service k h ∙ rw (le-ltb k (noted_of row) few)

  pub bits-six-and-seven : noted_of row ≤ 2 → (note_of row ds f / 2 ^ 6 % 2 ≡ 0) × (note_of row ds f / 2 ^ 7 % 2 ≡ 0)
  bits-six-and-seven few = (note-further 2 (lit< tt) few, note-further 3 (lit< tt) (omega arith))

  pub votes-alone : noted_of row ≡ 0 → (k : ℕ) → k < 4 → note_of row ds f / 2 ^ (4 + k) % 2 ≡ 0
  votes-alone none k h = note-further k h (omega arith)
