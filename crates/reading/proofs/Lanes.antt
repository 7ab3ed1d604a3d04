-- The four control groups of a frame counted at once: the column of a set is four digits of a byte, its digits are set apart, eight bits to
-- each, and the sums say for each tributary what its own count would.
use mathlib.Core.Path.{◌≡◌, refl, sym, ◌∙◌, ap}
use mathlib.Core.Bool.{Bool, true}
use mathlib.Core.List.{List}
use Prim.Native.Nat.{ℕ, ◌+◌, ◌*◌, ◌/◌, ◌%◌, ◌^◌, ◌≤◌, ◌<◌}
use native.Mathlib.Omega.{arith}
use native.Mathlib.Nat.{mul_left_comm}
use lib.Dec.{eqb}
use lib.ListN.{get_or}
use lib.Bits.{bit_and}
use borrow.Author.Tests.{eqb-true}
use Rattle.digits.specs.Digits.{digits_of, Binary, window_at}
use Rattle.digits.proofs.Laws.{digits-binary}
use Rattle.digits.proofs.Below.{all, all-at}
use Rattle.digits.proofs.Windows.{window-first, window-last, byte-window}
use Rattle.table.specs.declared.Row.{Row}
use Rattle.levels.specs.Table.{Shared}
use Rattle.levels.specs.Vote.{votes_for, vote_by, group_of}
use Rattle.levels.proofs.Majority.{group-more, group-length, votes-le}
use Rattle.reading.specs.declared.FrameRead.{FrameRead}
use Rattle.reading.specs.Notes.{vote_at, note_of, dissents_in}
use Rattle.reading.specs.Lanes.{beside, apart_of, ones_of, group_ones, services_of, said_by}
use Rattle.reading.proofs.Inside.{group-asks}

-- the first four digits of a byte, and the last four
module _ (bs : List ℕ) (p : ℕ) (byte : get_or bs (p / 8) 0 < 256) where
  abbrev ds : List ℕ
  ds = digits_of bs

  pub column-first : p % 8 ≡ 0 → get_or bs (p / 8) 0 / 16 ≡ window_at ds p 4
  column-first e =
      let here : 8 * (p / 8) ≡ p = omega arith in
      ap (λ (n : ℕ). n / 16) (sym (byte-window bs (p / 8) byte)) ∙ window-first ds (digits-binary bs) (8 * (p / 8)) 4 4 ∙ ap (λ (n : ℕ). window_at ds n 4) here

  pub column-last : p % 8 ≡ 4 → get_or bs (p / 8) 0 % 16 ≡ window_at ds p 4
  column-last e =
      let here : 8 * (p / 8) + 4 ≡ p = omega arith in
      ap (λ (n : ℕ). n % 16) (sym (byte-window bs (p / 8) byte)) ∙ window-last ds (digits-binary bs) (8 * (p / 8)) 4 4 ∙ ap (λ (n : ℕ). window_at ds n 4) here

-- a column set apart, settled for each of the sixteen
abbrev spread_right : ℕ → Bool
spread_right column = eqb (bit_and (column * 2113665) 16843009) (apart_of column)

spread-all : all 16 spread_right ≡ true
unfolding all
spread-all = refl

pub spread : (column : ℕ) → column < 16 → bit_and (column * 2113665) 16843009 ≡ apart_of column
spread column h = eqb-true (bit_and (column * 2113665) 16843009) (apart_of column) (all-at 16 spread_right spread-all column h)

four-apart : (n a b c d : ℕ) → n ≡ ((a * 2 + b) * 2 + c) * 2 + d → a < 2 → b < 2 → c < 2 → d < 2 → apart_of n ≡ beside a b c d
four-apart n a b c d e ha hb hc hd =
    let ea : n / 8 ≡ a = omega arith in
    let eb : n / 4 % 2 ≡ b = omega arith in
    let ec : n / 2 % 2 ≡ c = omega arith in
    let ed : n % 2 ≡ d = omega arith in
    rw (ea, eb, ec, ed) refl

column_apart : (ls : List ℕ) → Binary ls → (p : ℕ)
    → apart_of (window_at ls p 4) ≡ beside (get_or ls (p + 0) 0) (get_or ls (p + 1) 0) (get_or ls (p + 2) 0) (get_or ls (p + 3) 0)
unfolding window_at
column_apart ls bin p =
    four-apart (window_at ls p 4) (get_or ls (p + 0) 0) (get_or ls (p + 1) 0) (get_or ls (p + 2) 0) (get_or ls (p + 3) 0) (omega arith) (bin (p + 0)) (bin (p + 1))
    (bin (p + 2))
    (bin (p + 3))

module _ (row : Row) (sh : Shared row) (f bytes : ℕ) (whole : (f + 1) * row.bytes ≤ bytes) (short : bytes ≤ 65536) where
  -- control digit k of every group stands in one column, and inside the line
  pub column-inside : (k : ℕ) → k < row.control
      → (k * row.set < 2 ^ 20) × (f * row.digits + (row.set + k * row.set) < 8 * bytes) × ((f * row.digits + (row.set + k * row.set)) % 4 ≡ 0)
  column-inside k h =
      let inside = (group-asks row sh f bytes whole 0 (omega arith) short).2 k h in
      let frames : f * row.digits ≡ 8 * (f * row.bytes) = ap (λ (n : ℕ). f * n) sh.packed ∙ mul_left_comm f 8 row.bytes in
      let fours : row.set ≡ 4 * (row.set / 4) = omega (arith, sh.set_fours) in
      let sets : k * row.set ≡ 4 * (k * (row.set / 4)) = ap (λ (n : ℕ). k * n) fours ∙ mul_left_comm k 4 (row.set / 4) in
      (omega (arith, inside), omega (arith, inside), omega (arith, frames, fours, sets))

module _ (row : Row) (ds : List ℕ) (bin : Binary ds) (f : ℕ) where
  -- no count is more than the digits counted
  pub ones-few : (k j : ℕ) → ones_of row ds f k j ≤ k
  unfolding ones_of
  ones-few k j =
      let p = f * row.digits + (row.set + j) in
      omega (arith, votes-le 1 (group_of ds p row.set k), group-length ds p row.set k)

  -- nothing is counted at first
  pub ones_none : group_ones row ds f 0 ≡ 0
  unfolding ones_of group_of votes_for
  ones_none = refl

  -- a digit more of tributary j's group
  ones-more : (k j p : ℕ) → p ≡ f * row.digits + (row.set + k * row.set) → ones_of row ds f (k + 1) j ≡ ones_of row ds f k j + get_or ds (p + j) 0
  unfolding ones_of
  ones-more k j p e =
      let there : p + j ≡ f * row.digits + (row.set + j) + k * row.set = omega (arith, e) in
      group-more ds (f * row.digits + (row.set + j)) row.set k (get_or ds (p + j) 0) (bin (p + j)) (ap (λ (n : ℕ). get_or ds n 0) there)

  -- a column more
  pub column-more : (k p column : ℕ) → p ≡ f * row.digits + (row.set + k * row.set) → column ≡ window_at ds p 4
      → group_ones row ds f k + apart_of column ≡ group_ones row ds f (k + 1)
  column-more k p column e w =
      let digits : apart_of column ≡ beside (get_or ds (p + 0) 0) (get_or ds (p + 1) 0) (get_or ds (p + 2) 0) (get_or ds (p + 3) 0) = rw w (column_apart ds bin p) in
      omega (arith, digits, ones-more k 0 p e, ones-more k 1 p e, ones-more k 2 p e, ones-more k 3 p e)

  -- all columns
  pub columns-all : (k ones : ℕ) → k ≡ row.control → ones ≡ group_ones row ds f k → ones ≡ group_ones row ds f row.control
  columns-all k ones end e = e ∙ ap (λ (n : ℕ). group_ones row ds f n) end

  -- each tributary's count out of the four
  module _ (sh : Shared row) (ones : ℕ) (e : ones ≡ group_ones row ds f row.control) where
    abbrev count : ℕ → ℕ
    count j = ones_of row ds f row.control j

    few : (j : ℕ) → count j ≤ 5
    few j = omega (arith, ones-few row.control j, sh.group, sh.few_sets)

    lanes : (ones / 16777216 ≡ count 0) × (ones / 65536 % 256 ≡ count 1) × (ones / 256 % 256 ≡ count 2) × (ones % 256 ≡ count 3)
    lanes = (
      omega (arith, e, few 0, few 1, few 2, few 3),
      omega (arith, e, few 0, few 1, few 2, few 3),
      omega (arith, e, few 0, few 1, few 2, few 3),
      omega (arith, e, few 0, few 1, few 2, few 3),
    )

    -- what deciding by them asks
    pub counts-ask : (services : ℕ) → services < 16
        → (row.control ≤ 5) × (ones / 16777216 ≤ row.control) × (ones / 65536 % 256 ≤ row.control) × (ones / 256 % 256 ≤ row.control)
        × (ones % 256 ≤ row.control)
        × (services < 16)
    counts-ask services h =
        let most = ones-few row.control in (
          omega (arith, sh.group, sh.few_sets),
          omega (arith, lanes.0, most 0),
          omega (arith, lanes.1, most 1),
          omega (arith, lanes.2, most 2),
          omega (arith, lanes.3, most 3),
          h,
        )

    -- a vote by the count is the vote
    vote-by : (j : ℕ) → vote_by (count j) row.control ≡ vote_at row ds f j
    unfolding vote_at ones_of
    vote-by j =
        let p = f * row.digits + (row.set + j) in
        ap (λ (n : ℕ). vote_by (count j) n) (sym (group-length ds p row.set row.control))

    -- what is said by the counts is the frame's note and its dissent
    pub frame-said : (services : ℕ) → services ≡ services_of row ds f → (r : FrameRead)
        → r ≡ said_by row.control (ones / 16777216) (ones / 65536 % 256) (ones / 256 % 256) (ones % 256) services
        → (r.note ≡ note_of row ds f) × (r.dissent ≡ dissents_in row ds f)
    unfolding note_of
    frame-said services es r er =
        rw (er, lanes.0, lanes.1, lanes.2, lanes.3, vote-by 0, vote-by 1, vote-by 2, vote-by 3) (omega (arith, es), refl)
