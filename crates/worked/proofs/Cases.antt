-- The worked cases hold: one theorem over each table. A frame without digits is computed; zeros, however many, make the same line, and so
-- multiplexing leaves it.
use Rattle.std.specs.Prelude.{Some}
use mathlib.Core.Path.{◌≡◌, refl, ◌∙◌, ap}
use mathlib.Core.Bool.{false}
use mathlib.Core.List.{List, [], ◌∷◌}
use Prim.Native.Nat.{ℕ, ◌+◌, ◌*◌, ◌-◌, ◌/◌, ◌%◌, ◌^◌, ◌≤◌}
use native.Mathlib.Omega.{arith}
use native.Mathlib.Decide.{dec_lt}
use native.Mathlib.Nat.{zero-add, zero-div}
use lib.Dec.{ltb}
use lib.ListN.{length, get_or, take, drop, replicate, length-replicate, length-take, get_or-eq_default}
use lib.Seq.{get_or-take, get_or-drop}
use borrow.Author.Tests.{le-ltb}
use Rattle.digits.specs.Digits.{bytes_of, tab, digits_of}
use Rattle.digits.proofs.Laws.{digit_at, tab-of, tab-at, tab-length, zeros-at}
use Rattle.digits.specs.Sums.{sum_to}
use Rattle.table.specs.declared.Row.{Row}
use Rattle.table.specs.Table.{level_of, row2, row3, row4, row12, row14}
use Rattle.levels.specs.Places.{first_set, middle_set, last_set, kind_of, pos_of}
use Rattle.levels.specs.Order.{action_of, actions, carries, before, places_of, count_of, counts_of}
use Rattle.levels.specs.Sizes.{quarter_of, frames_refusal, size_refusal}
use Rattle.levels.specs.Vote.{votes_for, vote_by}
use Rattle.levels.specs.Line.{line_digit, line_of}
use Rattle.levels.specs.Faults.{first_with, overfull, unset, fault, bad_earlier, fault_of, send_fault_of, send_answered}
use Rattle.multiplex.specs.Multiplex.{line_after}
use Rattle.worked.specs.Cases.{Every, cases, signed_cases}

-- every part of a list of zeros has 0 at every place
part_at : (a b n k : ℕ) → get_or (take a (drop b (replicate {A = ℕ} n 0))) k 0 ≡ 0
part_at a b n k =
    elim (dec_lt k a) [
      | yes h ↦ get_or-take a (drop b (replicate n 0)) k 0 h ∙ get_or-drop b (replicate n 0) k 0 ∙ zeros-at n (b + k)
      | no h ↦
          let past : length (take a (drop b (replicate {A = ℕ} n 0))) ≤ k = omega (arith, length-take a (drop b (replicate {A = ℕ} n 0))) in
          get_or-eq_default (take a (drop b (replicate n 0))) 0 past
    ]

quarter-digit : (n j i : ℕ) → get_or (digits_of (quarter_of (replicate {A = ℕ} n 0) j)) i 0 ≡ 0
quarter-digit n j i =
    let q = length (replicate {A = ℕ} n 0) / 4 in
    digit_at (quarter_of (replicate n 0) j) i ∙ rw (part_at q (j * q) n (i / 8), zero-div (2 ^ (7 - i % 8)))

-- quarters of zeros, however long, make the line that the cases name
zero-quarters : (row : Row) (earlier : ℕ) (notes : List ℕ) (tributary : ℕ → List ℕ) (bytes : ℕ) → ((j i : ℕ) → get_or (tributary j) i 0 ≡ 0)
    → line_of row earlier notes tributary bytes ≡ line_of row earlier notes (λ (j : ℕ). []) bytes
unfolding line_digit
zero-quarters row earlier notes tributary bytes zero-at =
    let n = 8 * bytes in
    let f = line_digit row earlier notes tributary in
    ap (λ (ds : List ℕ). bytes_of bytes ds)
    (tab-of (tab n 0 f) n (line_digit row earlier notes (λ (j : ℕ). [])) (tab-length n 0 f)
    (λ p h. tab-at n 0 f p h ∙ rw (zero-add p, zero-at (p % 4) (before row (actions row earlier notes (p % 4)) (p % 4) (p / 4)))))

-- so a frame that computes, of a note that the level has, is what the call makes
sent-frame : (level earlier : ℕ) (row : Row) → level_of level ≡ Some row → (note : ℕ) (bytes counts : List ℕ)
    → row.bytes % row.bytes ≡ 0 → row.bytes / row.bytes ≡ 1 → bad_earlier row earlier ≡ false → first_with (overfull row) (note ∷ []) ≡ 1
    → first_with (unset row) (note ∷ []) ≡ 1
    → line_of row earlier (note ∷ []) (λ (j : ℕ). []) row.bytes ≡ bytes → counts_of row earlier (note ∷ []) 1 ≡ counts
    → (line : List ℕ) (q : ℕ) → length line ≡ row.bytes → row.room ≤ 8 * q
    → (send_answered level earlier (length line) (note ∷ []) (4 * q) ≡ record { refusal = 0; frame = 0; counts = counts })
    × (line_after level earlier line (note ∷ []) (replicate (4 * q) 0) ≡ bytes)
unfolding send_fault_of fault_of frames_refusal size_refusal
sent-frame level earlier row e note bytes counts whole one vote fits set is are line q len room =
    let zeros = length-replicate {A = ℕ} (4 * q) 0 in
    let quarters : 4 * q % 4 ≡ 0 = omega arith in
    let enough : ltb (8 * (4 * q / 4)) (1 * row.room) ≡ false = le-ltb (8 * (4 * q / 4)) (1 * row.room) (omega arith) in
    let ok : send_fault_of row earlier (length line) (note ∷ []) (4 * q) ≡ fault 0 0 = rw (len, whole, one, quarters, enough, vote, fits, set) in
    let made = rw zeros at (zero-quarters row earlier (note ∷ []) (λ (j : ℕ). digits_of (quarter_of (replicate (4 * q) 0) j)) (length line) (quarter-digit (4 * q))) in (
      rw (e, ok) (ap (λ (c : List ℕ). record { refusal = 0; frame = 0; counts = c }) are),
      rw (e, zeros, ok) (made ∙ rw len is),
    )

pub all_hold : Every cases
unfolding cases level_of first_set middle_set last_set kind_of pos_of action_of carries before places_of sum_to count_of votes_for vote_by line_digit tab bytes_of first_with
all_hold = (
  sent-frame 2 0 row2 refl 0x20 _ _ refl refl refl refl refl refl refl,
  (
    sent-frame 2 0 row2 refl 0x3F _ _ refl refl refl refl refl refl refl,
    (
      sent-frame 3 0 row3 refl 0x21 _ _ refl refl refl refl refl refl refl,
      (
        sent-frame 4 0 row4 refl 0xFF _ _ refl refl refl refl refl refl refl,
        (refl, (refl, (refl, (refl, (refl, (refl, (refl, (refl, (refl, (refl, (refl, (refl, (refl, (refl, (refl, (refl, tt)))))))))))))))),
      ),
    ),
  ),
)

pub signed-hold : Every signed_cases
unfolding signed_cases level_of first_set middle_set last_set kind_of pos_of action_of carries before places_of sum_to count_of votes_for vote_by line_digit tab bytes_of first_with
signed-hold = (
  sent-frame 12 0x00 row12 refl 0x00 _ _ refl refl refl refl refl refl refl,
  (
    sent-frame 12 0x0F row12 refl 0x0F _ _ refl refl refl refl refl refl refl,
    (
      sent-frame 12 0x03 row12 refl 0x05 _ _ refl refl refl refl refl refl refl,
      (
        sent-frame 14 0x03 row14 refl 0x05 _ _ refl refl refl refl refl refl refl,
        (refl, (refl, (refl, (refl, (refl, (refl, (refl, (refl, (refl, (refl, (refl, tt))))))))))),
      ),
    ),
  ),
)
