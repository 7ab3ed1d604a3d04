-- There are lines of correct frames (specs/Line.antt), at each level, of any length and begun anywhere: the words, and 0 at every other place. It is
-- enough that the word moved by some places is not the word. The line of frames with any other digits at their other places goes the same way.
use Rattle.std.specs.Prelude.{Option, Some, None}
use mathlib.Core.Path.{◌≡◌, refl, sym, ap, subst, ◌∙◌}
use mathlib.Core.List.{List, [], ◌∷◌}
use Prim.Native.Nat.{ℕ, zero, suc, ◌+◌, ◌-◌, ◌≤◌, ◌<◌}
use native.Mathlib.Omega.{arith}
use native.Mathlib.Decide.{dec_lt}
use native.Mathlib.Nat.{mod-lt, mod-eq_of_lt, mod-add-mod}
use lib.Dec.{eqb}
use lib.ListN.{length, get_or, take, drop}
use lib.Seq.{get_or-take, get_or-drop}
use Rattle.digits.specs.Digits.{written}
use Rattle.digits.proofs.Laws.{tab-length, tab-at, tab-binary}
use Rattle.digits.proofs.Written.{written-length, written-binary}
use Rattle.table.specs.declared.Row.{Row}
use Rattle.table.specs.Table.{level_of, row2, row3, row4, row12, row14}
use Rattle.levels.specs.Table.{Shared}
use Rattle.levels.proofs.Choice.{cond-by}
use Rattle.levels.proofs.Rows.{shared-row}
use Rattle.levels.proofs.Positions.{in_frame as in_frame_lem}
use Rattle.receiver_promises.specs.Line.{in_frame}
use Rattle.receiver_promises.proofs.Alarms.{some-digits}
use Rattle.receiver_recovery.specs.Line.{word_of, CorrectLine, frames_of, zero_digit, zero_line}

-- ---- past its end a list has zeros

pub past_end : (xs : List ℕ) (i : ℕ) → length xs ≤ i → get_or xs i 0 ≡ 0
past_end [] i h = refl
past_end (x ∷ xs) zero h = omega arith
past_end (x ∷ xs) (suc i) h = past_end xs i (omega arith)

-- ---- the word moved by r places: one of its digits that is 1 comes upon a 0

pub one-zero : (◌≡◌ {A = ℕ} 1 0) → ⊥
one-zero e = omega arith

moved-8 : (r : ℕ) → 0 < r → r < 8 → ((j p : ℕ) → p ≡ r + j → p < 8 → get_or (written 8 0b11100110) j 0 ≡ get_or (written 8 0b11100110) p 0) → ⊥
unfolding written
moved-8 zero lo hi same = omega arith
moved-8 (suc zero) lo hi same = one-zero (same 6 7 (omega arith) (omega arith))
moved-8 (suc (suc zero)) lo hi same = one-zero (same 5 7 (omega arith) (omega arith))
moved-8 (suc (suc (suc zero))) lo hi same = one-zero (same 1 4 (omega arith) (omega arith))
moved-8 (suc (suc (suc (suc zero)))) lo hi same = one-zero (same 0 4 (omega arith) (omega arith))
moved-8 (suc (suc (suc (suc (suc zero))))) lo hi same = one-zero (same 2 7 (omega arith) (omega arith))
moved-8 (suc (suc (suc (suc (suc (suc zero)))))) lo hi same = one-zero (same 1 7 (omega arith) (omega arith))
moved-8 (suc (suc (suc (suc (suc (suc (suc zero))))))) lo hi same = one-zero (same 0 7 (omega arith) (omega arith))
moved-8 (suc (suc (suc (suc (suc (suc (suc (suc r)))))))) lo hi same = omega arith

moved-10 : (r : ℕ) → 0 < r → r < 10 → ((j p : ℕ) → p ≡ r + j → p < 10 → get_or (written 10 0b1111010000) j 0 ≡ get_or (written 10 0b1111010000) p 0) → ⊥
unfolding written
moved-10 zero lo hi same = omega arith
moved-10 (suc zero) lo hi same = one-zero (same 5 6 (omega arith) (omega arith))
moved-10 (suc (suc zero)) lo hi same = one-zero (same 5 7 (omega arith) (omega arith))
moved-10 (suc (suc (suc zero))) lo hi same = one-zero (same 5 8 (omega arith) (omega arith))
moved-10 (suc (suc (suc (suc zero)))) lo hi same = one-zero (same 5 9 (omega arith) (omega arith))
moved-10 (suc (suc (suc (suc (suc zero))))) lo hi same = one-zero (same 3 8 (omega arith) (omega arith))
moved-10 (suc (suc (suc (suc (suc (suc zero)))))) lo hi same = one-zero (same 3 9 (omega arith) (omega arith))
moved-10 (suc (suc (suc (suc (suc (suc (suc zero))))))) lo hi same = one-zero (same 2 9 (omega arith) (omega arith))
moved-10 (suc (suc (suc (suc (suc (suc (suc (suc zero)))))))) lo hi same = one-zero (same 1 9 (omega arith) (omega arith))
moved-10 (suc (suc (suc (suc (suc (suc (suc (suc (suc zero))))))))) lo hi same = one-zero (same 0 9 (omega arith) (omega arith))
moved-10 (suc (suc (suc (suc (suc (suc (suc (suc (suc (suc r)))))))))) lo hi same = omega arith

moved-12 : (r : ℕ) → 0 < r → r < 12 → ((j p : ℕ) → p ≡ r + j → p < 12 → get_or (written 12 0b111110100000) j 0 ≡ get_or (written 12 0b111110100000) p 0) → ⊥
unfolding written
moved-12 zero lo hi same = omega arith
moved-12 (suc zero) lo hi same = one-zero (same 6 7 (omega arith) (omega arith))
moved-12 (suc (suc zero)) lo hi same = one-zero (same 6 8 (omega arith) (omega arith))
moved-12 (suc (suc (suc zero))) lo hi same = one-zero (same 6 9 (omega arith) (omega arith))
moved-12 (suc (suc (suc (suc zero)))) lo hi same = one-zero (same 6 10 (omega arith) (omega arith))
moved-12 (suc (suc (suc (suc (suc zero))))) lo hi same = one-zero (same 6 11 (omega arith) (omega arith))
moved-12 (suc (suc (suc (suc (suc (suc zero)))))) lo hi same = one-zero (same 4 10 (omega arith) (omega arith))
moved-12 (suc (suc (suc (suc (suc (suc (suc zero))))))) lo hi same = one-zero (same 4 11 (omega arith) (omega arith))
moved-12 (suc (suc (suc (suc (suc (suc (suc (suc zero)))))))) lo hi same = one-zero (same 3 11 (omega arith) (omega arith))
moved-12 (suc (suc (suc (suc (suc (suc (suc (suc (suc zero))))))))) lo hi same = one-zero (same 2 11 (omega arith) (omega arith))
moved-12 (suc (suc (suc (suc (suc (suc (suc (suc (suc (suc zero)))))))))) lo hi same = one-zero (same 1 11 (omega arith) (omega arith))
moved-12 (suc (suc (suc (suc (suc (suc (suc (suc (suc (suc (suc zero))))))))))) lo hi same = one-zero (same 0 11 (omega arith) (omega arith))
moved-12 (suc (suc (suc (suc (suc (suc (suc (suc (suc (suc (suc (suc r)))))))))))) lo hi same = omega arith

-- the word of a row: its first digit is 1, moved by some of its places it is not itself, and it has a 1 four or five places on, which is past as many
-- service places as stand in a row
pub record Lone (row : Row) : Type 0 where
  pub first : zero_digit row 0 ≡ 1
  pub moved : (r : ℕ) → 0 < r → r < row.len → ((j p : ℕ) → p ≡ r + j → p < row.len → zero_digit row j ≡ zero_digit row p) → ⊥
  pub on : ℕ
  pub on_one : zero_digit row on ≡ 1
  pub on_past : 4 ≤ on
  pub on_near : on ≤ 5

abbrev LoneAt : Option Row → Type 0
LoneAt (Some row) = Lone row
LoneAt None = Unit {0}

lone-2 : Lone row2
unfolding written
lone-2 = record { first = refl; moved = moved-10; on = 5; on_one = refl; on_past = omega arith; on_near = omega arith }

lone-3 : Lone row3
unfolding written
lone-3 = record { first = refl; moved = moved-10; on = 5; on_one = refl; on_past = omega arith; on_near = omega arith }

lone-4 : Lone row4
unfolding written
lone-4 = record { first = refl; moved = moved-12; on = 4; on_one = refl; on_past = omega arith; on_near = omega arith }

lone-12 : Lone row12
unfolding written
lone-12 = record { first = refl; moved = moved-8; on = 5; on_one = refl; on_past = omega arith; on_near = omega arith }

lone-14 : Lone row14
unfolding written
lone-14 = record { first = refl; moved = moved-10; on = 5; on_one = refl; on_past = omega arith; on_near = omega arith }

lone-at : (level : ℕ) → LoneAt (level_of level)
unfolding level_of
lone-at level =
    cond-by LoneAt (eqb level 2) lone-2
    (cond-by LoneAt (eqb level 3) lone-3
    (cond-by LoneAt (eqb level 4) lone-4 (cond-by LoneAt (eqb level 12) lone-12 (cond-by LoneAt (eqb level 14) lone-14 tt))))

pub lone : (level : ℕ) (row : Row) → level_of level ≡ Some row → Lone row
lone level row known = subst LoneAt known (lone-at level)

-- the word stands alone in frames of these digits: moved by r places it is not what stands there
abbrev pub Alone : Row → (ℕ → ℕ) → Type 0
Alone row digit = (r : ℕ) → 0 < r → r < row.digits → ((j p : ℕ) → j < row.len → p ≡ r + j → p < row.digits → zero_digit row j ≡ digit p) → ⊥

module _ (row : Row) (sh : Shared row) where
  in-set : row.len ≤ row.set
  in-set = omega (arith, sh.room, sh.alarm_next, sh.national_next, sh.first_next)

  word_in : row.len ≤ row.digits
  word_in = omega (arith, in-set, in_frame_lem row sh 0 (row.set - 1) (omega (arith, sh.later_set)) (omega (arith, sh.room)))

  pub past_word : (p : ℕ) → row.len ≤ p → zero_digit row p ≡ 0
  past_word p h = past_end (word_of row) p (omega (arith, written-length row.len row.word))

  -- it is enough that a word that begins past the word meets a 0 with one of its digits that are 1
  pub alone-by : Lone row → (digit : ℕ → ℕ) → ((p : ℕ) → p < row.len → digit p ≡ zero_digit row p)
      → ((r : ℕ) → row.len ≤ r → r < row.digits → ((j p : ℕ) → j < row.len → p ≡ r + j → p < row.digits → zero_digit row j ≡ digit p) → ⊥)
      → Alone row digit
  alone-by l digit words past r lo hi same =
      elim (dec_lt r row.len) [
        | yes h ↦ l.moved r lo h (λ j p e hp. same j p (omega arith) e (omega (arith, word_in)) ∙ words p hp)
        | no h ↦ past r (omega arith) hi same
      ]

  zero-alone : Lone row → Alone row (zero_digit row)
  zero-alone l = alone-by l (zero_digit row) (λ p h. refl) (λ r lo hi same. one-zero (sym l.first ∙ same 0 r (omega (arith, sh.word_some)) (omega arith) hi ∙ past_word r lo))

  -- ---- the line of frames of these digits

  module _ (digit : ℕ → ℕ) (words : (p : ℕ) → p < row.len → digit p ≡ zero_digit row p) (bits : (p : ℕ) → digit p < 2) (alone : Alone row digit) (o n : ℕ) where
    abbrev ds : List ℕ
    ds = frames_of row digit o n

    size : length ds ≡ n
    size = tab-length n 0 (λ i. digit (in_frame row o i))

    at : (i : ℕ) → i < n → get_or ds i 0 ≡ digit (in_frame row o i)
    at i h =
        let e : 0 + i ≡ i = omega arith in
        rw e at (tab-at n 0 (λ i. digit (in_frame row o i)) i h)

    -- digits that are the word's
    word-digit : (i j : ℕ) → j < row.len → i + row.len ≤ length ds → take row.len (drop i ds) ≡ word_of row → digit (in_frame row o (i + j)) ≡ zero_digit row j
    word-digit i j h room e =
        sym (at (i + j) (omega (arith, size)))
        ∙ sym (get_or-drop i ds j 0)
        ∙ sym (get_or-take row.len (drop i ds) j 0 h)
        ∙ ap (λ (xs : List ℕ). get_or xs j 0) e

    -- before the frame's end the places go up
    place_up : (i j p : ℕ) → p ≡ in_frame row o i + j → p < row.digits → in_frame row o (i + j) ≡ p
    place_up i j p e h =
        let assoc : o + (i + j) ≡ o + i + j = omega arith in
        rw (assoc, ← mod-add-mod (o + i) row.digits j, ← e) (mod-eq_of_lt h)

    no_others : (i : ℕ) → i + row.len ≤ length ds → take row.len (drop i ds) ≡ word_of row → in_frame row o i ≡ 0
    no_others i room e =
        elim (dec_lt 0 (in_frame row o i)) [
          | yes h ↦
              absurd
              (alone (in_frame row o i) h (mod-lt (o + i) (some-digits row sh)) (λ j p hj ep hp. sym (word-digit i j hj room e) ∙ ap digit (place_up i j p ep hp)))
          | no h ↦ omega arith
        ]

    pub frames-correct : CorrectLine row o ds
    frames-correct =
        record {
          binary = tab-binary n 0 (λ i. digit (in_frame row o i)) (λ i. bits (in_frame row o i));
          framed = record { words = λ i h w. at i (rw size at h) ∙ words (in_frame row o i) w };
          no_others = no_others;
        }

-- at each level, of any length and begun anywhere
pub zeros-correct : (level : ℕ) (row : Row) → level_of level ≡ Some row → (o n : ℕ) → CorrectLine row o (zero_line row o n)
zeros-correct level row known =
    let sh = shared-row level row known in
    frames-correct row sh (zero_digit row) (λ p h. refl) (written-binary row.len row.word) (zero-alone row sh (lone level row known))
