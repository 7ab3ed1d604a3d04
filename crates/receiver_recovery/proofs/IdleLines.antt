-- The line with 1 at the national places and at the service places that no note has (specs/Line.antt, `idle_line`) is a line of correct frames too, at
-- each level. Such places stand four or fewer in a row, so that the place four or five on is a tributary's and has 0, where the level's word has a 1.
use Rattle.std.specs.Prelude.{Some}
use mathlib.Core.Path.{◌≡◌, refl, sym, ap, ◌∙◌}
use mathlib.Core.Bool.{Bool, cond, true, false, true≢false}
use Prim.Native.Nat.{ℕ, ◌+◌, ◌*◌, ◌-◌, ◌/◌, ◌≤◌, ◌<◌}
use native.Mathlib.Omega.{arith}
use native.Mathlib.Decide.{dec_lt, ℕ_discrete}
use native.Mathlib.Nat.{zero-mul, div-eq_of_lt}
use lib.Dec.{lit<}
use Rattle.digits.proofs.Written.{written-binary}
use Rattle.table.specs.declared.Row.{Row}
use Rattle.table.specs.Table.{level_of}
use Rattle.levels.specs.declared.places.Kind.{Kind}
use Rattle.levels.specs.declared.places.Kind.TheVariants.{Control, Justification, Tributary}
use Rattle.levels.specs.declared.places.Sign.TheVariants.{Negative, Positive}
use Rattle.levels.specs.Table.{Shared}
use Rattle.levels.specs.Places.{kind_of, kind_at, pos_of}
use Rattle.levels.proofs.Rows.{shared-row}
use Rattle.levels.proofs.Positions.{in_frame, stands}
use Rattle.levels.proofs.Ways.{kind-first, kind-control, kind-negative, kind-positive, kind-after, kind-between}
use Rattle.levels.proofs.Sentences.{kind-of-sum, sentences}
use Rattle.receiver_recovery.specs.Line.{CorrectLine, zero_digit, is_one, idle_digit, idle_line}
use Rattle.receiver_recovery.proofs.ZeroLines.{Lone, lone, Alone, one-zero, past_word, alone-by, frames-correct}

module _ (row : Row) (sh : Shared row) where
  -- a word of eight, ten or twelve digits, and at most four places from its end to the first tributary place
  record Heads : Type 0 where
    six : 6 ≤ row.len
    near : row.first ≤ row.len + 4
    wide : 16 ≤ row.set

  heads : Heads
  heads =
      elim (ℕ_discrete row.len 10) [
        | yes ten ↦ let first = sh.ten ten in record { six = omega arith; near = omega arith; wide = omega (arith, sh.room) }
        | no n ↦
            elim (ℕ_discrete row.len 12) [
              | yes twelve ↦ let first = sh.twelve twelve in record { six = omega arith; near = omega arith; wide = omega (arith, sh.room) }
              | no m ↦ let eight = sh.eight n m in record { six = omega arith; near = omega arith; wide = omega (arith, sh.room) }
            ]
      ]

  -- some places on from one that is sent as 1
  module _ (l : Lone row) (r : ℕ) (lo : row.len ≤ r) (hi : r < row.digits) (is : is_one (kind_at row r) ≡ true) where
    record Onward : Type 0 where
      carries : kind_at row (r + l.on) ≡ Tributary
      inside : r + l.on < row.digits

    not_so : {A : Type 0} (k : Kind) → is_one k ≡ false → kind_at row r ≡ k → A
    not_so k other e = absurd (true≢false (sym is ∙ ap is_one e ∙ other))

    go_on : (s q : ℕ) → s < row.sets → q + l.on < row.set → r ≡ s * row.set + q → kind_of row s (q + l.on) ≡ Tributary → Onward
    go_on s q hs hq sum e =
        record {
          carries = kind-of-sum row sh (r + l.on) 0 s (q + l.on) (omega arith) hs hq ∙ e;
          inside = omega (arith, in_frame row sh s (q + l.on) hs hq);
        }

    in-first : (q : ℕ) → q ≡ r → kind_at row r ≡ kind_of row 0 q → Onward
    in-first q same e =
        elim (dec_lt q row.first) [
          | yes h ↦
              go_on 0 q (omega (arith, sh.later_set)) (omega (arith, sh.room, l.on_near)) (omega arith)
              (kind-first row sh (q + l.on) (omega (arith, heads.near, l.on_past)))
          | no h ↦ not_so Tributary refl (e ∙ kind-first row sh q (omega arith))
        ]

    in_between : (s q : ℕ) → 0 < s → s + 1 < row.sets → r ≡ s * row.set + q → kind_at row r ≡ kind_of row s q → Onward
    in_between s q later other sum e =
        elim (dec_lt q 4) [
          | yes h ↦ not_so Control refl (e ∙ kind-control row sh s later q h)
          | no h ↦
              elim (dec_lt q row.middle) [
                | yes m ↦
                    go_on s q (omega arith) (omega (arith, heads.wide, sh.middle_most, l.on_near)) sum
                    (kind-between row sh s later (λ z. omega arith) (q + l.on) (omega (arith, sh.middle_most, l.on_past)))
                | no m ↦ not_so Tributary refl (e ∙ kind-between row sh s later (λ z. omega arith) q (omega arith))
              ]
        ]

    in-last : (s q : ℕ) → 0 < s → s + 1 ≡ row.sets → kind_at row r ≡ kind_of row s q → Onward
    in-last s q later last e =
        elim (dec_lt q 4) [
          | yes h ↦ not_so Control refl (e ∙ kind-control row sh s later q h)
          | no h ↦
              elim (dec_lt q (row.last - 4)) [
                | yes m ↦ not_so (Justification Negative) refl (e ∙ kind-negative row sh s later last q (omega arith) m)
                | no m ↦
                    elim (dec_lt q row.last) [
                      | yes p ↦ not_so (Justification Positive) refl (e ∙ kind-positive row sh s later last q (omega arith) p)
                      | no p ↦ not_so Tributary refl (e ∙ kind-after row sh s later last q (omega arith))
                    ]
              ]
        ]

    onward : Onward
    unfolding pos_of
    onward =
        elim (ℕ_discrete s 0) [
          | yes z ↦
              let none : s * row.set ≡ 0 = rw z (zero-mul row.set) in
              in-first q (omega (arith, sum)) (ap (λ (k : ℕ). kind_of row k q) z)
          | no n ↦
              elim (ℕ_discrete (s + 1) row.sets) [
                | yes last ↦ in-last s q (omega arith) last refl
                | no other ↦ in_between s q (omega arith) (omega (arith, (stands row sh r).set_in)) sum refl
              ]
        ]
      where
        s : ℕ
        s = (pos_of row r).set

        q : ℕ
        q = (pos_of row r).place

        none_before : r / row.digits * row.digits ≡ 0
        none_before = rw (div-eq_of_lt hi) (zero-mul row.digits)

        sum : r ≡ s * row.set + q
        sum = omega (arith, (stands row sh r).sum, none_before)

  idle-word : (p : ℕ) → p < row.len → idle_digit row p ≡ zero_digit row p
  idle-word p h = rw ((sentences row sh).the_word p h) refl

  idle-alone : Lone row → Alone row (idle_digit row)
  idle-alone l = alone-by row sh l (idle_digit row) idle-word past
    where
      past : (r : ℕ) → row.len ≤ r → r < row.digits → ((j p : ℕ) → j < row.len → p ≡ r + j → p < row.digits → zero_digit row j ≡ idle_digit row p) → ⊥
      past r lo hi same = go (is_one (kind_at row r)) refl
        where
          go : (t : Bool) → is_one (kind_at row r) ≡ t → ⊥
          go true is =
              let there = onward l r lo hi is in
              let zero-there : idle_digit row (r + l.on) ≡ 0 = rw there.carries (past_word row sh (r + l.on) (omega arith)) in
              one-zero (sym l.on_one ∙ same l.on (r + l.on) (omega (arith, heads.six, l.on_near)) refl there.inside ∙ zero-there)
          go false is =
              let zero-there : idle_digit row r ≡ 0 = rw is (past_word row sh r lo) in
              one-zero (sym l.first ∙ same 0 r (omega (arith, heads.six)) (omega arith) hi ∙ zero-there)

  pub idle-bits : (p : ℕ) → idle_digit row p < 2
  idle-bits p = go (is_one (kind_at row p))
    where
      go : (t : Bool) → cond t 1 (zero_digit row p) < 2
      go true = lit< tt
      go false = written-binary row.len row.word p

-- at each level, of any length and begun anywhere
pub idle-correct : (level : ℕ) (row : Row) → level_of level ≡ Some row → (o n : ℕ) → CorrectLine row o (idle_line row o n)
idle-correct level row known =
    let sh = shared-row level row known in
    frames-correct row sh (idle_digit row) (idle-word row sh) (idle-bits row sh) (idle-alone row sh (lone level row known))
