-- What a call may rely on where it is not refused: the line is as many frames as there are notes, at most 64, and the buffer is four
-- quarters.
use mathlib.Core.Path.{◌≡◌, refl, sym, ◌∙◌}
use mathlib.Core.Bool.{Bool, cond, true, false, not, ◌||◌, true≢false}
use mathlib.Core.List.{List}
use Prim.Native.Nat.{ℕ, ◌*◌, ◌/◌, ◌%◌, ◌≤◌}
use native.Mathlib.Omega.{arith}
use native.Mathlib.Nat.{div-add-mod', mul_left_comm}
use lib.Dec.{eqb, ltb}
use lib.ListN.{length}
use borrow.Author.Tests.{eqb-true, ltb-false, not-false}
use Rattle.table.specs.declared.Row.{Row}
use Rattle.engine.specs.Engine.{Refusal, bad_line, bad_notes, bad_buffer, first_faulty, first_lacking, bad_earlier, refusal_with, refusal_on, sending_on, reading_on}
use Rattle.engine.specs.Walk.{Regular, Fits}

-- where neither of two faults is there
neither : (a b : Bool) → not a || b ≡ false → (a ≡ true) × (b ≡ false)
neither true b e = (refl, e)
neither false b e = absurd (true≢false e)

pub line-frames : (row : Row) (line : ℕ) → bad_line row line ≡ false → (line % row.bytes ≡ 0) × (line / row.bytes ≤ 64)
line-frames row line e =
    let both = neither (eqb (line % row.bytes) 0) (ltb 64 (line / row.bytes)) e in
    (eqb-true (line % row.bytes) 0 both.0, ltb-false 64 (line / row.bytes) both.1)

-- a refusal number that is 0 was given by no test
unrefused : (t : Bool) (a b : ℕ) → (a ≡ 0 → ⊥) → cond t a b ≡ 0 → (t ≡ false) × (b ≡ 0)
unrefused true a b n e = absurd (n e)
unrefused false a b n e = (refl, e)

-- the number of a refusal that a test gives
number : (t : Bool) (v w : Refusal) → (cond t v w).refusal ≡ cond t v.refusal w.refusal
number true v w = refl
number false v w = refl

-- lines and notes that are right
fits_by : (row : Row) → Regular row → (line notes : ℕ) → bad_line row line ≡ false → bad_notes row line notes ≡ false → Fits row line notes
fits_by row re line notes two three = record { whole = rw (noted, re.packed) eights; few = rw noted whole.1 }
  where
    whole : (line % row.bytes ≡ 0) × (line / row.bytes ≤ 64)
    whole = line-frames row line two

    noted : notes ≡ line / row.bytes
    noted = eqb-true notes (line / row.bytes) (not-false (eqb notes (line / row.bytes)) three)

    eights : 8 * line ≡ line / row.bytes * (8 * row.bytes)
    eights = omega (arith, div-add-mod' line row.bytes, whole.0, mul_left_comm (line / row.bytes) 8 row.bytes)

pub accepted : (row : Row) → Regular row → (earlier line : ℕ) (notes : List ℕ) (buffer : ℕ) → (refusal_on row earlier line notes buffer).refusal ≡ 0
    → Fits row line (length notes) × (buffer ≡ 4 * (buffer / 4))
unfolding refusal_on
accepted row re earlier line notes buffer e =
    let noted = cond (ltb (first_faulty row notes) (length notes)) (refusal_with 5 (first_faulty row notes)) (refusal_with 0 0) in
    let voted = cond (bad_earlier row earlier) (refusal_with 5 0) noted in
    let roomy = cond (bad_buffer row line buffer) (refusal_with 4 0) voted in
    let right = cond (bad_notes row line (length notes)) (refusal_with 3 0) roomy in
    let two = unrefused (bad_line row line) 2 right.refusal (λ z. omega arith) (sym (number (bad_line row line) (refusal_with 2 0) right) ∙ e) in
    let three = unrefused (bad_notes row line (length notes)) 3 roomy.refusal (λ z. omega arith) (sym (number (bad_notes row line (length notes)) (refusal_with 3 0) roomy) ∙ two.1) in
    let four = unrefused (bad_buffer row line buffer) 4 voted.refusal (λ z. omega arith) (sym (number (bad_buffer row line buffer) (refusal_with 4 0) voted) ∙ three.1) in
    let fours = eqb-true (buffer % 4) 0 (neither (eqb (buffer % 4) 0) (ltb (8 * (buffer / 4)) (line / row.bytes * row.room)) four.0).0 in
    (fits_by row re line (length notes) two.0 three.0, omega arith)

-- what multiplexing accepts, extraction does
pub sent-accepted : (row : Row) (earlier line : ℕ) (notes : List ℕ) (buffer : ℕ) → (sending_on row earlier line notes buffer).refusal ≡ 0
    → (refusal_on row earlier line notes buffer).refusal ≡ 0
unfolding sending_on
sent-accepted row earlier line notes buffer e = go (eqb v.refusal 0) refl e
  where
    v : Refusal
    v = refusal_on row earlier line notes buffer

    go : (t : Bool) → eqb v.refusal 0 ≡ t
        → (cond t (cond (ltb (first_lacking row notes) (length notes)) (refusal_with 10 (first_lacking row notes)) (refusal_with 0 0)) v).refusal ≡ 0 → v.refusal ≡ 0
    go true z _ = eqb-true v.refusal 0 z
    go false _ z = z

pub readable : (row : Row) → Regular row → (line notes : ℕ) → reading_on row line notes ≡ 0 → Fits row line notes
unfolding reading_on
readable row re line notes e =
    let two = unrefused (bad_line row line) 2 _ (λ z. omega arith) e in
    let three = unrefused (bad_notes row line notes) 3 0 (λ z. omega arith) two.1 in
    fits_by row re line notes two.0 three.0
