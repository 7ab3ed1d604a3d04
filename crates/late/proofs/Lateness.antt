-- Laws of the late multiplexer: the late notes are refused as the notes are, what is delayed frame by frame is the late notes, and what the call answers and
-- leaves, by the level's row.
use Rattle.std.specs.Prelude.{Option, Some, None}
use mathlib.Core.Path.{◌≡◌, refl, sym, ap, ◌∙◌}
use mathlib.Core.Bool.{Bool, true, false, not}
use mathlib.Core.List.{List, [], ◌∷◌}
use Prim.Native.Nat.{ℕ, zero, suc, ◌+◌, ◌-◌, ◌*◌, ◌/◌, ◌%◌, ◌^◌, ◌≤◌, ◌<◌}
use native.Mathlib.Omega.{arith}
use native.Mathlib.Nat.{mul-le-mul}
use native.Mathlib.Decide.{ℕ_discrete}
use borrow.Author.Tests.{lt-ltb, leb-true, leb-false, le-leb, lt-leb, eq-eqb, ne_eqb}
use lib.Dec.{leb, eqb}
use lib.ListN.{length, get_or, take, drop}
use lib.Pow.{pow-add}
use lib.Seq.{take_at, length-take-le}
use borrow.Rule.Slice.PartMut.{put_mid, post_of, same_len_mid}
use Rattle.digits.specs.Digits.{tab}
use Rattle.digits.proofs.Laws.{tab-of}
use Rattle.table.specs.declared.Row.{Row}
use Rattle.levels.specs.Table.{Shared}
use Rattle.levels.specs.Places.{noted_of}
use Rattle.levels.specs.Sizes.{on_level}
use Rattle.levels.specs.Faults.{first_with, overfull, unset, fault, fault_of, send_fault_of, refused_with, answer_by, left_by}
use Rattle.levels.proofs.Refusals.{faultless, send-faultless}
use Rattle.multiplex.specs.Multiplex.{line_on}
use Rattle.workbench.specs.Bench.{decided_by, delayed, mixed_line}
use Rattle.late.specs.Late.{late_notes, late_line_of, Delayed}

-- ---- the late notes, one by one

pub late-length : (before : ℕ) (notes : List ℕ) → length (late_notes before notes) ≡ length notes
unfolding late_notes
late-length before [] = refl
late-length before (note ∷ notes) = ap suc (late-length note notes)

late-at : (before : ℕ) (notes : List ℕ) (f : ℕ) → f < length notes → get_or (late_notes before notes) f 0 ≡ decided_by (get_or (before ∷ notes) f 0) (get_or notes f 0)
unfolding late_notes
late-at before [] f h = absurd (none f h)
  where
    none : (f : ℕ) → f < 0 → ⊥
    none f h = omega arith
late-at before (note ∷ notes) zero h = refl
late-at before (note ∷ notes) (suc f) h = late-at note notes f (omega arith)

-- the notes delayed in their room
pub late-tab : (before : ℕ) (notes old : List ℕ) → length old ≡ length notes → tab (length old) 0 (delayed (before % 16) notes old) ≡ late_notes before notes
unfolding delayed
late-tab before notes old e = sym (tab-of (late_notes before notes) (length old) (delayed (before % 16) notes old) (late-length before notes ∙ sym e) place)
  where
    same : (f note : ℕ) → decided_by (get_or (before ∷ notes) f 0) note ≡ decided_by (get_or (before % 16 ∷ notes) f 0) note
    same zero note = omega arith
    same (suc f) note = refl

    place : (f : ℕ) → f < length old → get_or (late_notes before notes) f 0 ≡ delayed (before % 16) notes old f
    place f h =
        late-at before notes f (omega arith) ∙ same f (get_or notes f 0) ∙ rw (lt-ltb f (length notes) (omega arith)) refl

-- and put back at the beginning of it
pub late-lent : (before : ℕ) (notes room left : List ℕ) → 64 ≡ length room → length notes ≤ 64
    → left ≡ tab (length (take (length notes - 0) (drop 0 room))) 0 (delayed (before % 16) notes (take (length notes - 0) (drop 0 room)))
    → Delayed before notes (put_mid 0 (length notes - 0) room left)
late-lent before notes room left size few e =
    let there : length notes - 0 ≡ length notes = omega arith in
    let lent : length (take (length notes - 0) (drop 0 room)) ≡ length notes = length-take-le (length notes - 0) room (omega arith) ∙ there in
    let is : left ≡ late_notes before notes = e ∙ late-tab before notes (take (length notes - 0) (drop 0 room)) lent in
    let many : length left ≡ length notes = ap length is ∙ late-length before notes in
    record {
      size = size ∙ sym (same_len_mid 0 (length notes - 0) room left (many ∙ sym lent));
      late = take_at left (post_of 0 (length notes - 0) room) (length notes) many ∙ is;
    }

-- ---- they are refused as the notes are: only bits 0 to 3 differ

same_first : (test : ℕ → Bool) → ((before note : ℕ) → test (decided_by before note) ≡ test note) → (before : ℕ) (notes : List ℕ)
    → first_with test (late_notes before notes) ≡ first_with test notes
unfolding late_notes first_with
same_first test same before [] = refl
same_first test same before (note ∷ notes) = rw (same before note, same_first test same note notes) refl

same-overfull : (row : Row) (before note : ℕ) → overfull row (decided_by before note) ≡ overfull row note
same-overfull row before note = rw (pow-add 2 4 (noted_of row)) (both (leb (16 * 2 ^ noted_of row) note) refl)
  where
    late : ℕ
    late = before % 16 + note / 16 * 16

    both : (t : Bool) → leb (16 * 2 ^ noted_of row) note ≡ t → leb (16 * 2 ^ noted_of row) late ≡ leb (16 * 2 ^ noted_of row) note
    both true e = le-leb (16 * 2 ^ noted_of row) late (omega (arith, leb-true (16 * 2 ^ noted_of row) note e)) ∙ sym e
    both false e = lt-leb (16 * 2 ^ noted_of row) late (omega (arith, leb-false (16 * 2 ^ noted_of row) note e)) ∙ sym e

same-unset : (row : Row) (before note : ℕ) → unset row (decided_by before note) ≡ unset row note
same-unset row before note =
    let e : (before % 16 + note / 16 * 16) / 32 ≡ note / 32 = omega arith in
    ap (λ (k : ℕ). not (eqb (k % 2 ^ row.nationals) (2 ^ row.nationals - 1))) e

pub same-fault : (row : Row) (earlier line before : ℕ) (notes : List ℕ) (buffer : ℕ)
    → send_fault_of row earlier line (late_notes before notes) buffer ≡ send_fault_of row earlier line notes buffer
unfolding send_fault_of fault_of
same-fault row earlier line before notes buffer =
    rw (late-length before notes, same_first (overfull row) (same-overfull row) before notes, same_first (unset row) (same-unset row) before notes) refl

-- ---- what is answered and left, by the level's row or no such level

module _ (earlier : ℕ) (line notes buffer : List ℕ) where
  abbrev found : Row → ℕ
  found row = (send_fault_of row earlier (length line) notes (length buffer)).refusal

  abbrev Answers : Option Row → Type 0
  Answers l =
      on_level l (λ (row : Row). answer_by row earlier (late_notes earlier notes) (send_fault_of row earlier (length line) (late_notes earlier notes) (length buffer))) (refused_with (fault 1 0))
      ≡ on_level l (λ (row : Row). answer_by row earlier (late_notes earlier notes) (send_fault_of row earlier (length line) notes (length buffer))) (refused_with (fault 1 0))

  pub answers-same : (l : Option Row) → Answers l
  answers-same (Some row) = rw (same-fault row earlier (length line) earlier notes (length buffer)) refl
  answers-same None = refl

  pub left-same : (said : List ℕ) → length said ≡ length line → (l : Option Row)
      → on_level l
      (λ (row : Row).
      left_by (send_fault_of row earlier (length line) (late_notes earlier notes) (length buffer))
      (mixed_line row (line_on row earlier said notes buffer) (line_on row earlier line (late_notes earlier notes) buffer)) line)
      line
      ≡ on_level l (λ (row : Row). left_by (send_fault_of row earlier (length line) notes (length buffer)) (late_line_of row earlier notes buffer (length line)) line) line
  left-same said e (Some row) =
      elim (ℕ_discrete (found row) 0) [
        | yes z ↦ rw (same-fault row earlier (length line) earlier notes (length buffer), e, eq-eqb (found row) 0 z) refl
        | no n ↦ rw (same-fault row earlier (length line) earlier notes (length buffer), ne_eqb (found row) 0 n) refl
      ]
  left-same said e None = refl

  -- what is too long for its room is refused: an accepted line has at most 64 frames
  module _ (long : length notes ≤ 64 → 23424 < length line) where
    at-fault : (row : Row) → Shared row → found row ≡ 0 → ⊥
    at-fault row sh z =
        let ok = (faultless row earlier (length line) notes (length buffer) (send-faultless row earlier (length line) notes (length buffer) z).0).0.framed in
        let most = mul-le-mul {n₁ = _} {m₁ = row.bytes} {n₂ = 64} {m₂ = 366} ok.few (omega (arith, sh.packed, sh.short)) in
        omega (arith, ok.frames, most, long (omega (arith, ok.noted, ok.few)))

    pub long-answers : (l : Option Row) → ((row : Row) → l ≡ Some row → Shared row)
        → on_level l (λ (row : Row). answer_by row earlier notes (send_fault_of row earlier (length line) notes (length buffer))) (refused_with (fault 1 0))
        ≡ on_level l (λ (row : Row). answer_by row earlier (late_notes earlier notes) (send_fault_of row earlier (length line) notes (length buffer))) (refused_with (fault 1 0))
    long-answers (Some row) known = rw (ne_eqb (found row) 0 (at-fault row (known row refl))) refl
    long-answers None known = refl

    pub long-left : (l : Option Row) → ((row : Row) → l ≡ Some row → Shared row)
        → on_level l (λ (row : Row). line_on row earlier line notes buffer) line
        ≡ on_level l (λ (row : Row). left_by (send_fault_of row earlier (length line) notes (length buffer)) (late_line_of row earlier notes buffer (length line)) line) line
    long-left (Some row) known = rw (ne_eqb (found row) 0 (at-fault row (known row refl))) refl
    long-left None known = refl
