-- What is refused: both engines give the same number and name the same frame, and the same counts where nothing is refused.
use mathlib.Core.Path.{◌≡◌, refl, sym, ◌∙◌, ap}
use mathlib.Core.Bool.{Bool, cond, true, false, not}
use mathlib.Core.List.{List, [], ◌∷◌}
use Prim.Native.Nat.{ℕ, zero, suc, ◌+◌, ◌*◌, ◌-◌, ◌/◌, ◌%◌, ◌^◌, ◌≤◌}
use native.Mathlib.Omega.{arith}
use native.Mathlib.Decide.{dec_lt}
use native.Mathlib.Nat.{div-div-eq-div-mul}
use lib.Dec.{eqb, ltb}
use lib.ListN.{length}
use borrow.Author.Tests.{eqb-true, eq-eqb, ne_eqb, lt-ltb, le-ltb}
use Rattle.table.specs.declared.Row.{Row}
use Rattle.levels.specs.Faults.{Fault}
use Rattle.levels.specs.Table.{Shared}
use Rattle.levels.specs.Places.{noted_of}
use Rattle.levels.specs.Sizes.{bad_line, bad_notes, bad_buffer, frames_refusal, size_refusal}
use Rattle.levels.specs.Faults as quick
use Rattle.levels.proofs.Judged.{accepted}
use Rattle.engine.specs.Engine.{Refusal}
use Rattle.engine.specs.Engine as plain
use Rattle.plain_promises.specs.Same.{SameCounted}
use Rattle.plain_promises.proofs.Order.{counts_same}

-- the same first note, by tests that agree on every note
first-same : (t u : ℕ → Bool) → ((note : ℕ) → t note ≡ u note) → (notes : List ℕ) → plain.first_with t notes ≡ quick.first_with u notes
unfolding plain.first_with quick.first_with
first-same t u same [] = refl
first-same t u same (note ∷ notes) = rw (first-same t u same notes, same note)

-- bits of which fewer than n are 1 are, as a number, not all that they may be
by_bits : (ones n bits all : ℕ) → (bits ≡ all → n ≤ ones) → (n ≤ ones → bits ≡ all) → ltb ones n ≡ not (eqb bits all)
by_bits ones n bits all full whole =
    elim (dec_lt ones n) [
      | yes few ↦ lt-ltb ones n few ∙ sym (ap not (ne_eqb bits all (λ e. omega (arith, full e))))
      | no many ↦ le-ltb ones n (omega arith) ∙ sym (ap not (eq-eqb bits all (whole (omega arith))))
    ]

two-bits : (y : ℕ) → y % 4 ≡ y % 2 + 2 * (y / 2 % 2)
two-bits y = omega arith

three-bits : (y : ℕ) → y % 8 ≡ y % 4 + 4 * (y / 4 % 2)
three-bits y = omega arith

by_three : (a b c bits : ℕ) → a ≤ 1 → b ≤ 1 → c ≤ 1 → bits ≡ a + 2 * b + 4 * c → ltb (0 + a + b + c) 3 ≡ not (eqb bits 7)
by_three a b c bits ha hb hc e = by_bits (0 + a + b + c) 3 bits 7 (λ all. omega arith) (λ many. omega arith)

-- of at most three bits from bit 5 on
few_ones : (n : ℕ) → n ≤ 3 → (note : ℕ) → ltb (plain.sum_over n (λ (k : ℕ). note / 2 ^ (5 + k) % 2)) n ≡ not (eqb (note / 2 ^ 5 % 2 ^ n) (2 ^ n - 1))
unfolding plain.sum_over
few_ones zero h note = let none : note / 2 ^ 5 % 1 ≡ 0 = omega arith in rw none
few_ones (suc zero) h note = by_bits (0 + note / 2 ^ 5 % 2) 1 (note / 2 ^ 5 % 2) 1 (λ e. omega (arith, e)) (λ m. omega (arith, m))
few_ones (suc (suc zero)) h note =
    let y = note / 2 ^ 5 in
    rw (sym (div-div-eq-div-mul note 32 2))
    (by_bits (0 + y % 2 + y / 2 % 2) 2 (y % 4) 3 (λ e. omega (arith, e, two-bits y)) (λ m. omega (arith, m, two-bits y)))
few_ones (suc (suc (suc zero))) h note =
    let y = note / 2 ^ 5 in
    rw (sym (div-div-eq-div-mul note 32 2), sym (div-div-eq-div-mul note 32 4))
    (by_three (y % 2) (y / 2 % 2) (y / 4 % 2) (y % 8) (omega arith) (omega arith) (omega arith) (three-bits y ∙ ap (λ (n : ℕ). n + 4 * (y / 4 % 2)) (two-bits y)))
few_ones (suc (suc (suc (suc n)))) h note = absurd (over n h)
  where
    over : (n : ℕ) → suc (suc (suc (suc n))) ≤ 3 → ⊥
    over n h = omega arith

-- the order of refusals, whatever the tests say
module _ (t2 t3 t4 te t5 : Bool) (f : ℕ) where
  abbrev theirs : Fault
  theirs =
      let frames : ℕ = cond t2 2 (cond t3 3 0) in
      let size : ℕ = cond (eqb frames 0) (cond t4 4 0) frames in
      quick.or_else (quick.fault size 0) (quick.or_else (cond te (quick.fault 5 0) (quick.fault 0 0)) (cond t5 (quick.fault 5 f) (quick.fault 0 0)))

  abbrev ours : Refusal
  ours =
      cond t2 (plain.refusal_with 2 0)
      (cond t3 (plain.refusal_with 3 0) (cond t4 (plain.refusal_with 4 0) (cond te (plain.refusal_with 5 0) (cond t5 (plain.refusal_with 5 f) (plain.refusal_with 0 0)))))

-- the same number, and the same frame named
abbrev SameFault : Fault → Refusal → Type 0
SameFault found v = (found.refusal ≡ v.refusal) × (found.frame ≡ v.frame)

order : (t2 t3 t4 te t5 : Bool) (f : ℕ) → SameFault (theirs t2 t3 t4 te t5 f) (ours t2 t3 t4 te t5 f)
order true t3 t4 te t5 f = (refl, refl)
order false true t4 te t5 f = (refl, refl)
order false false true te t5 f = (refl, refl)
order false false false true t5 f = (refl, refl)
order false false false false true f = (refl, refl)
order false false false false false f = (refl, refl)

-- and 10 after them
then-ten : (t t10 : Bool) (f : ℕ) (theirs : Fault) (ours : Refusal) → SameFault theirs ours
    → SameFault (cond t (cond t10 (quick.fault 10 f) (quick.fault 0 0)) theirs) (cond t (cond t10 (plain.refusal_with 10 f) (plain.refusal_with 0 0)) ours)
then-ten false t10 f theirs ours same = same
then-ten true true f theirs ours same = (refl, refl)
then-ten true false f theirs ours same = (refl, refl)

-- a fault that is none was given by no length
no_size : (size : ℕ) (w : Fault) → (quick.or_else (quick.fault size 0) w).refusal ≡ 0 → size ≡ 0
no_size size w e = go (eqb size 0) refl e
  where
    go : (t : Bool) → eqb size 0 ≡ t → (cond t w (quick.fault size 0)).refusal ≡ 0 → size ≡ 0
    go true z _ = eqb-true size 0 z
    go false _ z = z

module _ (row : Row) (sh : Shared row) (earlier line : ℕ) (notes : List ℕ) (buffer : ℕ) where
  abbrev fault_no : ℕ
  fault_no = (quick.fault_of row earlier line notes buffer).refusal

  -- the first bit that a note of the level has not
  limit : 4 + row.alarms + row.nationals ≡ 4 + noted_of row
  limit = omega arith

  -- the tests of a note
  full-same : (note : ℕ) → plain.too_much row note ≡ quick.overfull row note
  full-same note = rw limit

  lacking-same : (note : ℕ) → plain.too_few row note ≡ quick.unset row note
  unfolding plain.national_ones
  lacking-same note = few_ones row.nationals (omega (arith, sh.few_alarm, sh.few_national)) note

  pub same-faults : SameFault (quick.fault_of row earlier line notes buffer) (plain.refusal_on row earlier line notes buffer)
  unfolding quick.fault_of size_refusal frames_refusal plain.refusal_on
  same-faults =
      let f = quick.first_with (quick.overfull row) notes in
      rw (first-same (plain.too_much row) (quick.overfull row) full-same notes)
      (order (bad_line row line) (bad_notes row line (length notes)) (bad_buffer row line buffer) (quick.bad_earlier row earlier) (ltb f (length notes)) f)

  -- multiplexing: 10 after these
  pub same-send-faults : SameFault (quick.send_fault_of row earlier line notes buffer) (plain.sending_on row earlier line notes buffer)
  unfolding quick.send_fault_of plain.sending_on quick.fault_of plain.refusal_on
  same-send-faults =
      rw (← same-faults.0, first-same (plain.too_few row) (quick.unset row) lacking-same notes)
      (then-ten (eqb fault_no 0) (ltb first (length notes)) first _ _ same-faults)
    where
      first : ℕ
      first = quick.first_with (quick.unset row) notes

  -- where nothing is refused the line is as many frames as there are notes, and the buffer four quarters with room for them
  pub sound : fault_no ≡ 0 → (line ≡ length notes * row.bytes) × (buffer ≡ 4 * (buffer / 4)) × (length notes * row.room ≤ 8 * (buffer / 4))
  unfolding quick.fault_of
  sound e =
      let ok = accepted row line (length notes) buffer (no_size (size_refusal row line (length notes) buffer) (quick.or_else (quick.earlier_fault row earlier) (quick.note_fault row notes)) e) in
      (rw ok.framed.noted ok.framed.frames, ok.quarters, rw ok.framed.noted ok.room)

-- what the calls answer and leave, by what is at fault
module _ (found : Fault) (v : Refusal) (same : SameFault found v) where
  pub answer-same : (row : Row) → Shared row → (earlier line : ℕ) (notes : List ℕ) → (found.refusal ≡ 0 → line ≡ length notes * row.bytes)
      → SameCounted (quick.answer_by row earlier notes found) (plain.answer_by row earlier line notes v)
  answer-same row sh earlier line notes whole = go (eqb found.refusal 0) refl
    where
      go : (t : Bool) → eqb found.refusal 0 ≡ t → SameCounted (quick.answer_by row earlier notes found) (plain.answer_by row earlier line notes v)
      go true e =
          rw (← same.0, e) (record { refusal = refl; frame = refl; counts = sym (counts_same row sh earlier notes line (whole (eqb-true found.refusal 0 e))) })
      go false e = rw (← same.0, e) (record { refusal = refl; frame = same.1; counts = refl })

  -- and the slice lent for writing is the same, where what is written is
  pub left-same : (new old other : List ℕ) → (found.refusal ≡ 0 → new ≡ other) → quick.left_by found new old ≡ cond (eqb v.refusal 0) other old
  left-same new old other writes = rw (← same.0) (go (eqb found.refusal 0) refl)
    where
      go : (t : Bool) → eqb found.refusal 0 ≡ t → cond t new old ≡ cond t other old
      go true e = writes (eqb-true found.refusal 0 e)
      go false e = refl
