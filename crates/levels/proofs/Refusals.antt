-- The ways of a call that goes by notes: refused for a length, for the earlier vote, for a note, or accepted; and what it then answers and leaves.
use mathlib.Core.Path.{◌≡◌, refl, sym, ap}
use mathlib.Core.Logic.{◌≢◌}
use mathlib.Core.Bool.{Bool, cond, true, false}
use mathlib.Core.List.{List, [], ◌∷◌}
use Prim.Native.Nat.{ℕ, zero, suc, ◌+◌, ◌^◌, ◌≤◌, ◌<◌}
use native.Mathlib.Omega.{arith}
use native.Mathlib.Decide.{ℕ_discrete}
use native.Mathlib.Nat.{not-suc-le-zero}
use lib.Dec.{eqb, ltb}
use lib.ListN.{length, get_or}
use borrow.Author.Tests.{lt-ltb, le-ltb, eq-eqb, ne_eqb, lt-leb, leb-false, ltb-false}
use Rattle.table.specs.declared.Row.{Row}
use Rattle.levels.specs.Faults.{Fault}
use Rattle.levels.specs.Sizes.{size_refusal, Accepted}
use Rattle.levels.specs.Places.{noted_of}
use Rattle.levels.specs.Order.{counts_of}
use Rattle.levels.specs.Faults.{first_with, overfull, unset, fault, naming, note_fault, bad_earlier, fault_of, send_fault_of, refused_with, answer_by, left_by}
use Rattle.levels.proofs.Judged.{accepted, no-size-refused}

-- no note meets a test that none was found to meet
none-with : (test : ℕ → Bool) (notes : List ℕ) → length notes ≤ first_with test notes → (f : ℕ) → f < length notes → test (get_or notes f 0) ≡ false
unfolding first_with
none-with test [] h f hf = absurd (not-suc-le-zero hf)
none-with test (x ∷ xs) h f hf = go (test x) refl h (none-with test xs) f hf
  where
    go : (t : Bool) → test x ≡ t → suc (length xs) ≤ cond t 0 (suc (first_with test xs))
        → (length xs ≤ first_with test xs → (f : ℕ) → f < length xs → test (get_or xs f 0) ≡ false) → (f : ℕ) → f < suc (length xs) → test (get_or (x ∷ xs) f 0) ≡ false
    go true e h rest f hf = absurd (not-suc-le-zero h)
    go false e h rest zero hf = e
    go false e h rest (suc f) hf = rest (omega arith) f (omega arith)

-- and none is found to meet it where none does
none_found : (test : ℕ → Bool) (notes : List ℕ) → ((f : ℕ) → f < length notes → test (get_or notes f 0) ≡ false) → first_with test notes ≡ length notes
unfolding first_with
none_found test [] h = refl
none_found test (x ∷ xs) h = rw (h 0 (omega arith)) (ap (λ (n : ℕ). suc n) (none_found test xs (λ f hf. h (suc f) (omega arith))))

-- where no note is named none meets the test
unnamed : (number : ℕ) (test : ℕ → Bool) (notes : List ℕ) → number ≢ 0 → (naming number test notes).refusal ≡ 0 → (f : ℕ) → f < length notes → test (get_or notes f 0) ≡ false
unnamed number test notes some e = none-with test notes (go (ltb (first_with test notes) (length notes)) refl e)
  where
    go : (t : Bool) → ltb (first_with test notes) (length notes) ≡ t → (cond t (fault number (first_with test notes)) (fault 0 0)).refusal ≡ 0 → length notes ≤ first_with test notes
    go true e z = absurd (some z)
    go false e z = ltb-false (first_with test notes) (length notes) e

-- the number of a fault
pub number : {f g : Fault} → f ≡ g → f.refusal ≡ g.refusal
number e = ap (λ (found : Fault). found.refusal) e

-- every note is without a bit that the level has not
abbrev pub NotesFit : Row → List ℕ → Type 0
NotesFit row notes = (f : ℕ) → f < length notes → get_or notes f 0 < 2 ^ (4 + noted_of row)

-- and has the level's national bits, all 1
abbrev pub NationalsSet : Row → List ℕ → Type 0
NationalsSet row notes = (f : ℕ) → f < length notes → unset row (get_or notes f 0) ≡ false

-- the earlier vote is one that the level does not look at, or a vote
abbrev pub EarlierFits : Row → ℕ → Type 0
EarlierFits row earlier = bad_earlier row earlier ≡ false

module _ (row : Row) (earlier line : ℕ) (notes : List ℕ) (buffer : ℕ) where
  abbrev size : ℕ
  size = size_refusal row line (length notes) buffer

  abbrev found : Fault
  found = fault_of row earlier line notes buffer

  pub fault-of-size : size ≢ 0 → fault size 0 ≡ found
  unfolding fault_of
  fault-of-size n = rw (ne_eqb size 0 n)

  pub fault-of-earlier : size ≡ 0 → bad_earlier row earlier ≡ true → fault 5 0 ≡ found
  unfolding fault_of
  fault-of-earlier z e = rw (eq-eqb size 0 z, e)

  pub fault-of-note : size ≡ 0 → EarlierFits row earlier → first_with (overfull row) notes < length notes → fault 5 (first_with (overfull row) notes) ≡ found
  unfolding fault_of
  fault-of-note z e h = rw (eq-eqb size 0 z, e, lt-ltb (first_with (overfull row) notes) (length notes) h)

  pub no-fault : size ≡ 0 → EarlierFits row earlier → length notes ≤ first_with (overfull row) notes → fault 0 0 ≡ found
  unfolding fault_of
  no-fault z e h = rw (eq-eqb size 0 z, e, le-ltb (first_with (overfull row) notes) (length notes) h)

  -- where nothing is at fault the lengths are accepted, and the earlier vote and the notes fit; and so the other way round
  pub faultless : found.refusal ≡ 0 → Accepted row line (length notes) buffer × (EarlierFits row earlier × NotesFit row notes)
  unfolding fault_of
  faultless e =
      elim (ℕ_discrete size 0) [
        | yes z ↦ (accepted row line (length notes) buffer z, earlier-first (bad_earlier row earlier) refl (rw (eq-eqb size 0 z) at e))
        | no n ↦ absurd (n (rw (ne_eqb size 0 n) at e))
      ]
    where
      five : ◌≡◌ {A = ℕ} 5 0 → ⊥
      five e = omega arith

      earlier-first : (t : Bool) → bad_earlier row earlier ≡ t
          → (cond (eqb (cond t (fault 5 0) (fault 0 0)).refusal 0) (note_fault row notes) (cond t (fault 5 0) (fault 0 0))).refusal ≡ 0
          → EarlierFits row earlier × NotesFit row notes
      earlier-first true e z = absurd (five z)
      earlier-first false e z = (e, λ f hf. leb-false (2 ^ (4 + noted_of row)) (get_or notes f 0) (unnamed 5 (overfull row) notes five z f hf))

  pub fit-faultless : Accepted row line (length notes) buffer → EarlierFits row earlier → NotesFit row notes → found ≡ fault 0 0
  fit-faultless ok e fit =
      sym (no-fault (no-size-refused row line (length notes) buffer ok) e (omega (arith, none_found (overfull row) notes (λ f hf. lt-leb (2 ^ (4 + noted_of row)) (get_or notes f 0) (fit f hf)))))

  -- multiplexing: another fault, 10, or none
  abbrev found-sending : Fault
  found-sending = send_fault_of row earlier line notes buffer

  pub send-fault-of-any : found.refusal ≢ 0 → found ≡ found-sending
  unfolding send_fault_of
  send-fault-of-any n = rw (ne_eqb found.refusal 0 n)

  pub send-fault-of-national : found.refusal ≡ 0 → first_with (unset row) notes < length notes → fault 10 (first_with (unset row) notes) ≡ found-sending
  unfolding send_fault_of
  send-fault-of-national z h = rw (eq-eqb found.refusal 0 z, lt-ltb (first_with (unset row) notes) (length notes) h)

  pub no-send-fault : found.refusal ≡ 0 → length notes ≤ first_with (unset row) notes → fault 0 0 ≡ found-sending
  unfolding send_fault_of
  no-send-fault z h = rw (eq-eqb found.refusal 0 z, le-ltb (first_with (unset row) notes) (length notes) h)

  -- where multiplexing is not at fault, no call that goes by these notes is, and the national bits are set; and so the other way round
  pub send-faultless : found-sending.refusal ≡ 0 → (found.refusal ≡ 0) × NationalsSet row notes
  unfolding send_fault_of
  send-faultless e =
      elim (ℕ_discrete found.refusal 0) [
        | yes z ↦ (z, unnamed 10 (unset row) notes (λ n. omega arith) (rw (eq-eqb found.refusal 0 z) at e))
        | no n ↦ absurd (n (rw (ne_eqb found.refusal 0 n) at e))
      ]

  pub set-faultless : found ≡ fault 0 0 → NationalsSet row notes → found-sending ≡ fault 0 0
  set-faultless z set = sym (no-send-fault (number z) (omega (arith, none_found (unset row) notes set)))

-- what a call answers and leaves: refused, as it was; accepted, the counts and the new bytes
module _ (row : Row) (earlier : ℕ) (notes : List ℕ) (found : Fault) (new old : List ℕ) where
  pub refused-kept : found.refusal ≢ 0 → (refused_with found ≡ answer_by row earlier notes found) × (old ≡ left_by found new old)
  refused-kept n = rw (ne_eqb found.refusal 0 n) (refl, refl)

  pub accepted-new : (counts : List ℕ) → found.refusal ≡ 0 → counts ≡ counts_of row earlier notes (length notes)
      → (record { refusal = 0; frame = 0; counts = counts } ≡ answer_by row earlier notes found) × (new ≡ left_by found new old)
  accepted-new counts z e = rw (eq-eqb found.refusal 0 z) (ap (λ (n : List ℕ). record { refusal = 0; frame = 0; counts = n }) e, refl)
