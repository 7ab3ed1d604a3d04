-- "Further input digits are not looked at": two buffers of any lengths whose quarters agree on the digits that the frames take, and of which
-- both have room or neither has, give the same line and the same answer.
use Rattle.std.specs.Prelude.{Option, Some, None}
use mathlib.Core.Path.{◌≡◌, refl, sym, ◌∙◌, ap}
use mathlib.Core.Bool.{Bool, cond, true, false, true≢false}
use mathlib.Core.List.{List}
use Prim.Native.Nat.{ℕ, suc, ◌+◌, ◌*◌, ◌/◌, ◌%◌, ◌<◌}
use native.Mathlib.Omega.{arith}
use native.Mathlib.Nat.{zero-add}
use lib.Dec.{eqb}
use borrow.Author.Tests.{eqb-true}
use lib.ListN.{length, get_or}
use Rattle.digits.specs.Digits.{digits_of, bytes_of, tab}
use Rattle.digits.proofs.Laws.{tab-of, tab-at, tab-length}
use Rattle.table.specs.declared.Row.{Row}
use Rattle.levels.specs.declared.order.Action.{Action}
use Rattle.levels.specs.declared.places.Kind.{Kind}
use Rattle.levels.specs.declared.places.Kind.TheVariants.{Word, Service, Control, Justification, Tributary}
use Rattle.table.specs.Table.{level_of}
use Rattle.levels.specs.Table.{Shared}
use Rattle.levels.specs.Places.{kind_at, pos_of}
use Rattle.levels.specs.Order.{actions, carried, carries, before, count_of}
use Rattle.levels.specs.Sizes.{on_level, bad_buffer, quarter_of, size_refusal}
use Rattle.levels.proofs.Rows.{shared-row}
use Rattle.levels.proofs.Counts.{count-of}
use Rattle.levels.proofs.Inverse.{before-rises}
use Rattle.levels.proofs.Refusals.{faultless, send-faultless}
use Rattle.levels.specs.Line.{digit_by, line_digit, line_of}
use Rattle.levels.specs.Faults.{fault, fault_of, send_fault_of, refused_with, send_answer_on, send_answered}
use Rattle.multiplex.specs.Multiplex.{line_on, line_after}

-- a place that carries no digit does not look at one
idle : (row : Row) (note : ℕ) (act : Action) (j r a b : ℕ) (k : Kind) → carried k act ≡ false → digit_by row note act j r a k ≡ digit_by row note act j r b k
idle row note act j r a b Word c = refl
idle row note act j r a b (Service s) c = refl
idle row note act j r a b Control c = refl
idle row note act j r a b (Justification sign) c = rw c
idle row note act j r a b Tributary c = absurd (true≢false c)

-- the tributaries t and u agree on the digits that F frames with these notes take
abbrev pub Agree : Row → ℕ → List ℕ → (ℕ → List ℕ) → (ℕ → List ℕ) → Type 0
Agree row earlier notes t u = (j i : ℕ) → j < 4 → i < count_of row (actions row earlier notes j) (length notes) → get_or (t j) i 0 ≡ get_or (u j) i 0

module _ (row : Row) (sh : Shared row) (earlier : ℕ) (notes : List ℕ) (t u : ℕ → List ℕ) (same : Agree row earlier notes t u) (bytes : ℕ) (whole : bytes ≡ length notes * row.bytes) where
  -- the digit that a carrying place takes is one of them
  taken : (p : ℕ) → p < 8 * bytes → carries row (actions row earlier notes (p % 4)) p ≡ true
      → before row (actions row earlier notes (p % 4)) (p % 4) (p / 4) < count_of row (actions row earlier notes (p % 4)) (length notes)
  unfolding before
  taken p h c =
      let j = p % 4 in
      let x = p / 4 in
      let place : 4 * x + j ≡ p = omega arith in
      let one : cond {A = ℕ} (carries row (actions row earlier notes j) (4 * x + j)) 1 0 ≡ 1 = rw (place, c) in
      omega (arith, one, before-rises row (actions row earlier notes j) j (suc x) (2 * bytes) (omega arith), count-of row sh j (omega arith) (actions row earlier notes j) (length notes) bytes whole)

  same-digit : (p : ℕ) → p < 8 * bytes → line_digit row earlier notes t p ≡ line_digit row earlier notes u p
  unfolding line_digit carries
  same-digit p h = go (carries row (actions row earlier notes (p % 4)) p) refl
    where
      go : (c : Bool) → carries row (actions row earlier notes (p % 4)) p ≡ c → line_digit row earlier notes t p ≡ line_digit row earlier notes u p
      go true e = rw (same (p % 4) (before row (actions row earlier notes (p % 4)) (p % 4) (p / 4)) (omega arith) (taken p h e))
      go false e = idle row (get_or notes (pos_of row p).frame 0) (actions row earlier notes (p % 4) (pos_of row p).frame) (p % 4) (pos_of row p).place _ _ (kind_at row p) e

  pub same_line : line_of row earlier notes t bytes ≡ line_of row earlier notes u bytes
  same_line =
      let n = 8 * bytes in
      let f = line_digit row earlier notes t in
      ap (λ (ds : List ℕ). bytes_of bytes ds)
      (tab-of (tab n 0 f) n (line_digit row earlier notes u) (tab-length n 0 f) (λ p h. tab-at n 0 f p h ∙ ap f (zero-add p) ∙ same-digit p h))

-- of the buffer's length a call asks only whether there is room
same-fault : (row : Row) (earlier line : ℕ) (notes : List ℕ) (b b' : ℕ) → bad_buffer row line b ≡ bad_buffer row line b' → send_fault_of row earlier line notes b ≡ send_fault_of row earlier line notes b'
unfolding send_fault_of fault_of size_refusal
same-fault row earlier line notes b b' e = rw e

-- the same of the call
pub not-looked-at : (level earlier : ℕ) (line notes b b' : List ℕ)
    → ((row : Row) → level_of level ≡ Some row → bad_buffer row (length line) (length b) ≡ bad_buffer row (length line) (length b'))
    → ((row : Row) → level_of level ≡ Some row → Agree row earlier notes (λ (j : ℕ). digits_of (quarter_of b j)) (λ (j : ℕ). digits_of (quarter_of b' j)))
    → (send_answered level earlier (length line) notes (length b) ≡ send_answered level earlier (length line) notes (length b'))
    × (line_after level earlier line notes b ≡ line_after level earlier line notes b')
not-looked-at level earlier line notes b b' room same = go (level_of level) refl
  where
    on_row : (row : Row) → level_of level ≡ Some row → (r : Bool) → eqb (send_fault_of row earlier (length line) notes (length b')).refusal 0 ≡ r
        → line_on row earlier line notes b ≡ line_on row earlier line notes b'
    on_row row e true er =
        let er' : eqb (send_fault_of row earlier (length line) notes (length b)).refusal 0 ≡ true = rw (same-fault row earlier (length line) notes (length b) (length b') (room row e)) er in
        let none = eqb-true (send_fault_of row earlier (length line) notes (length b')).refusal 0 er in
        let ok = (faultless row earlier (length line) notes (length b') (send-faultless row earlier (length line) notes (length b') none).0).0.framed in
        rw (er', er)
        (same_line row (shared-row level row e) earlier notes _ _ (same row e) (length line) (ok.frames ∙ ap (λ (F : ℕ). F * row.bytes) (sym ok.noted)))
    on_row row e false er =
        let er' : eqb (send_fault_of row earlier (length line) notes (length b)).refusal 0 ≡ false = rw (same-fault row earlier (length line) notes (length b) (length b') (room row e)) er in
        rw (er', er)

    go : (l : Option Row) → level_of level ≡ l
        → (on_level l (λ (row : Row). send_answer_on row earlier (length line) notes (length b)) (refused_with (fault 1 0))
        ≡ on_level l (λ (row : Row). send_answer_on row earlier (length line) notes (length b')) (refused_with (fault 1 0)))
        × (on_level l (λ (row : Row). line_on row earlier line notes b) line ≡ on_level l (λ (row : Row). line_on row earlier line notes b') line)
    go (Some row) e =
        (rw (same-fault row earlier (length line) notes (length b) (length b') (room row e)), on_row row e (eqb (send_fault_of row earlier (length line) notes (length b')).refusal 0) refl)
    go None e = (refl, refl)
