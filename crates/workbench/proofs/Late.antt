-- The late multiplexer's line as bytes: the places that are mixed make the mixed line; a refused call leaves the line as it was, and an
-- accepted one has a line short enough to walk.
use Rattle.std.specs.Prelude.{Option, Some, None}
use mathlib.Core.Path.{◌≡◌, refl, sym, ◌∙◌}
use mathlib.Core.Bool.{cond}
use mathlib.Core.List.{List}
use Prim.Native.Nat.{ℕ, ◌*◌, ◌≤◌, ◌<◌}
use native.Mathlib.Omega.{arith}
use native.Mathlib.Nat.{mul-le-mul}
use native.Mathlib.Decide.{ℕ_discrete}
use lib.Dec.{eqb, lit<}
use lib.ListN.{length, get_or, get_or-eq_default}
use borrow.Author.Tests.{eq-eqb, ne_eqb}
use Rattle.digits.specs.Digits.{digits_of, Bytes}
use Rattle.digits.proofs.Laws.{bytes-by-place}
use Rattle.table.specs.declared.Row.{Row}
use Rattle.table.specs.Table.{level_of}
use Rattle.levels.specs.Table.{Shared}
use Rattle.levels.specs.Sizes.{on_level}
use Rattle.levels.proofs.Refusals.{faultless, send-faultless}
use Rattle.levels.proofs.Rows.{shared-row}
use Rattle.levels.specs.Faults.{Counted}
use Rattle.levels.specs.Faults.{fault, send_fault_of, refused_with, send_answer_on, send_answered}
use Rattle.multiplex.specs.Multiplex.{line_on, line_after}
use Rattle.workbench.specs.Bench.{mixed, mixed_line, late_line}

module _ (row : Row) (said old new : List ℕ) (same : length new ≡ length old) where
  -- every place is mixed, so the bytes are those of the mixed line
  pub mixed-bytes : Bytes new → ((p : ℕ) → p < 8 * length new → get_or (digits_of new) p 0 ≡ mixed row (digits_of said) (digits_of old) p) → new ≡ mixed_line row said old
  mixed-bytes b h = bytes-by-place new (mixed row (digits_of said) (digits_of old)) b h ∙ rw same refl

-- no bytes are bytes
pub none-bytes : (bs : List ℕ) → length bs ≡ 0 → Bytes bs
none-bytes bs e i = rw (none i) (lit< tt)
  where
    none : (i : ℕ) → get_or bs i 0 ≡ 0
    none i = get_or-eq_default bs 0 (omega arith)

-- an accepted line is at most 64 frames
accepted-short : (row : Row) → Shared row → (earlier line : ℕ) (notes : List ℕ) (buffer : ℕ) → (send_fault_of row earlier line notes buffer).refusal ≡ 0 → line ≤ 65536
accepted-short row sh earlier line notes buffer e =
    let ok = (faultless row earlier line notes buffer (send-faultless row earlier line notes buffer e).0).0.framed in
    omega (arith, ok.frames, mul-le-mul {n₁ = _} {m₁ = row.bytes} {n₂ = 64} {m₂ = 366} ok.few (omega (arith, sh.packed, sh.short)))

-- the answer's number is the refusal
answer-number : (row : Row) (earlier line : ℕ) (notes : List ℕ) (buffer : ℕ) → (send_answer_on row earlier line notes buffer).refusal ≡ (send_fault_of row earlier line notes buffer).refusal
answer-number row earlier line notes buffer =
    elim (ℕ_discrete (send_fault_of row earlier line notes buffer).refusal 0) [
      | yes z ↦ rw (eq-eqb (send_fault_of row earlier line notes buffer).refusal 0 z) (sym z)
      | no n ↦ rw (ne_eqb (send_fault_of row earlier line notes buffer).refusal 0 n) refl
    ]

-- the cases of a call, a level's row or no such level: its answer's number is 0 or it is not
module _ (earlier : ℕ) (line said notes late buffer : List ℕ) where
  abbrev number : Option Row → ℕ
  number l = (on_level l (λ (row : Row). send_answer_on row earlier (length line) late (length buffer)) (refused_with (fault 1 0))).refusal

  abbrev after : Option Row → List ℕ → List ℕ → List ℕ
  after l xs ns = on_level l (λ (row : Row). line_on row earlier xs ns buffer) xs

  abbrev Ends : Option Row → List ℕ → Type 0
  Ends l end =
      end
      ≡ on_level l
      (λ (row : Row).
      cond (eqb (send_fault_of row earlier (length line) late (length buffer)).refusal 0)
      (mixed_line row (line_on row earlier said notes buffer) (line_on row earlier line late buffer)) line)
      line

  refused-ends : (l : Option Row) → (number l ≡ 0 → ⊥) → Ends l (after l line late)
  refused-ends (Some row) n =
      rw (ne_eqb (send_fault_of row earlier (length line) late (length buffer)).refusal 0 (λ z. n (answer-number row earlier (length line) late (length buffer) ∙ z))) refl
  refused-ends None n = refl

  sent-ends : (l : Option Row) → number l ≡ 0 → Ends l (on_level l (λ (row : Row). mixed_line row (after l said notes) (after l line late)) (after l line late))
  sent-ends (Some row) e =
      rw (eq-eqb (send_fault_of row earlier (length line) late (length buffer)).refusal 0 (sym (answer-number row earlier (length line) late (length buffer)) ∙ e)) refl
  sent-ends None e = refl

  sent-short : (l : Option Row) → ((row : Row) → l ≡ Some row → Shared row) → number l ≡ 0 → length line ≤ 65536
  sent-short (Some row) known e =
      accepted-short row (known row refl) earlier (length line) late (length buffer) (sym (answer-number row earlier (length line) late (length buffer)) ∙ e)
  sent-short None known e = omega arith

  -- the same of a level's number, and of what the call answered and left
  module _ (level : ℕ) (r : Counted) (is : r ≡ send_answered level earlier (length line) late (length buffer)) where
    pub late-refused : (r.refusal ≡ 0 → ⊥) → line_after level earlier line late buffer ≡ late_line level earlier line said notes late buffer
    late-refused n = refused-ends (level_of level) (λ z. n (rw is z))

    pub late-short : r.refusal ≡ 0 → length line ≤ 65536
    late-short e = sent-short (level_of level) (shared-row level) (rw is at e)

    pub late-sent : r.refusal ≡ 0
        → on_level (level_of level) (λ (row : Row). mixed_line row (line_after level earlier said notes buffer) (line_after level earlier line late buffer)) (line_after level earlier line late buffer)
        ≡ late_line level earlier line said notes late buffer
    late-sent e = sent-ends (level_of level) (rw is at e)
