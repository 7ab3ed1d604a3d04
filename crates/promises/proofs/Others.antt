-- Demand 3, last part: whatever is changed in one tributary's own places, of any line, the other three come out as before. What is read
-- of tributary k is read from places with the remainder k, so that even every place with the remainder j may be changed.
use mathlib.Core.Path.{◌≡◌, refl, sym, ◌∙◌, ap}
use mathlib.Core.Logic.{◌≢◌}
use mathlib.Core.List.{List}
use Prim.Native.Nat.{ℕ, ◌+◌, ◌*◌, ◌%◌, ◌<◌}
use native.Mathlib.Omega.{arith}
use lib.ListN.{get_or}
use Rattle.digits.specs.Digits.{Binary}
use Rattle.digits.proofs.Sums.{sum_same}
use Rattle.levels.proofs.Groups.{group-same}
use Rattle.table.specs.declared.Row.{Row}
use Rattle.levels.specs.declared.vote.Vote.{Vote}
use Rattle.levels.specs.Table.{Shared}
use Rattle.levels.specs.Order.{actions}
use Rattle.levels.specs.Vote.{vote_of}
use Rattle.levels.proofs.Columns.{columns}
use Rattle.reading.specs.Notes.{vote_at, notes_of}
use Rattle.extraction.specs.Quarters.{taken_to}
use Rattle.promises.specs.Carried.{decision_read, digits_read, SameRead}
use Rattle.promises.proofs.Sent.{control-place, in_line, whose}
use Rattle.promises.proofs.Reading.{decisions-read}
use Rattle.promises.proofs.Order.{column-place, places_same, count_same, actions-same, digits_same}

module _ (row : Row) (sh : Shared row) (earlier F j : ℕ) (ds es : List ℕ) (bin-ds : Binary ds) (bin-es : Binary es)
    (same : (p : ℕ) → p < F * row.digits → p % 4 ≢ j → get_or ds p 0 ≡ get_or es p 0) (k : ℕ) (kh : k < 4) (other : k ≢ j) where
  same_at : (p : ℕ) → p < F * row.digits → p % 4 ≡ k → get_or ds p 0 ≡ get_or es p 0
  same_at p h m = same p h (λ e. other (sym m ∙ e))

  same-vote : (f : ℕ) → f < F → vote_at row ds f k ≡ vote_at row es f k
  unfolding vote_at
  same-vote f hf =
      ap vote_of
      (group-same ds (f * row.digits + (row.set + k)) row.set es row.control
      (λ i hi.
      let p = f * row.digits + (row.set + k) + i * row.set in
      let e = control-place row sh f k i in
      let hs : i + 1 < row.sets = omega (arith, sh.group) in
      let hr : k < row.set = omega (arith, sh.room) in
      same_at p (in_line row sh f (i + 1) k p e hs hr F hf) (whose row sh f (i + 1) k p e hs hr ∙ omega arith)))

  same-decision : (f : ℕ) → f < F → decision_read row F ds k f ≡ decision_read row F es k f
  same-decision f hf =
      decisions-read row ds bin-ds F f k hf kh ∙ ap (λ (v : Vote). v.stuffed) (same-vote f hf) ∙ sym (decisions-read row es bin-es F f k hf kh)

  same-acts : (f : ℕ) → f < F → actions row earlier (notes_of row ds F) k f ≡ actions row earlier (notes_of row es F) k f
  same-acts = actions-same row earlier earlier (notes_of row ds F) (notes_of row es F) k F refl same-decision

  same_digits : digits_read row earlier F ds k ≡ digits_read row earlier F es k
  unfolding taken_to
  same_digits =
      rw (places_same row sh F k kh (actions row earlier (notes_of row ds F) k) (actions row earlier (notes_of row es F) k) same-acts (F * columns row) (omega arith))
      (digits_same row (actions row earlier (notes_of row es F) k) k ds es (F * columns row) (λ x h _. same_at (4 * x + k) (column-place row sh F k kh x h) (omega arith)))

  pub others-untouched : SameRead row earlier F k ds es
  others-untouched =
      record {
        voted = same-vote;
        decided = same-decision;
        counted = count_same row (actions row earlier (notes_of row ds F) k) (actions row earlier (notes_of row es F) k) F same-acts;
        digits = same_digits;
        dissenting = sum_same F (λ (f : ℕ). (vote_at row ds f k).dissent) (λ (f : ℕ). (vote_at row es f k).dissent) (λ f hf. ap (λ (v : Vote). v.dissent) (same-vote f hf));
      }
