-- "A second run changes nothing", and counts nothing.
use mathlib.Core.Path.{◌≡◌, sym, ◌∙◌}
use mathlib.Core.Bool.{Bool, cond, ◌&&◌}
use mathlib.Core.List.{List}
use Prim.Native.Nat.{ℕ, ◌*◌, ◌%◌, ◌<◌}
use native.Mathlib.Omega.{arith}
use native.Mathlib.Nat.{lt_of_mul-lt-mul_right}
use lib.Dec.{eqb}
use lib.ListN.{length, get_or}
use borrow.Author.Tests.{eq-eqb}
use Rattle.digits.specs.Digits.{digits_of}
use Rattle.digits.proofs.Laws.{bytes-by-place}
use Rattle.digits.proofs.Sums.{sum-all}
use Rattle.table.specs.declared.Row.{Row}
use Rattle.levels.specs.Sizes.{frames_of}
use Rattle.levels.specs.Places.{kind_at, pos_of}
use Rattle.levels.specs.Order.{actions}
use Rattle.levels.proofs.Positions.{stands}
use Rattle.reading.specs.Notes.{vote_at, notes_of}
use Rattle.tally.specs.Tally.{number_at, sum_of}
use Rattle.repair.specs.Repair.{Repaired}
use Rattle.repair.specs.Repair.{repaired_digit, becomes, repaired_line, changes, changed, number_of, RepairMet}
use Rattle.repair.specs.Mending.{Whole}
use Rattle.repair.proofs.Frames.{frames-digits}
use Rattle.repair_promises.specs.Repairing.{Repairs, nothing, ChangesNothing}
use Rattle.repair_promises.proofs.Places.{repaired-twice, repaired-length, repaired-bytes, repaired-at, vote-repaired, acts-repaired}
use Rattle.repair_promises.proofs.Accepted.{repair-level, no_number, repair-whole, repair-line}

module _ (row : Row) (earlier : ℕ) (national : Bool) (line : List ℕ) (wh : Whole row line) where
  abbrev left : List ℕ
  left = repaired_line row earlier national line

  -- repaired by the votes that the result has, every place stays
  stays : (p : ℕ) → p < 8 * length left → get_or (digits_of left) p 0 ≡ becomes row earlier national left p
  unfolding repaired_digit
  stays p h =
      let F = frames_of row (length line) in
      let f = (pos_of row p).frame in
      let inside : p < 8 * length line = omega (arith, repaired-length row earlier national line) in
      let hf : f < F = lt_of_mul-lt-mul_right row.digits (omega (arith, frames-digits wh, (stands row wh.shared p).sum)) in
      let j = p % 4 in
      let vote = (vote_at row (digits_of line) f j).stuffed in
      let act = actions row earlier (notes_of row (digits_of line) F) j f in
      rw (
        repaired-length row earlier national line,
        acts-repaired row earlier national line wh j (omega arith) f hf,
        vote-repaired row earlier national line wh f hf j (omega arith),
        repaired-at row earlier national line p inside,
      )
      (sym (repaired-twice row national vote act (pos_of row p).place (get_or (digits_of line) p 0) (kind_at row p)))

  none : (k : ℕ) → sum_of row (changes row earlier national left) (8 * length left) k ≡ 0
  none k =
      sum-all (8 * length left) 0 (λ (p : ℕ). cond (changes row earlier national left p && eqb (number_at row p) k) 1 0)
      (λ p h. rw (eq-eqb (get_or (digits_of left) p 0) (becomes row earlier national left p) (stays p h)))
      ∙ omega arith

  none-counted : changed row earlier national left ≡ nothing
  unfolding changed
  none-counted = rw (none 0, none 3, none 6, none 9, none 12, none 2, none 4, none 7, none 10, none 13)

  same_line : repaired_line row earlier national left ≡ left
  unfolding repaired_line
  same_line = sym (bytes-by-place left (becomes row earlier national left) (repaired-bytes row earlier national line) stays)

-- a second run, by the same vote before frame 0, is accepted, changes nothing and counts nothing
pub second_run : (level earlier : ℕ) (national : Bool) (line : List ℕ) (answer : Repaired) (left : List ℕ) (again : Repaired) (last : List ℕ) → Repairs level earlier national line answer left
    → RepairMet level earlier national left again last → ChangesNothing left again last
second_run level earlier national line answer left again last ok met =
    let on = repair-level level earlier national line answer left ok in
    let row = on.0 in
    let wh = repair-whole level earlier national line answer left ok row on.1 in
    let once = repair-line level earlier national line answer left ok row on.1 in
    let accepted = eq-eqb (number_of row earlier (length line)) 0 (no_number level earlier national line answer left ok row on.1) in (
      met.0 ∙ rw (once, on.1, repaired-length row earlier national line, accepted) (none-counted row earlier national line wh),
      met.1 ∙ rw (once, on.1, repaired-length row earlier national line, accepted) (same_line row earlier national line wh),
    )
