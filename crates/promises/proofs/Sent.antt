-- The sent line, place by place: a law for each kind of place, and the control groups, which are all 1 or all 0.
use mathlib.Core.Path.{◌≡◌, refl, ◌∙◌}
use mathlib.Core.Bool.{cond, true}
use mathlib.Core.List.{List}
use Prim.Native.Nat.{ℕ, ◌+◌, ◌*◌, ◌/◌, ◌%◌, ◌^◌, ◌<◌}
use native.Mathlib.Omega.{arith}
use native.Mathlib.Nat.{zero-add, add-mul}
use lib.ListN.{get_or, replicate}
use lib.Arith.{digits_lt}
use Rattle.digits.proofs.Laws.{tab-at}
use Rattle.levels.proofs.Groups.{group-all}
use Rattle.table.specs.declared.Row.{Row}
use Rattle.levels.specs.declared.places.Kind.TheVariants.{Tributary}
use Rattle.levels.specs.Table.{Shared}
use Rattle.levels.specs.Places.{noted_of, kind_of, kind_at, pos_of}
use Rattle.levels.specs.Order.{decisions, actions, carries, before}
use Rattle.levels.specs.Word.{word_digit}
use Rattle.levels.proofs.Positions.{pos-of-sum, in_frame}
use Rattle.levels.proofs.Sentences.{set-start}
use Rattle.levels.proofs.Columns.{frame-start}
use Rattle.levels.proofs.Ways.{kind-word, kind-noted, kind-control}
use Rattle.levels.specs.Line.{digit_by, line_digit}
use Rattle.levels.proofs.Line.{digit-carried, noted-bit}
use Rattle.promises.specs.Damage.{line_digits, group_at}

module _ (row : Row) (sh : Shared row) where
  -- place r of set s of frame f is a place of a line of F frames; whose it is goes by r alone
  module _ (f s r p : ℕ) (e : p ≡ f * row.digits + (s * row.set + r)) (hs : s < row.sets) (hr : r < row.set) where
    pub in_line : (F : ℕ) → f < F → p < F * row.digits
    in_line F hf = rw e (digits_lt hf (in_frame row sh s r hs hr))

    pub whose : p % 4 ≡ r % 4
    whose = omega (arith, frame-start row sh 0 (omega arith) f, set-start row sh s)

  -- control digit i of tributary j in frame f stands in set i + 1
  pub control-place : (f j i : ℕ) → f * row.digits + (row.set + j) + i * row.set ≡ f * row.digits + ((i + 1) * row.set + j)
  control-place f j i = omega (arith, add-mul i 1 row.set)

  module _ (earlier : ℕ) (notes : List ℕ) (tributary : ℕ → List ℕ) (F : ℕ) where
    abbrev line : List ℕ
    line = line_digits row earlier notes tributary F

    -- the digit that a place of tributary j has to carry, if it carries one
    abbrev next : ℕ → ℕ → ℕ
    next j p = get_or (tributary j) (before row (actions row earlier notes j) j (p / 4)) 0

    pub sent-at : (p : ℕ) → p < F * row.digits
        → get_or line p 0 ≡ digit_by row (get_or notes (pos_of row p).frame 0) (actions row earlier notes (p % 4) (pos_of row p).frame) (p % 4) (pos_of row p).place (next (p % 4) p) (kind_at row p)
    unfolding line_digit
    sent-at p h = tab-at (F * row.digits) 0 (line_digit row earlier notes tributary) p h ∙ rw (zero-add p)

    -- the digit at place r of set s of frame f
    pub sent : (f s r j p : ℕ) → f < F → s < row.sets → r < row.set → r % 4 ≡ j → p ≡ f * row.digits + (s * row.set + r)
        → get_or line p 0 ≡ digit_by row (get_or notes f 0) (actions row earlier notes j f) j r (next j p) (kind_of row s r)
    sent f s r j p hf hs hr m e =
        let w : p % 4 ≡ j = whose f s r p e hs hr ∙ m in
        sent-at p (in_line f s r p e hs hr F hf) ∙ rw (pos-of-sum row sh p f s r e hs hr, w)

    pub sent_word : (f r p : ℕ) → f < F → r < row.len → p ≡ f * row.digits + r → get_or line p 0 ≡ word_digit row r
    sent_word f r p hf hr e =
        sent f 0 r (r % 4) p hf (omega (arith, sh.later_set)) (omega (arith, sh.room, sh.alarm_next, sh.national_next, sh.first_next)) refl (omega arith)
        ∙ rw (kind-word row sh r hr)

    -- the remote alarm digit and the national digits, by the note of their own frame
    pub sent-service : (f k p : ℕ) → f < F → k < noted_of row → p ≡ f * row.digits + (row.alarm + k) → get_or line p 0 ≡ get_or notes f 0 / 2 ^ (4 + k) % 2
    sent-service f k p hf hk e =
        let r = row.len + k in
        let in-set : r < row.set = omega (arith, sh.room, sh.alarm_next, sh.national_next, sh.first_next) in
        sent f 0 r (r % 4) p hf (omega (arith, sh.later_set)) in-set refl (omega (arith, sh.alarm_next))
        ∙ rw (kind-noted row sh k hk) (noted-bit (get_or notes f 0) k (omega (arith, sh.few_alarm, sh.few_national)))

    pub sent-control : (f s j p : ℕ) → f < F → 0 < s → s < row.sets → j < 4 → p ≡ f * row.digits + (s * row.set + j)
        → get_or line p 0 ≡ cond (decisions notes j f) 1 0
    sent-control f s j p hf later hs hj e =
        sent f s j j p hf hs (omega (arith, sh.room)) (omega arith) e ∙ rw (kind-control row sh s later j hj)

    pub sent-group : (f j : ℕ) → f < F → j < 4 → group_at row line f j ≡ replicate row.control (cond (decisions notes j f) 1 0)
    sent-group f j hf hj =
        group-all line (f * row.digits + (row.set + j)) row.set (cond (decisions notes j f) 1 0) row.control
        (λ i hi. sent-control f (i + 1) j (f * row.digits + (row.set + j) + i * row.set) hf (omega arith) (omega (arith, sh.group)) hj (control-place f j i))

    pub sent-tributary : (p : ℕ) → p < F * row.digits → kind_at row p ≡ Tributary → get_or line p 0 ≡ next (p % 4) p
    sent-tributary p h k = sent-at p h ∙ rw k

    -- a place that carries a digit has the tributary's next one
    pub sent-carried : (j x : ℕ) → j < 4 → 4 * x + j < F * row.digits → carries row (actions row earlier notes j) (4 * x + j) ≡ true
        → get_or line (4 * x + j) 0 ≡ get_or (tributary j) (before row (actions row earlier notes j) j x) 0
    unfolding carries
    sent-carried j x hj h c =
        let w : (4 * x + j) % 4 ≡ j = omega arith in
        let q : (4 * x + j) / 4 ≡ x = omega arith in
        let at = pos_of row (4 * x + j) in
        let next = get_or (tributary j) (before row (actions row earlier notes j) j x) 0 in
        sent-at (4 * x + j) h
        ∙ rw (w, q) (digit-carried row (get_or notes at.frame 0) (actions row earlier notes j at.frame) j at.place next (kind_at row (4 * x + j)) c)
