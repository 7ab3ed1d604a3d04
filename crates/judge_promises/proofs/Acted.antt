-- A line that was made by a multiplexer that says notes and acts on votes, and then damaged: the votes that are read of it are those that it said, and read by what it acted
-- on it gives each tributary's digits back, in order.
use mathlib.Core.Path.{◌≡◌, refl, ◌∙◌, ap}
use mathlib.Core.Bool.{cond, true, false, false≢true}
use mathlib.Core.List.{List}
use Prim.Native.Nat.{ℕ, ◌+◌, ◌*◌, ◌%◌, ◌<◌}
use native.Mathlib.Omega.{arith}
use native.Mathlib.Nat.{zero-add}
use lib.ListN.{length, get_or, take, drop, replicate}
use Rattle.digits.proofs.Laws.{tab-at}
use Rattle.table.specs.declared.Row.{Row}
use Rattle.levels.specs.Table.{Shared}
use Rattle.levels.specs.declared.vote.Vote.{Vote}
use Rattle.levels.specs.declared.order.Action.{Action}
use Rattle.levels.specs.declared.places.Kind.{Kind}
use Rattle.levels.specs.declared.places.Kind.TheVariants.{Word, Service, Control, Justification, Tributary}
use Rattle.levels.specs.Places.{kind_at, pos_of}
use Rattle.levels.specs.Order.{decisions, actions, carried, carries, before, count_of}
use Rattle.levels.proofs.Positions.{pos-of-sum}
use Rattle.levels.proofs.Ways.{kind-control}
use Rattle.levels.proofs.Groups.{group-same}
use Rattle.levels.proofs.Columns.{columns}
use Rattle.levels.proofs.Counts.{line-count, count_room}
use Rattle.levels.specs.Line.{line_digit}
use Rattle.reading.specs.Notes.{notes_of}
use Rattle.extraction.specs.Quarters.{taken_to}
use Rattle.promises.specs.Damage.{kept, liberty_at, group_at, Damage, line_digits}
use Rattle.promises.specs.Carried.{Room}
use Rattle.promises.proofs.Order.{column-place, places_same, digits-back}
use Rattle.promises.proofs.Reading.{decisions-read}
use Rattle.promises.proofs.Sent.{in_line, control-place, sent-group, sent-carried}
use Rattle.promises.proofs.Recovered.{carried-kept, group-vote}
use Rattle.workbench.specs.Bench.{is_control}
use Rattle.judge_promises.specs.Verdicts.{acted_digit, acted_line}

-- a place that carries a digit is no control place
pub carried_other : (k : Kind) (act : Action) → carried k act ≡ true → is_control k ≡ false
carried_other Word act c = refl
carried_other (Service s) act c = refl
carried_other Control act c = absurd (false≢true c)
carried_other (Justification sign) act c = refl
carried_other Tributary act c = refl

module _ (row : Row) (sh : Shared row) (earlier : ℕ) (notes votes : List ℕ) (tributary : ℕ → List ℕ) where
  abbrev F : ℕ
  F = length notes

  abbrev first : ℕ
  first = get_or votes 0 0

  abbrev rest : List ℕ
  rest = drop 1 votes

  abbrev line : List ℕ
  line = acted_line row earlier notes votes tributary

  -- the two lines that it is put together of
  abbrev said : List ℕ
  said = line_digits row earlier notes tributary F

  abbrev acted : List ℕ
  acted = line_digits row first rest tributary F

  pub at : (p : ℕ) → p < F * row.digits → get_or line p 0 ≡ cond (is_control (kind_at row p)) (get_or said p 0) (get_or acted p 0)
  unfolding acted_digit
  at p h =
      tab-at (F * row.digits) 0 (acted_digit row earlier notes votes tributary) p h
      ∙ rw (tab-at (F * row.digits) 0 (line_digit row earlier notes tributary) p h, tab-at (F * row.digits) 0 (line_digit row first rest tributary) p h, zero-add p)

  -- its control groups are those of the notes
  pub line-group : (f j : ℕ) → f < F → j < 4 → group_at row line f j ≡ replicate row.control (cond (decisions notes j f) 1 0)
  line-group f j hf hj = group-same line (f * row.digits + (row.set + j)) row.set said row.control one ∙ sent-group row sh earlier notes tributary F f j hf hj
    where
      one : (i : ℕ) → i < row.control → get_or line (f * row.digits + (row.set + j) + i * row.set) 0 ≡ get_or said (f * row.digits + (row.set + j) + i * row.set) 0
      one i hi =
          let p = f * row.digits + (row.set + j) + i * row.set in
          let place : p ≡ f * row.digits + ((i + 1) * row.set + j) = control-place row sh f j i in
          let hs : i + 1 < row.sets = omega (arith, sh.group) in
          let hr : j < row.set = omega (arith, sh.room) in
          at p (in_line row sh f (i + 1) j p place hs hr F hf) ∙ rw (pos-of-sum row sh p f (i + 1) j place hs hr, kind-control row sh (i + 1) (omega arith) j hj)

  module _ (ds : List ℕ) (damage : Damage row first rest F line ds) where
    -- the decisions that are read are those that were said
    pub decision-said : (f j : ℕ) → f < F → j < 4 → decisions (notes_of row ds F) j f ≡ decisions notes j f
    decision-said f j hf hj =
        decisions-read row ds damage.digits F f j hf hj
        ∙ ap (λ (v : Vote). v.stuffed)
        (group-vote row sh line ds damage.digits f j (decisions notes j f) (line-group f j hf hj) (damage.few_controls f j hf hj))

    -- a digit that a place of tributary j carries has come as it was sent
    digit-came : (j : ℕ) → j < 4 → (x : ℕ) → x < F * columns row → carries row (actions row first rest j) (4 * x + j) ≡ true
        → get_or ds (4 * x + j) 0 ≡ get_or (tributary j) (before row (actions row first rest j) j x) 0
    unfolding carries
    digit-came j hj x h c =
        let p = 4 * x + j in
        let inside = column-place row sh F j hj x h in
        let w : p % 4 ≡ j = omega arith in
        let act = actions row first rest j (pos_of row p).frame in
        let free : liberty_at row first rest p ≡ kept = rw w (carried-kept (kind_at row p) act c) in
        damage.others_kept p inside free ∙ at p inside ∙ rw (carried_other (kind_at row p) act c) (sent-carried row sh first rest tributary F j x hj inside c)

    -- read by votes for which its frames do the same for tributary j, the digits come back in order
    pub read_back : Room row F tributary → (j : ℕ) → j < 4 → (x : ℕ) (a : List ℕ) → ((f : ℕ) → f < F → actions row x a j f ≡ actions row first rest j f)
        → taken_to row x a ds j (F * columns row) ≡ take (count_of row (actions row first rest j) F) (tributary j)
    unfolding taken_to count_of
    read_back room j hj x a same =
        let d = actions row first rest j in
        let X = F * columns row in
        let all : before row d j X ≡ count_of row d F = omega (arith, line-count row sh j hj d F) in
        rw (places_same row sh F j hj (actions row x a j) d same X (omega arith))
        (digits-back row d j ds (tributary j) X (digit-came j hj) (omega (arith, all, count_room row sh j hj d F, room j hj)) ∙ ap (λ (n : ℕ). take n (tributary j)) all)
