-- A tributary's columns. In every set the first columns are the head's and carry nothing, and each one after them carries a
-- digit: so a column carries exactly if it does not stand in its set's head.
use mathlib.Core.Path.{◌≡◌, refl, sym, ◌∙◌, ap}
use mathlib.Core.Logic.{◌≢◌}
use mathlib.Core.Bool.{cond, false}
use Prim.Native.Nat.{ℕ, ◌+◌, ◌*◌, ◌/◌, ◌%◌, ◌-◌, ◌≤◌, ◌<◌}
use native.Mathlib.Omega.{arith}
use native.Mathlib.Decide.{dec_lt, ℕ_discrete}
use native.Mathlib.Nat.{mul_left_comm}
use lib.Dec.{eqb, leb}
use borrow.Author.Tests.{le-leb, lt-leb, eq-eqb, ne_eqb}
use Rattle.table.specs.declared.Row.{Row}
use Rattle.levels.specs.declared.places.Sign.TheVariants.{Negative, Positive}
use Rattle.levels.specs.declared.places.Kind.TheVariants.{Justification}
use Rattle.levels.specs.declared.order.Action.{Action}
use Rattle.levels.specs.declared.order.Action.TheVariants.{Stuffed, PositiveCarries, BothCarry}
use Rattle.levels.specs.Table.{Shared}
use Rattle.levels.specs.Places.{kind_of, pos_of}
use Rattle.levels.specs.Order.{carried, carries}
use Rattle.levels.proofs.Choice.{cond-by}
use Rattle.levels.proofs.Positions.{pos-of-sum}
use Rattle.levels.proofs.Sentences.{set-start}
use Rattle.levels.proofs.Ways.{kind-word, kind-service, kind-first, kind-control, kind-negative, kind-positive, kind-after, kind-fixed, kind-between}

-- the columns of a set, and of a frame
abbrev pub wide : Row → ℕ
wide row = row.set / 4

abbrev pub columns : Row → ℕ
columns row = row.digits / 4

-- how many places the head of the last set takes, in a frame that acts so: a justification place that carries lies past the head
abbrev pub last_head : Row → Action → ℕ
last_head row Stuffed = row.last
last_head row PositiveCarries = row.last - 4
last_head row BothCarry = 4

-- how many places the head of set s takes, in a frame that acts so, and how many columns
unfoldable pub head_of : Row → ℕ → Action → ℕ
head_of row s act = cond (eqb s 0) row.first (cond (eqb s (row.sets - 1)) (last_head row act) row.middle)

abbrev pub head_columns : Row → ℕ → Action → ℕ
head_columns row s act = head_of row s act / 4

module _ (row : Row) (sh : Shared row) where
  -- the heads, set by set
  pub head_first : (act : Action) → head_of row 0 act ≡ row.first
  unfolding head_of
  head_first act = refl

  pub head-last : (s : ℕ) (act : Action) → s + 1 ≡ row.sets → head_of row s act ≡ last_head row act
  unfolding head_of
  head-last s act end = rw (ne_eqb s 0 (λ e. omega (arith, sh.later_set)), eq-eqb s (row.sets - 1) (omega arith))

  pub head-between : (s : ℕ) (act : Action) → 0 < s → s + 1 ≢ row.sets → head_of row s act ≡ row.middle
  unfolding head_of
  head-between s act later other = rw (ne_eqb s 0 (λ e. omega arith), ne_eqb s (row.sets - 1) (λ e. other (omega (arith, sh.later_set))))

  -- a head is whole columns
  pub last-head-fours : (act : Action) → last_head row act % 4 ≡ 0
  last-head-fours Stuffed = sh.last_fours
  last-head-fours PositiveCarries = omega (arith, sh.last_fours, sh.last_least)
  last-head-fours BothCarry = refl

  pub head-fours : (s : ℕ) (act : Action) → head_of row s act % 4 ≡ 0
  unfolding head_of
  head-fours s act =
      cond-by (λ (n : ℕ). n % 4 ≡ 0) (eqb s 0) sh.first_fours
      (cond-by (λ (n : ℕ). n % 4 ≡ 0) (eqb s (row.sets - 1)) (last-head-fours act) sh.middle_fours)

  -- no place of the first set's head carries a digit, and each place past it does
  first-carries : (r : ℕ) (act : Action) → carried (kind_of row 0 r) act ≡ leb row.first r
  first-carries r act =
      elim (dec_lt r row.first) [
        | yes h ↦ none h ∙ sym (lt-leb row.first r h)
        | no h ↦ rw (kind-first row sh r (omega arith)) (sym (le-leb row.first r (omega arith)))
      ]
    where
      none : r < row.first → carried (kind_of row 0 r) act ≡ false
      none h =
          elim (dec_lt r row.len) [
            | yes a ↦ rw (kind-word row sh r a)
            | no a ↦
                let e : r ≡ row.len + (r - row.len) = omega arith in
                rw (e, kind-service row sh (r - row.len) (omega arith))
          ]

  -- so of a set between
  between-carries : (s r : ℕ) (act : Action) → 0 < s → s + 1 ≢ row.sets → carried (kind_of row s r) act ≡ leb row.middle r
  between-carries s r act later other =
      elim (dec_lt r row.middle) [
        | yes h ↦ none h ∙ sym (lt-leb row.middle r h)
        | no h ↦ rw (kind-between row sh s later other r (omega arith)) (sym (le-leb row.middle r (omega arith)))
      ]
    where
      none : r < row.middle → carried (kind_of row s r) act ≡ false
      none h =
          elim (dec_lt r 4) [
            | yes a ↦ rw (kind-control row sh s later r a)
            | no a ↦ rw (kind-fixed row sh s later other r (omega arith) h)
          ]

  -- and of the last: what the frame does says how many of the justification places carry, and those that carry are the later ones
  last-carries : (s r : ℕ) (act : Action) → 0 < s → s + 1 ≡ row.sets → carried (kind_of row s r) act ≡ leb (last_head row act) r
  last-carries s r act later end =
      elim (dec_lt r 4) [
        | yes a ↦ rw (kind-control row sh s later r a) (sym (lt-leb (last_head row act) r (most act a)))
        | no a ↦
            elim (dec_lt r (row.last - 4)) [
              | yes b ↦ rw (kind-negative row sh s later end r (omega arith) b) (negative act (omega arith) b)
              | no b ↦
                  elim (dec_lt r row.last) [
                    | yes c ↦ rw (kind-positive row sh s later end r (omega arith) c) (positive act (omega arith) c)
                    | no c ↦ rw (kind-after row sh s later end r (omega arith)) (sym (le-leb (last_head row act) r (past act (omega arith))))
                  ]
            ]
      ]
    where
      most : (act : Action) → r < 4 → r < last_head row act
      most Stuffed h = omega (arith, sh.last_least)
      most PositiveCarries h = omega (arith, sh.last_least)
      most BothCarry h = h

      negative : (act : Action) → 4 ≤ r → r < row.last - 4 → carried (Justification Negative) act ≡ leb (last_head row act) r
      negative Stuffed lo hi = sym (lt-leb row.last r (omega arith))
      negative PositiveCarries lo hi = sym (lt-leb (row.last - 4) r hi)
      negative BothCarry lo hi = sym (le-leb 4 r lo)

      positive : (act : Action) → row.last - 4 ≤ r → r < row.last → carried (Justification Positive) act ≡ leb (last_head row act) r
      positive Stuffed lo hi = sym (lt-leb row.last r hi)
      positive PositiveCarries lo hi = sym (le-leb (row.last - 4) r lo)
      positive BothCarry lo hi = sym (le-leb 4 r (omega (arith, sh.last_least)))

      past : (act : Action) → row.last ≤ r → last_head row act ≤ r
      past Stuffed h = h
      past PositiveCarries h = omega arith
      past BothCarry h = omega (arith, sh.last_least)

  -- a place carries a digit exactly if it does not stand in its set's head
  pub place-carries : (s r : ℕ) (act : Action) → carried (kind_of row s r) act ≡ leb (head_of row s act) r
  place-carries s r act =
      elim (ℕ_discrete s 0) [
        | yes e ↦ rw (e, head_first act) (first-carries r act)
        | no n ↦
            elim (ℕ_discrete (s + 1) row.sets) [
              | yes end ↦ rw (head-last s act end) (last-carries s r act (omega arith) end)
              | no other ↦ rw (head-between s act (omega arith) other) (between-carries s r act (omega arith) other)
            ]
      ]

module _ (row : Row) (sh : Shared row) (j : ℕ) (jh : j < 4) where
  pub frame-start : (f : ℕ) → f * row.digits ≡ 4 * (f * columns row)
  frame-start f =
      let fours : row.digits ≡ 4 * columns row = omega (arith, sh.packed) in
      ap (λ (k : ℕ). f * k) fours ∙ mul_left_comm f 4 (columns row)

  -- where column c of set s of frame f stands
  pub column-pos : (f s c : ℕ) → s < row.sets → c < wide row
      → pos_of row (4 * (f * columns row + (s * wide row + c)) + j) ≡ record { frame = f; set = s; place = 4 * c + j }
  column-pos f s c hs hc =
      pos-of-sum row sh (4 * (f * columns row + (s * wide row + c)) + j) f s (4 * c + j) (omega (arith, frame-start f, set-start row sh s)) hs (omega (arith, sh.set_fours))

  pub column-carries : (s c : ℕ) (act : Action) → carried (kind_of row s (4 * c + j)) act ≡ leb (head_columns row s act) c
  column-carries s c act = place-carries row sh s (4 * c + j) act ∙ whole-columns (head_of row s act) (head-fours row sh s act)
    where
      whole-columns : (h : ℕ) → h % 4 ≡ 0 → leb h (4 * c + j) ≡ leb (h / 4) c
      whole-columns h e =
          elim (dec_lt c (h / 4)) [
            | yes a ↦ lt-leb h (4 * c + j) (omega arith) ∙ sym (lt-leb (h / 4) c a)
            | no a ↦ le-leb h (4 * c + j) (omega arith) ∙ sym (le-leb (h / 4) c (omega arith))
          ]

  -- the same of a column of a line
  pub line-carries : (acts : ℕ → Action) (f s c : ℕ) → s < row.sets → c < wide row
      → carries row acts (4 * (f * columns row + (s * wide row + c)) + j) ≡ leb (head_columns row s (acts f)) c
  unfolding carries
  line-carries acts f s c hs hc = rw (column-pos f s c hs hc) (column-carries s c (acts f))
