-- How many digits of a tributary a line carries. Within a set: the columns less the head's; over a frame: n, one less if it is stuffed, one
-- more if its negative place carries; over F frames with s stuffed and e negative: F * n + e - s, stated with + as count + s = F * n + e.
use mathlib.Core.Path.{◌≡◌, sym, ◌∙◌, ap}
use mathlib.Core.Bool.{cond}
use Prim.Native.Nat.{ℕ, zero, suc, ◌+◌, ◌*◌, ◌/◌, ◌-◌, ◌≤◌, ◌<◌}
use native.Mathlib.Omega.{arith}
use native.Mathlib.Decide.{dec_le}
use native.Mathlib.Nat.{add-zero, suc-mul, zero-mul, mul_left_comm}
use lib.Dec.{eqb, leb}
use borrow.Author.Tests.{le-leb, lt-leb}
use Rattle.digits.specs.Sums.{sum_to}
use Rattle.table.specs.declared.Row.{Row}
use Rattle.levels.specs.declared.order.Action.{Action}
use Rattle.levels.specs.declared.order.Action.TheVariants.{Stuffed, PositiveCarries, BothCarry}
use Rattle.levels.specs.Table.{Shared}
use Rattle.levels.specs.Order.{is_stuffed, both_carry, carries, before, stuffed_to, negative_to, count_of}
use Rattle.levels.proofs.Choice.{cond-by}
use Rattle.levels.proofs.Sentences.{set-start}
use Rattle.levels.proofs.Columns.{wide, columns, head_of, last_head, head_columns, head_first, head-last, head-between, line-carries}

-- the columns of the heads of the first s sets
unfoldable pub heads_to : Row → Action → ℕ → ℕ
heads_to row act zero = 0
heads_to row act (suc s) = heads_to row act s + head_columns row s act

module _ (row : Row) (sh : Shared row) where
  -- a set is wider than its head
  last-head-fits : (act : Action) → last_head row act ≤ row.set
  last-head-fits Stuffed = omega (arith, sh.last_room)
  last-head-fits PositiveCarries = omega (arith, sh.last_room)
  last-head-fits BothCarry = omega (arith, sh.room)

  pub head-fits : (s : ℕ) (act : Action) → head_columns row s act ≤ wide row
  unfolding head_of
  head-fits s act = omega (arith, fits, sh.set_fours)
    where
      fits : head_of row s act ≤ row.set
      fits =
          cond-by (λ (n : ℕ). n ≤ row.set) (eqb s 0) (omega (arith, sh.room))
          (cond-by (λ (n : ℕ). n ≤ row.set) (eqb s (row.sets - 1)) (last-head-fits act) (omega (arith, sh.room, sh.middle_most)))

  -- the heads of the first set and of the later ones but the last
  pub heads-between : (act : Action) (s : ℕ) → s + 1 < row.sets → heads_to row act (suc s) ≡ row.first / 4 + s * (row.middle / 4)
  unfolding heads_to
  heads-between act zero h = rw (head_first row sh act, zero-mul (row.middle / 4)) (omega arith)
  heads-between act (suc s) h =
      let own : head_of row (suc s) act ≡ row.middle = head-between row sh (suc s) act (omega arith) (λ e. omega arith) in
      omega (arith, heads-between act s (omega arith), own, suc-mul s (row.middle / 4))

  -- the heads of a whole frame
  pub heads-whole : (act : Action) → heads_to row act row.sets ≡ row.first / 4 + (row.sets - 2) * (row.middle / 4) + last_head row act / 4
  unfolding heads_to
  heads-whole act =
      let s = row.sets - 2 in
      let e : row.sets ≡ suc (suc s) = omega (arith, sh.later_set) in
      let own : head_of row (suc s) act ≡ last_head row act = head-last row sh (suc s) act (omega (arith, sh.later_set)) in
      let all : heads_to row act row.sets ≡ heads_to row act (suc s) + head_columns row (suc s) act = ap (λ (k : ℕ). heads_to row act k) e in
      omega (arith, all, own, heads-between act s (omega (arith, sh.later_set)))

  -- what a frame's action takes from n or adds to it, against the last set's head
  acting : (act : Action) → last_head row act / 4 + 1 + cond (both_carry act) (row.room - row.n) 0 ≡ row.last / 4 + cond (is_stuffed act) 1 0
  acting Stuffed = omega arith
  acting PositiveCarries = omega (arith, sh.last_least)
  acting BothCarry = omega (arith, sh.most, sh.last_least)

  -- the most that F frames carry
  pub negative-most : (acts : ℕ → Action) (F : ℕ) → F * row.n + negative_to row acts F ≤ F * row.room
  unfolding sum_to
  negative-most acts zero = rw (zero-mul row.n, zero-mul row.room) (omega arith)
  negative-most acts (suc F) =
      let one : cond (both_carry (acts F)) (row.room - row.n) 0 ≤ row.room - row.n =
      cond-by (λ (n : ℕ). n ≤ row.room - row.n) (both_carry (acts F)) (omega arith) (omega arith) in
      omega (arith, negative-most acts F, one, sh.most, sh.last_least, suc-mul F row.n, suc-mul F row.room)

  module _ (j : ℕ) (jh : j < 4) (acts : ℕ → Action) where
    -- column c of set s of frame f
    abbrev pub count : ℕ → ℕ
    count x = before row acts j x

    -- one column more, past a head of h columns
    more : (h c : ℕ) → cond (leb h c) 1 0 + (c - h) ≡ suc c - h
    more h c =
        elim (dec_le h c) [
          | yes a ↦ rw (le-leb h c a) (omega arith)
          | no a ↦ rw (lt-leb h c (omega arith)) (omega arith)
        ]

    pub set-count : (f s c : ℕ) → s < row.sets → c ≤ wide row
        → count (f * columns row + (s * wide row + c)) ≡ count (f * columns row + s * wide row) + (c - head_columns row s (acts f))
    unfolding before
    set-count f s zero hs hc = rw (add-zero (s * wide row)) (omega arith)
    set-count f s (suc c) hs hc =
        let x = f * columns row + (s * wide row + c) in
        let e : f * columns row + (s * wide row + suc c) ≡ suc x = omega arith in
        let h = head_columns row s (acts f) in
        let one : cond {A = ℕ} (carries row acts (4 * x + j)) 1 0 ≡ cond (leb h c) 1 0 = rw (line-carries row sh j jh acts f s c hs hc) in
        rw e (omega (arith, set-count f s c hs (omega arith), one, more h c))

    pub sets-count : (f s : ℕ) → s ≤ row.sets
        → count (f * columns row + s * wide row) + heads_to row (acts f) s ≡ count (f * columns row) + s * wide row
    unfolding heads_to
    sets-count f zero hs = rw (zero-mul (wide row), add-zero (f * columns row)) (omega arith)
    sets-count f (suc s) hs =
        let e : suc s * wide row ≡ s * wide row + wide row = suc-mul s (wide row) in
        rw e (omega (arith, set-count f s (wide row) hs (omega arith), sets-count f s (omega arith), head-fits s (acts f)))

    -- a frame carries n digits, one less if it is stuffed, one more if its negative place carries
    pub frame-count : (f : ℕ) → count (suc f * columns row) + cond (is_stuffed (acts f)) 1 0 ≡ count (f * columns row) + row.n + cond (both_carry (acts f)) (row.room - row.n) 0
    frame-count f =
        let all : row.sets * wide row ≡ columns row = omega (arith, sh.whole, sh.packed, set-start row sh row.sets) in
        let e : suc f * columns row ≡ f * columns row + row.sets * wide row = omega (arith, suc-mul f (columns row)) in
        rw e (omega (arith, sets-count f row.sets (omega arith), heads-whole (acts f), acting (acts f), sh.counted))

    -- F frames carry F * n digits, less the stuffed, plus the negative
    pub line-count : (F : ℕ) → count (F * columns row) + stuffed_to acts F ≡ F * row.n + negative_to row acts F
    unfolding before sum_to
    line-count zero = rw (zero-mul (columns row), zero-mul row.n)
    line-count (suc F) = omega (arith, line-count F, frame-count F, suc-mul F row.n)

    -- the columns of a line of F frames carry F·n − s digits
    pub count-of : (F bytes : ℕ) → bytes ≡ F * row.bytes → count (2 * bytes) ≡ count_of row acts F
    unfolding count_of
    count-of F bytes e =
        let half : columns row ≡ 2 * row.bytes = omega (arith, sh.packed) in
        let all : 2 * bytes ≡ F * columns row = ap (λ (k : ℕ). 2 * k) e ∙ mul_left_comm 2 F row.bytes ∙ ap (λ (k : ℕ). F * k) (sym half) in
        rw all (omega (arith, line-count F))

    -- and there is room for them
    pub count_room : (F : ℕ) → count_of row acts F ≤ F * row.room
    unfolding count_of
    count_room F = omega (arith, negative-most acts F)
