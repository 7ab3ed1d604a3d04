-- One column of a line after the other: the two ways of a place of a head, its column place after place, and what is out after one column more. What a
-- column may rely on, and a head as a number.
use mathlib.Core.Path.{◌≡◌, refl, sym, ◌∙◌, ap}
use mathlib.Core.Bool.{cond, true, false}
use mathlib.Core.List.{List, [], ◌∷◌, ◌++◌, append_assoc, append-nil}
use Prim.Native.Nat.{ℕ, suc, ◌+◌, ◌*◌, ◌-◌, ◌/◌, ◌%◌, ◌^◌, ◌≤◌, ◌<◌}
use native.Mathlib.Omega.{arith}
use native.Mathlib.Decide.{dec_lt, ℕ_discrete}
use native.Mathlib.Numerals.{add-one}
use native.Mathlib.Nat.{add-zero, zero-add, add-mul, mul_left_comm, mul-le-mul_right, mod-eq_of_lt}
use lib.Dec.{eqb, ltb}
use lib.ListN.{length, get_or, set, length-set}
use lib.Seq.{get_or-set_same, get_or-set_other}
use lib.Pow.{pow-add}
use borrow.Author.Tests.{lt-ltb, le-ltb, eq-eqb, ne_eqb}
use Rattle.digits.specs.Digits.{tab, written}
use Rattle.digits.proofs.Lists.{tab-more, tab-cat, tab-four}
use Rattle.digits.proofs.Windows.{window_more}
use Rattle.digits.proofs.Written.{written_one, written-cat}
use Rattle.table.specs.declared.Row.{Row}
use Rattle.levels.specs.declared.order.Action.{Action}
use Rattle.levels.specs.declared.places.Kind.{Kind}
use Rattle.levels.specs.Table.{Shared}
use Rattle.levels.specs.Places.{middle_set, last_set, kind_of, pos_of}
use Rattle.levels.specs.Order.{acts_by, actions, carried, carries, before}
use Rattle.levels.specs.Sizes.{Fits}
use Rattle.levels.proofs.Choice.{cond_same}
use Rattle.levels.proofs.Positions.{in_frame, pos-of-sum}
use Rattle.levels.proofs.Sentences.{set-start}
use Rattle.levels.proofs.Columns.{frame-start}
use Rattle.levels.proofs.Walk.{Walking, column as walked}
use Rattle.levels.proofs.Ways.{kind-word, kind-service}
use Rattle.levels.specs.Line.{digit_by, line_digit}
use Rattle.heads.specs.Columns.{tributary_of, Placed, PlacedTo, Rely}
use Rattle.heads.specs.Sending.{Sent}
use Rattle.levels.proofs.Line.{digit-carried}

module _ (row : Row) (note : ℕ) (act : Action) (kind : Kind) (j r : ℕ) (buffer next : List ℕ) (jh : j < 4) (four : length next ≡ 4) where
  -- it carries a digit
  pub placed-carried : (d i : ℕ) → carried kind act ≡ true → i ≡ get_or next j 0 → d ≡ get_or (tributary_of buffer j) i 0 → d < 2
      → Placed row note act kind j r buffer next d (set next j (i + 1))
  placed-carried d i c at e bin =
      record {
        digit = e ∙ rw at (sym (digit-carried row note act j r (get_or (tributary_of buffer j) (get_or next j 0) 0) kind c));
        binary = bin;
        index = λ k h. rw c (moved k);
        kept = length-set next j (i + 1);
      }
    where
      moved : (k : ℕ) → get_or (set next j (i + 1)) k 0 ≡ get_or next k 0 + cond (eqb k j) 1 0
      moved k =
          elim (ℕ_discrete k j) [
            | yes e ↦ rw (e, eq-eqb j j refl) (get_or-set_same next j (i + 1) 0 (omega (arith, four)) ∙ ap (λ (n : ℕ). n + 1) at)
            | no n ↦ rw (ne_eqb k j n) (get_or-set_other next j k (i + 1) 0 n ∙ sym (add-zero (get_or next k 0)))
          ]

-- it carries none
module _ (row : Row) (note : ℕ) (act : Action) (kind : Kind) (j r : ℕ) (buffer next : List ℕ) where
  still : carried kind act ≡ false → (k : ℕ) → k < 4 → get_or next k 0 ≡ get_or next k 0 + cond (eqb k j) (cond (carried kind act) 1 0) 0
  still c k h = rw (c, cond_same {A = ℕ} (eqb k j) 0) (sym (add-zero (get_or next k 0)))

  pub placed-idle : (d : ℕ) → carried kind act ≡ false
      → ((does : Action) (next : ℕ) → carried kind does ≡ false → d ≡ digit_by row note does j r next kind) → d < 2
      → Placed row note act kind j r buffer next d next
  placed-idle d c e bin = record { digit = e act (get_or (tributary_of buffer j) (get_or next j 0) 0) c; binary = bin; index = still c; kept = refl }

-- ---- a column of a head, place after place

other_test : (j k : ℕ) → (j ≡ k → ⊥) → ltb j k ≡ ltb j (k + 1)
other_test j k n =
    elim (dec_lt j k) [
      | yes l ↦ rw (lt-ltb j k l, lt-ltb j (k + 1) (omega arith))
      | no l ↦ rw (le-ltb j k (omega arith), le-ltb j (k + 1) (omega (arith, n)))
    ]

module _ (row : Row) (note : ℕ) (acts : ℕ → Action) (s r : ℕ) (buffer next : List ℕ) where
  abbrev kind : ℕ → Kind
  kind j = kind_of row s (r + j)

  abbrev gain : ℕ → ℕ
  gain j = cond (carried (kind j) (acts j)) 1 0

  abbrev column : ℕ → ℕ
  column j = digit_by row note (acts j) j (r + j) (get_or (tributary_of buffer j) (get_or next j 0) 0) (kind j)

  pub placed-none : PlacedTo row note acts s r buffer next 0 0 next
  unfolding written tab
  placed-none =
      record { few = omega arith; digits = refl; index = λ j h. rw (le-ltb j 0 (omega arith)) (sym (add-zero (get_or next j 0))); kept = refl }

  module _ (k word : ℕ) (mid : List ℕ) (so_far : PlacedTo row note acts s r buffer next k word mid) (kh : k < 4) where
    -- the tributary of the next place has had none
    pub placed-now : get_or mid k 0 ≡ get_or next k 0
    placed-now = so_far.index k kh ∙ rw (le-ltb k k (omega arith)) (add-zero (get_or next k 0))

    pub placed-more : (d : ℕ) (next' : List ℕ) → Placed row note (acts k) (kind k) k (r + k) buffer mid d next'
        → PlacedTo row note acts s r buffer next (k + 1) (word * 2 + d) next'
    placed-more d next' one =
        let digit : d ≡ column k = one.digit ∙ rw placed-now in
        let single : written 1 d ≡ d ∷ [] = written_one d ∙ ap (λ (x : ℕ). x ∷ []) (mod-eq_of_lt one.binary) in
        record {
          few = window_more k word d so_far.few one.binary;
          digits = written-cat k 1 word d one.binary ∙ rw (single, so_far.digits, digit, add-one k) (sym (tab-more k 0 column ∙ rw (zero-add k)));
          index = λ j h. one.index j h ∙ moved j h;
          kept = one.kept ∙ so_far.kept;
        }
      where
        moved : (j : ℕ) → j < 4 → get_or mid j 0 + cond (eqb j k) (gain k) 0 ≡ get_or next j 0 + cond (ltb j (k + 1)) (gain j) 0
        moved j h =
            elim (ℕ_discrete j k) [
              | yes e ↦ rw (e, eq-eqb k k refl, lt-ltb k (k + 1) (omega arith), placed-now)
              | no n ↦ rw (ne_eqb j k n, so_far.index j h, add-zero (get_or next j 0 + cond (ltb j k) (gain j) 0), other_test j k n)
            ]

-- in a later set the four places of a column are of one kind, since every head's parts begin at a multiple of four
module _ (row : Row) (sh : Shared row) (s r j : ℕ) (later : 0 < s) (fours : r % 4 ≡ 0) (jh : j < 4) where
  one-test : (m : ℕ) → m % 4 ≡ 0 → ltb (r + j) m ≡ ltb r m
  one-test m e =
      elim (dec_lt r m) [
        | yes l ↦ rw (lt-ltb r m l, lt-ltb (r + j) m (omega arith))
        | no l ↦ rw (le-ltb r m (omega arith), le-ltb (r + j) m (omega arith))
      ]

  pub one-kind : kind_of row s (r + j) ≡ kind_of row s r
  unfolding kind_of middle_set last_set
  one-kind =
      rw (
        ne_eqb s 0 (λ e. omega arith),
        one-test 4 refl,
        one-test row.middle sh.middle_fours,
        one-test (row.last - 4) (omega (arith, sh.last_fours)),
        one-test row.last sh.last_fours,
      )

-- no place of the first set's head carries a digit
pub first-idle : (row : Row) → Shared row → (r : ℕ) → r < row.first → (act : Action) → carried (kind_of row 0 r) act ≡ false
first-idle row sh r h act =
    elim (dec_lt r row.len) [
      | yes l ↦ rw (kind-word row sh r l)
      | no l ↦ let e : row.len + (r - row.len) ≡ r = omega arith in rw (← e) (service (r - row.len) (omega arith))
    ]
  where
    service : (k : ℕ) → row.len + k < row.first → carried (kind_of row 0 (row.len + k)) act ≡ false
    service k l = rw (kind-service row sh k l)

-- ---- a column of the line

module _ (row : Row) (sh : Shared row) (f s r p : ℕ) (at : p ≡ f * row.digits + (s * row.set + r)) (hs : s < row.sets) (fours : r % 4 ≡ 0) (hr : r < row.set) where
  here : (j : ℕ) → j < 4 → pos_of row (p + j) ≡ record { frame = f; set = s; place = r + j }
  here j h = pos-of-sum row sh (p + j) f s (r + j) (omega arith) hs (omega (arith, sh.set_fours))

  start : p % 4 ≡ 0
  start = omega (arith, frame-start row sh 0 (omega arith) f, set-start row sh s)

  -- its places lie in the line
  pub column-in-line : (line notes quarter : ℕ) → Fits row line notes quarter → f < notes → (j : ℕ) → j < 4 → p + j < 8 * line
  column-in-line line notes quarter fits hf j h =
      let all : 8 * line ≡ notes * row.digits =
      ap (λ (k : ℕ). 8 * k) fits.whole ∙ mul_left_comm 8 notes row.bytes ∙ ap (λ (k : ℕ). notes * k) (sym sh.packed) in
      let later : (f + 1) * row.digits ≤ notes * row.digits = mul-le-mul_right {m = f + 1} {n = notes} row.digits (omega arith) in
      omega (arith, at, all, later, add-mul f 1 row.digits, in_frame row sh s (r + j) hs (omega (arith, sh.set_fours)))

  module _ (earlier : ℕ) (notes : List ℕ) (preceding note : ℕ) (last : preceding ≡ get_or (earlier ∷ notes) f 0) (own : note ≡ get_or notes f 0) where
    -- what its frame does for each tributary
    abbrev acts : ℕ → Action
    acts = acts_by row preceding note

    -- where a place carries a digit, its tributary's index moves on
    carries-here : (j : ℕ) → j < 4 → carries row (actions row earlier notes j) (p + j) ≡ carried (kind_of row s (r + j)) (acts j)
    unfolding carries
    carries-here j h = rw (here j h, last, own)

    next-column : (j : ℕ) → j < 4
        → before row (actions row earlier notes j) j ((p + 4 + 3 - j) / 4)
        ≡ before row (actions row earlier notes j) j ((p + 3 - j) / 4) + cond (carried (kind_of row s (r + j)) (acts j)) 1 0
    unfolding before
    next-column j h =
        let x = p / 4 in
        let later : (p + 4 + 3 - j) / 4 ≡ suc x = omega (arith, start) in
        let now : (p + 3 - j) / 4 ≡ x = omega (arith, start) in
        let back : 4 * x + j ≡ p + j = omega (arith, start) in
        rw (later, now, back, carries-here j h)

    module _ (buffer next next' out : List ℕ) (word : ℕ) (was : Sent row earlier notes buffer p next out) (four : PlacedTo row note acts s r buffer next 4 word next') where
      abbrev line : ℕ → ℕ
      line = line_digit row earlier notes (tributary_of buffer)

      place_is : (j : ℕ) → j < 4 → column row note acts s r buffer next j ≡ line (p + j)
      unfolding line_digit
      place_is j h =
          let mine : (p + j) % 4 ≡ j = omega (arith, start) in
          let now : (p + j) / 4 ≡ (p + 3 - j) / 4 = omega (arith, start) in
          rw (here j h, mine, now, was.index j h, last, own)

      -- four places more
      pub sent-column : Sent row earlier notes buffer (p + 4) next' (out ++ written 4 word)
      sent-column =
          record {
            four = four.kept ∙ was.four;
            index = λ k h. four.index k h ∙ rw (lt-ltb k 4 h, was.index k h) (sym (next-column k h));
            digits = rw (was.digits, four.digits, tab-cat p 4 0 line, zero-add p)
                (ap (λ (ds : List ℕ). tab p 0 line ++ ds)
                (tab-four 0 (column row note acts s r buffer next)
                ∙ rw (place_is 0 (omega arith), place_is 1 (omega arith), place_is 2 (omega arith), place_is 3 (omega arith)) (sym (tab-four p line))));
          }

    -- what the column may rely on in a line that fits
    module _ (size quarter : ℕ) (fits : Fits row size (length notes) quarter) (hf : f < length notes) (buffer next out : List ℕ)
        (was : Sent row earlier notes buffer p next out) where
      pub column-rely : Rely row acts s r quarter next
      column-rely j h =
          let x = p / 4 in
          let back : 4 * x + j ≡ p + j = omega (arith, start) in
          let now : (p + 3 - j) / 4 ≡ x = omega (arith, start) in
          let walk : Walking row fits.shared j h (actions row earlier notes j) x (get_or next j 0) (record { frame = f; set = s; place = r + j }) =
          record { index = was.index j h ∙ rw now; place = sym (rw back (here j h)) } in
          let known = walked fits h walk (omega (arith, column-in-line size (length notes) quarter fits hf j h)) in
          (known.index_small, rw (last, own) known.index_room)

-- ---- a head as a number

-- the first r places of a head that begins at place p
pub record Headed (row : Row) (earlier : ℕ) (notes buffer : List ℕ) (p : ℕ) (out : List ℕ) (r word : ℕ) (next : List ℕ) : Type 0 where
  pub few : word < 2 ^ r
  pub sent : Sent row earlier notes buffer (p + r) next (out ++ written r word)

module _ (row : Row) (earlier : ℕ) (notes buffer : List ℕ) (p : ℕ) (out : List ℕ) where
  pub headed-start : (next : List ℕ) → Sent row earlier notes buffer p next out → Headed row earlier notes buffer p out 0 0 next
  unfolding written
  headed-start next s = record { few = omega arith; sent = rw (add-zero p, append-nil out) s }

  pub headed-more : (r word four : ℕ) (next next' : List ℕ) → Headed row earlier notes buffer p out r word next → four < 2 ^ 4
      → Sent row earlier notes buffer (p + r + 4) next' (out ++ written r word ++ written 4 four)
      → Headed row earlier notes buffer p out (r + 4) (word * 16 + four) next'
  headed-more r word four next next' h few s =
      let on : p + (r + 4) ≡ p + r + 4 = omega arith in
      record {
        few = rw (pow-add 2 r 4) (omega (arith, h.few));
        sent = rw (on, written-cat r 4 word four few, ← append_assoc out (written r word) (written 4 four)) s;
      }

-- a column more
module _ (row : Row) (sh : Shared row) (f s r : ℕ) (hs : s < row.sets) (fours : r % 4 ≡ 0) (hr : r < row.set) where
  pub headed-column : (earlier : ℕ) (notes buffer out : List ℕ) (preceding note word four : ℕ) (next next' : List ℕ) → preceding ≡ get_or (earlier ∷ notes) f 0
      → note ≡ get_or notes f 0 → Headed row earlier notes buffer (f * row.digits + s * row.set) out r word next
      → PlacedTo row note (acts_by row preceding note) s r buffer next 4 four next'
      → Headed row earlier notes buffer (f * row.digits + s * row.set) out (r + 4) (word * 16 + four) next'
  headed-column earlier notes buffer out preceding note word four next next' last own h column =
      headed-more row earlier notes buffer (f * row.digits + s * row.set) out r word four next next' h column.few
      (sent-column row sh f s r (f * row.digits + s * row.set + r) (omega arith) hs fours hr earlier notes preceding note last own buffer next next'
      (out ++ written r word) four h.sent column)
