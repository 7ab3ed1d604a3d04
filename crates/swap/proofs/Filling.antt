-- One tributary's pass: after x columns, every own place of the tributary in them has its digit. Start, columns of a run more, one column more, end.
use mathlib.Core.Path.{◌≡◌, refl, sym, ◌∙◌, ap}
use mathlib.Core.Bool.{Bool, cond, true, false, ◌&&◌}
use mathlib.Core.List.{List, ◌∷◌}
use Prim.Native.Nat.{ℕ, zero, suc, ◌+◌, ◌*◌, ◌-◌, ◌/◌, ◌%◌, ◌≤◌, ◌<◌}
use native.Mathlib.Omega.{arith}
use native.Mathlib.Decide.{dec_lt, ℕ_discrete}
use native.Mathlib.Nat.{add-zero, add-suc, add-mul}
use lib.Dec.{eqb, ltb}
use lib.ListN.{length, get_or}
use lib.Seq.{get_or-set_same, get_or-set_other}
use borrow.Author.Tests.{lt-ltb, le-ltb, eq-eqb, ne_eqb}
use Rattle.digits.specs.Digits.{digits_of, Bytes}
use Rattle.digits.proofs.Laws.{digits-length}
use Rattle.table.specs.declared.Row.{Row}
use Rattle.levels.specs.declared.places.At.{At}
use Rattle.levels.specs.declared.order.Action.{Action}
use Rattle.levels.specs.declared.places.Kind.{Kind}
use Rattle.levels.specs.declared.places.Kind.TheVariants.{Tributary}
use Rattle.levels.specs.Places.{is_own, kind_of, kind_at, pos_of}
use Rattle.levels.specs.Table.{Shared}
use Rattle.levels.specs.Sizes.{Fits}
use Rattle.levels.specs.Order.{acts_by, actions, carried, carries, before}
use Rattle.levels.proofs.Positions.{Stands, stands_at, pos-of-sum}
use Rattle.levels.proofs.Runs.{past_head}
use Rattle.levels.proofs.Walk.{Walking, walk_start, walk-next, Column, column}
use Rattle.levels.specs.Line.{digit_by, line_digit}
use Rattle.levels.proofs.Room.{set-in-line, before-room}
use Rattle.swap.specs.Filling.{among, Ran, Ahead, Put, Filled}
use Rattle.swap.proofs.Eights.{among_none, by-columns}

-- below x and below x + 1 are the same of every number but x
same_test : (n x : ℕ) → (n ≡ x → ⊥) → ltb n x ≡ ltb n (x + 1)
same_test n x other =
    elim (dec_lt n x) [
      | yes h ↦ lt-ltb n x h ∙ sym (lt-ltb n (x + 1) (omega arith))
      | no h ↦ le-ltb n x (omega arith) ∙ sym (le-ltb n (x + 1) (over h))
    ]
  where
    over : (n < x → ⊥) → x + 1 ≤ n
    over h = elim (ℕ_discrete n x) [ yes e ↦ absurd (other e) | no d ↦ omega arith ]

-- place p of the first x columns of tributary j is done where it is an own place; every other place is as it was
abbrev done : Row → ℕ → List ℕ → List ℕ → List ℕ → ℕ → ℕ → ℕ → ℕ
done row earlier notes ds old j x p =
    cond (ltb (p / 4) x && (eqb (p % 4) j && is_own (kind_at row p))) (line_digit row earlier notes (λ (k : ℕ). ds) p) (get_or (digits_of old) p 0)

-- at column x of tributary j, whose digits ds come from a quarter of q bytes
pub record Filling (row : Row) (earlier : ℕ) (notes ds old : List ℕ) (j q x i : ℕ) (at : At) (new : List ℕ) : Type 0 where
  pub fits : Fits row (length old) (length notes) q
  pub tributary : j < 4
  pub walking : Walking row fits.shared j tributary (actions row earlier notes j) x i at
  pub kept : length new ≡ length old
  pub digits : (p : ℕ) → get_or (digits_of new) p 0 ≡ done row earlier notes ds old j x p
  pub bytes : Bytes new

pub filling-start : (row : Row) (earlier : ℕ) (notes ds old : List ℕ) (j q : ℕ) → Bytes old → j < 4 → Fits row (length old) (length notes) q
    → Filling row earlier notes ds old j q 0 0 (record { frame = 0; set = 0; place = j }) old
filling-start row earlier notes ds old j q bytes jh fits =
    record {
      fits = fits;
      tributary = jh;
      walking = walk_start row fits.shared j jh (actions row earlier notes j);
      kept = refl;
      digits = λ p. rw (le-ltb (p / 4) 0 (omega arith));
      bytes = bytes;
    }

module _ {row : Row} {earlier : ℕ} {notes ds old : List ℕ} {j q x i : ℕ} {at : At} {mid : List ℕ} (so_far : Filling row earlier notes ds old j q x i at mid) where
  abbrev kind : Kind
  kind = kind_of row at.set at.place

  -- what a column inside the line asks of it, of the notes and of the quarter
  module _ (h : x < 2 * length old) where
    pub here-is : Column row (length old) (length notes) q j (actions row earlier notes j) x i at
    here-is = column so_far.fits so_far.tributary so_far.walking h

    pub next-asks : Shared row × (at.frame ≤ 64) × (at.set < row.sets) × (at.place < row.set)
    next-asks = (so_far.fits.shared, here-is.frame_few, here-is.set_in, here-is.place_in)

    -- k columns ahead by whole bytes
    module _ (k : ℕ) (go : Ahead row at x k) where
      abbrev sh : Shared row
      sh = so_far.fits.shared

      abbrev acts-of : ℕ → Action
      acts-of = actions row earlier notes j

      stands : Stands row sh (4 * x + j) at
      stands = stands_at row sh (4 * x + j) at so_far.walking.place

      -- where they stand, and that they are the tributary's
      on : (c : ℕ) → c < k → pos_of row (4 * (x + c) + j) ≡ record { frame = at.frame; set = at.set; place = at.place + 4 * c }
      on c l = pos-of-sum row sh (4 * (x + c) + j) at.frame at.set (at.place + 4 * c) (omega (arith, stands.sum)) stands.set_in (omega (arith, go.inside))

      own-kind : (c : ℕ) → c < k → kind_at row (4 * (x + c) + j) ≡ Tributary
      own-kind c l = rw (on c l) (past_head row sh at.set (at.place + 4 * c) (omega (arith, (go.run (omega arith)).1)))

      moved : (c : ℕ) → c ≤ k → before row acts-of j (x + c) ≡ i + c
      unfolding before carries
      moved zero l = rw (add-zero x) (sym so_far.walking.index ∙ omega arith)
      moved (suc c) l = rw (add-suc x c, own-kind c (omega arith), moved c (omega arith)) (omega arith)

      past : x + k < 2 * length old
      past =
          elim (dec_lt (at.set + 1) row.sets) [
            | yes more ↦ omega (
              arith,
              stands.sum,
              go.inside,
              add-mul at.set 1 row.set,
              so_far.fits.shared.room,
              set-in-line row (length old) (length notes) q so_far.fits at.frame (at.set + 1) here-is.frame_noted more,
            )
            | no none ↦ omega (arith, stands.sum, go.last (omega arith), set-in-line row (length old) (length notes) q so_far.fits at.frame at.set here-is.frame_noted stands.set_in)
          ]

      room : (i + k ≤ 8 * q) × (i + k < 65536)
      room = rw (moved k (omega arith)) at (before-room row (length old) (length notes) q so_far.fits earlier notes j so_far.tributary (x + k) (omega (arith, past)))

      pub run-asks : (k % 2 ≡ 0) × (0 < k → 8 ≤ k) × (2 * (x / 2) + k ≤ 2 * length mid) × (i + k ≤ 8 * q) × (i + k < 65536) × (j < 4)
      run-asks = (go.pairs, go.eight, omega (arith, past, so_far.kept), room.0, room.1, so_far.tributary)

      pub run_past : x + k < 2 * length old
      run_past = past

      pub on-asks : Shared row × (at.frame ≤ 64) × (at.set < row.sets) × (at.place < row.set) × (at.place + 4 * k < row.set + 4)
      on-asks = (sh, here-is.frame_few, stands.set_in, here-is.place_in, go.inside)

      -- what multiplexing sends there
      own-digit : (p c : ℕ) → p ≡ 4 * (x + c) + j → c < k → line_digit row earlier notes (λ (n : ℕ). ds) p ≡ get_or ds (i + c) 0
      unfolding line_digit
      own-digit p c e l =
          let column : p / 4 ≡ x + c = omega (arith, so_far.tributary) in
          let mine : p % 4 ≡ j = omega (arith, so_far.tributary) in
          let kind : kind_at row p ≡ Tributary = ap (λ (n : ℕ). kind_at row n) e ∙ own-kind c l in
          rw (kind, mine, column, moved c (omega arith))

      own-place : (p c : ℕ) → p ≡ 4 * (x + c) + j → c < k → is_own (kind_at row p) ≡ true
      own-place p c e l = ap (λ (n : ℕ). is_own (kind_at row n)) e ∙ rw (own-kind c l)

      done-run : (p : ℕ) → cond (among x k p && eqb (p % 4) j) (get_or ds (i + (p / 4 - x)) 0) (done row earlier notes ds old j x p) ≡ done row earlier notes ds old j (x + k) p
      done-run p =
          by-columns x k p (λ h e. rw (e, lt-ltb (p / 4) x h, lt-ltb (p / 4) (x + k) (omega arith))) inside
          (λ h e. rw (e, le-ltb (p / 4) x (omega arith), le-ltb (p / 4) (x + k) h))
        where
          inside : x ≤ p / 4 → p / 4 < x + k → among x k p ≡ true
              → cond (among x k p && eqb (p % 4) j) (get_or ds (i + (p / 4 - x)) 0) (done row earlier notes ds old j x p) ≡ done row earlier notes ds old j (x + k) p
          inside h l e =
              elim (ℕ_discrete (p % 4) j) [
                | yes m ↦
                    let place : p ≡ 4 * (x + (p / 4 - x)) + j = omega arith in
                    rw (e, eq-eqb (p % 4) j m, lt-ltb (p / 4) (x + k) l, own-place p (p / 4 - x) place (omega arith)) (sym (own-digit p (p / 4 - x) place (omega arith)))
                | no m ↦ rw (e, ne_eqb (p % 4) j m, lt-ltb (p / 4) (x + k) l, le-ltb (p / 4) x h)
              ]

      -- from the middle of a byte on there are none
      ran-from : (p b : ℕ) → cond (among (2 * (x / 2)) k p && eqb (p % 4) j) (get_or ds (i + (p / 4 - 2 * (x / 2))) 0) b
          ≡ cond (among x k p && eqb (p % 4) j) (get_or ds (i + (p / 4 - x)) 0) b
      ran-from p b =
          elim (ℕ_discrete k 0) [
            | yes z ↦ rw (z, among_none (2 * (x / 2)) p, among_none x p)
            | no n ↦
                let even = (go.run (omega arith)).0 in
                let same : 2 * (x / 2) ≡ x = omega arith in
                rw same
          ]

      pub filling-run : (new : List ℕ) → Ran mid (2 * (x / 2)) k ds i j new → (at' : At) → ((p : ℕ) → at ≡ pos_of row p → at' ≡ pos_of row (p + 4 * k))
          → Filling row earlier notes ds old j q (x + k) (i + k) at' new
      filling-run new ran at' step =
          let same : 4 * x + j + 4 * k ≡ 4 * (x + k) + j = omega arith in
          record {
            fits = so_far.fits;
            tributary = so_far.tributary;
            walking = record {
              index = sym (moved k (omega arith));
              place = step (4 * x + j) so_far.walking.place ∙ ap (λ (n : ℕ). pos_of row n) same;
            };
            kept = ran.kept ∙ so_far.kept;
            digits = λ p. ran.digits p ∙ rw (so_far.digits p) (ran-from p (done row earlier notes ds old j x p) ∙ done-run p);
            bytes = ran.bytes;
          }

    -- the notes that were read are the frame's own and the preceding one
    module _ (preceding note : ℕ) (before-own : preceding ≡ get_or (earlier ∷ notes) at.frame 0) (own : note ≡ get_or notes at.frame 0) where
      abbrev act : Action
      act = acts_by row preceding note j

      acts : act ≡ actions row earlier notes j at.frame
      acts = rw (before-own, own)

      pub put-asks : Shared row × (4 * x + j < 8 * length mid) × (j < 4) × (i < 65536) × (carried kind act ≡ true → i < 8 * q)
      put-asks =
          (so_far.fits.shared, omega (arith, here-is.place_in_line, so_far.kept), so_far.tributary, here-is.index_small, λ c. here-is.index_room (rw acts at c))

      -- the digit that this column's place gets is the line's
      same-digit : (p : ℕ) → p ≡ 4 * x + j
          → digit_by row note act j at.place (get_or ds i 0) kind ≡ line_digit row earlier notes (λ (k : ℕ). ds) p
      unfolding line_digit
      same-digit p e =
          let four : p / 4 ≡ x = omega (arith, so_far.tributary) in
          let mine : p % 4 ≡ j = omega (arith, so_far.tributary) in
          rw (acts, own, mine, four, so_far.walking.index, so_far.walking.place, e)

      same_kind : (p : ℕ) → p ≡ 4 * x + j → kind_at row p ≡ kind
      same_kind p e = rw e (ap (λ (a : At). kind_of row a.set a.place) (sym so_far.walking.place))

      module _ (i' : ℕ) (new : List ℕ) (put : Put row at mid (4 * x + j) ds i note act j i' new) where
        -- at this column's place
        place_here : (p : ℕ) → p ≡ 4 * x + j → get_or (digits_of new) p 0 ≡ done row earlier notes ds old j (x + 1) p
        place_here p e = go (is_own kind) refl
          where
            tests : (o : Bool) → is_own kind ≡ o → done row earlier notes ds old j (x + 1) p ≡ cond o (line_digit row earlier notes (λ (k : ℕ). ds) p) (get_or (digits_of old) p 0)
            tests o eo =
                rw (lt-ltb (p / 4) (x + 1) (omega (arith, so_far.tributary)), eq-eqb (p % 4) j (omega (arith, so_far.tributary)), same_kind p e, eo)

            go : (o : Bool) → is_own kind ≡ o → get_or (digits_of new) p 0 ≡ done row earlier notes ds old j (x + 1) p
            go true eo =
                let written = rw eo at put.digits in
                rw (written, tests true eo, e)
                (get_or-set_same (digits_of mid) (4 * x + j) _ 0 (omega (arith, digits-length mid, put-asks.1)) ∙ same-digit (4 * x + j) refl)
            go false eo =
                let stays = rw eo at put.digits in
                let was = rw (le-ltb (p / 4) x (omega (arith, so_far.tributary))) at (so_far.digits p) in
                rw (stays, tests false eo) was

        -- at another place
        place_other : (p : ℕ) → (p ≡ 4 * x + j → ⊥) → get_or (digits_of new) p 0 ≡ done row earlier notes ds old j (x + 1) p
        place_other p n = kept (is_own kind) refl ∙ so_far.digits p ∙ same (ℕ_discrete (p % 4) j)
          where
            kept : (o : Bool) → is_own kind ≡ o → get_or (digits_of new) p 0 ≡ get_or (digits_of mid) p 0
            kept true eo = let written = rw eo at put.digits in rw written (get_or-set_other (digits_of mid) (4 * x + j) p _ 0 n)
            kept false eo = let stays = rw eo at put.digits in rw stays

            neither : (t : Bool) (a b : ℕ) → cond (t && false) a b ≡ b
            neither true a b = refl
            neither false a b = refl

            same : Dec (p % 4 ≡ j) → done row earlier notes ds old j x p ≡ done row earlier notes ds old j (x + 1) p
            same (yes m) = rw (same_test (p / 4) x (λ q. n (omega arith)))
            same (no m) = rw (ne_eqb (p % 4) j m) (neither (ltb (p / 4) x) _ _ ∙ sym (neither (ltb (p / 4) (x + 1)) _ _))

        pub filling-more : length new ≡ length mid → (at' : At) → ((p : ℕ) → at ≡ pos_of row p → at' ≡ pos_of row (p + 4))
            → Filling row earlier notes ds old j q (x + 1) i' at' new
        filling-more len at' on =
            record {
              fits = so_far.fits;
              tributary = so_far.tributary;
              walking = walk-next row so_far.fits.shared j so_far.tributary (actions row earlier notes j) x i at so_far.walking i' at' (rw acts at put.index) on;
              kept = len ∙ so_far.kept;
              digits = λ p. elim (ℕ_discrete p (4 * x + j)) [ yes e ↦ place_here p e | no n ↦ place_other p n ];
              bytes = put.bytes so_far.bytes;
            }

  -- after the last column
  pub filling-end : x ≡ 2 * length old → Filled row earlier notes ds j i old mid
  filling-end e =
      record {
        counted = so_far.walking.index ∙ ap (λ (k : ℕ). before row (actions row earlier notes j) j k) e;
        digits = λ p h. so_far.digits p ∙ rw (lt-ltb (p / 4) x (omega arith));
        kept = so_far.kept;
        bytes = so_far.bytes;
      }
