-- Demand 3 at 8448, 34368 and 139264 kbit/s, with positive justification and with positive/zero/negative, with the level's numbers in the
-- statement. Proved once over the row: what the plain words allow is damage as the row defines it, and the places that they give to a
-- tributary are its own. A place is kept exactly if it lies past its set's head, where what the frame does says how far that of the last set goes.
use Rattle.std.specs.Prelude.{Some}
use mathlib.Core.Path.{◌≡◌, refl, sym, ◌∙◌, ap}
use mathlib.Core.Logic.{◌≢◌}
use mathlib.Core.Bool.{Bool, cond, true, false, true≢false, false≢true, ◌&&◌, not}
use mathlib.Core.List.{List, [], ◌∷◌, map}
use Prim.Native.Nat.{ℕ, zero, suc, ◌+◌, ◌*◌, ◌-◌, ◌/◌, ◌%◌, ◌≤◌, ◌<◌}
use native.Mathlib.Omega.{arith}
use native.Mathlib.Decide.{dec_le, dec_lt, ℕ_discrete}
use native.Mathlib.Nat.{add-mul, zero-mul, div-add-mod', div-lt_iff_lt-mul, mod-lt, lt_of_mul-lt-mul_right, not-suc-le-zero}
use lib.Dec.{eqb, leb, ltb}
use lib.ListN.{length, get_or}
use lib.Arith.{digits_lt}
use borrow.Author.Tests.{le-leb, leb-true, lt-ltb, ltb-true, ltb-false}
use Rattle.digits.specs.Digits.{digits_of, tab, differing}
use Rattle.digits.proofs.Laws.{digits-binary, map-append, tab-at, tab-length}
use Rattle.digits.proofs.Lists.{tab-more}
use Rattle.digits.proofs.Sums.{sum_same}
use Rattle.table.specs.declared.Row.{Row}
use Rattle.levels.specs.declared.order.Action.{Action}
use Rattle.levels.specs.declared.order.Action.TheVariants.{Stuffed, PositiveCarries, BothCarry}
use Rattle.table.specs.Table.{level_of, row2, row3, row4, row12, row14}
use Rattle.levels.specs.Table.{Shared}
use Rattle.levels.specs.Places.{is_own, kind_of, pos_of}
use Rattle.levels.specs.Order.{decisions, has_negative, by_own, by_both, action_of, actions, is_stuffed, both_carry, carried}
use Rattle.levels.specs.Vote.{group_of}
use Rattle.levels.proofs.Positions.{stands, pos-of-sum, in_frame}
use Rattle.levels.proofs.Columns.{frame-start, head_of, last_head, head_first, head-last, head-between, place-carries}
use Rattle.levels.proofs.Ways.{kind-word, kind-service, kind-first, kind-control, kind-fixed, kind-between, kind-negative, kind-positive, kind-after}
use Rattle.promises.specs.Damage.{kept, liberty_at, group_at, allowed, Damage, controls_changed, own_place}
use Rattle.promises.specs.Calls.{Lent, sent_line, read_dissent, DamageAt, DissentAt}
use Rattle.promises.specs.Plain.{Numbers, InFour, OutOfFours, digits_after, stuffs, negative_carries, Changed, controls_differing, DemandThree}
use Rattle.promises.proofs.Sent.{whose}
use Rattle.promises.proofs.Recovered.{carried-kept, kept-carries}
use Rattle.promises.proofs.Accepted.{shared}
use Rattle.promises.proofs.Calls.{on-damage, sends-same, send-returned, send-dissent, others-outside}

-- the plain words for what a frame does, and the row's, for the votes that it acts on
stuffs-by : (t p o : Bool) (n : ℕ) → cond t (p && o) o ≡ is_stuffed (cond t (by_both p o) (by_own o))
stuffs-by true true true n = refl
stuffs-by true true false n = refl
stuffs-by true false true n = refl
stuffs-by true false false n = refl
stuffs-by false p true n = refl
stuffs-by false p false n = refl

carries-by : (p o : Bool) → not p && not o ≡ both_carry (by_both p o)
carries-by true true = refl
carries-by true false = refl
carries-by false true = refl
carries-by false false = refl

-- what the head of the last set tells of the action
unstuffed-head : (row : Row) (act : Action) (t : ℕ) → last_head row act ≤ t → t < row.last → is_stuffed act ≡ false
unstuffed-head row Stuffed t h l = absurd (none h l)
  where
    none : row.last ≤ t → t < row.last → ⊥
    none h l = omega arith
unstuffed-head row PositiveCarries t h l = refl
unstuffed-head row BothCarry t h l = refl

both-head : (row : Row) → Shared row → (act : Action) (t : ℕ) → last_head row act ≤ t → t < row.last - 4 → both_carry act ≡ true
both-head row sh Stuffed t h l = absurd (none h l)
  where
    none : row.last ≤ t → t < row.last - 4 → ⊥
    none h l = omega arith
both-head row sh PositiveCarries t h l = absurd (none h l)
  where
    none : row.last - 4 ≤ t → t < row.last - 4 → ⊥
    none h l = omega arith
both-head row sh BothCarry t h l = refl

head-unstuffed : (row : Row) → Shared row → (act : Action) → is_stuffed act ≡ false → last_head row act ≤ row.last - 4
head-unstuffed row sh Stuffed e = absurd (true≢false e)
head-unstuffed row sh PositiveCarries e = omega arith
head-unstuffed row sh BothCarry e = omega (arith, sh.last_least)

head-both : (row : Row) (act : Action) → both_carry act ≡ true → last_head row act ≤ 4
head-both row Stuffed e = absurd (false≢true e)
head-both row PositiveCarries e = absurd (false≢true e)
head-both row BothCarry e = omega arith

head-most : (row : Row) → Shared row → (act : Action) → (4 ≤ last_head row act) × (last_head row act ≤ row.last)
head-most row sh Stuffed = (omega (arith, sh.last_least), omega arith)
head-most row sh PositiveCarries = (omega (arith, sh.last_least), omega arith)
head-most row sh BothCarry = (omega arith, omega (arith, sh.last_least))

module _ (row : Row) (sh : Shared row) where
  -- the numbers of the level: where its control digits, its service digits and its justification digits begin
  abbrev starts : ℕ → ℕ
  starts s = s * row.set

  abbrev controls : List ℕ
  controls = tab row.control 1 starts

  control-start : (i : ℕ) → i < row.control → get_or controls i 0 ≡ (1 + i) * row.set
  control-start = tab-at row.control 1 starts

  abbrev fixed : ℕ → ℕ
  fixed s = s * row.set + 4

  abbrev services : List ℕ
  services = cond (ltb 4 row.middle) (tab (row.sets - 2) 1 fixed) []

  abbrev last-start : ℕ
  last-start = (row.sets - 1) * row.set

  abbrev negatives : List ℕ
  negatives = cond (has_negative row) ((last-start + 4) ∷ []) []

  abbrev pub numbers : Numbers
  numbers =
      record {
        N = row.digits;
        n = row.room;
        head = row.first;
        controls = controls;
        services = services;
        negatives = negatives;
        positive = last-start + (row.last - 4);
        most = allowed row;
      }

  -- where a level has negative places the last head has twelve places, else eight; and a middle head with service places has eight
  with-negative : has_negative row ≡ true → row.last ≡ 12
  with-negative e = omega (arith, ltb-true row.n row.room e, sh.most, sh.last_most, sh.last_fours)

  without-negative : has_negative row ≡ false → row.last ≡ 8
  without-negative e = omega (arith, ltb-false row.n row.room e, sh.most, sh.last_least, sh.last_fours)

  -- a control group is the digits at these numbers
  group-after : (ds : List ℕ) (start j k : ℕ) → group_of ds (start + (row.set + j)) row.set k ≡ digits_after ds (start + j) (tab k 1 starts)
  unfolding group_of tab
  group-after ds start j zero = refl
  group-after ds start j (suc k) =
      let digit : ℕ → ℕ = λ (c : ℕ). get_or ds (start + j + c) 0 in
      let here : start + (row.set + j) + k * row.set ≡ start + j + (1 + k) * row.set = omega (arith, add-mul 1 k row.set) in
      rw (group-after ds start j k, here)
      (sym (ap (λ (l : List ℕ). map digit l) (tab-more k 1 starts) ∙ map-append digit (tab k 1 starts) (starts (1 + k) ∷ [])))

  -- the action in plain words
  module _ (earlier : ℕ) (notes : List ℕ) (j f : ℕ) where
    stuffs-is : stuffs negatives earlier notes j f ≡ is_stuffed (actions row earlier notes j f)
    unfolding action_of
    stuffs-is = go (has_negative row) (decisions (earlier ∷ notes) j f) (decisions notes j f) refl refl
      where
        go : (t p o : Bool) → decisions (earlier ∷ notes) j f ≡ p → decisions notes j f ≡ o
            → stuffs (cond t ((last-start + 4) ∷ []) []) earlier notes j f ≡ is_stuffed (cond t (by_both p o) (by_own o))
        go true p o ep eo = rw (ep, eo) (stuffs-by true p o 0)
        go false p o ep eo = eo ∙ stuffs-by false p o 0

    carries-is : has_negative row ≡ true → negative_carries earlier notes j f ≡ both_carry (actions row earlier notes j f)
    unfolding action_of
    carries-is e = rw e (carries-by (decisions (earlier ∷ notes) j f) (decisions notes j f))

  -- a place is kept exactly if it lies past its set's head
  module _ (earlier : ℕ) (notes : List ℕ) (p f r : ℕ) (e : p ≡ f * row.digits + r) where
    abbrev act : Action
    act = actions row earlier notes (p % 4) f

    standing : (s t : ℕ) → r ≡ s * row.set + t → s < row.sets → t < row.set → liberty_at row earlier notes p ≡ kept → head_of row s act ≤ t
    standing s t er hs ht keep =
        leb-true (head_of row s act) t
        (sym (place-carries row sh s t act) ∙ kept-carries (kind_of row s t) act (rw (pos-of-sum row sh p f s t (omega arith) hs ht) at keep))

    past-kept : (s t : ℕ) → r ≡ s * row.set + t → s < row.sets → t < row.set → head_of row s act ≤ t → liberty_at row earlier notes p ≡ kept
    past-kept s t er hs ht past =
        rw (pos-of-sum row sh p f s t (omega arith) hs ht) (carried-kept (kind_of row s t) act (place-carries row sh s t act ∙ le-leb (head_of row s act) t past))

    -- whose a place of the last set is
    mine : (start : ℕ) → start % 4 ≡ 0 → (t : ℕ) → r ≡ last-start + t → t < row.set → start ≤ t → t < start + 4 → p % 4 ≡ r - (last-start + start)
    mine start fours t er ht lo up = whose row sh f (row.sets - 1) t p (omega arith) (omega (arith, sh.later_set)) ht ∙ omega arith

    in-last : (t : ℕ) → r ≡ last-start + t → t < row.set → liberty_at row earlier notes p ≡ kept → last_head row act ≤ t
    in-last t er ht keep = rw (head-last row sh (row.sets - 1) act (omega (arith, sh.later_set))) at (standing (row.sets - 1) t er (omega (arith, sh.later_set)) ht keep)

    module _ (keep : liberty_at row earlier notes p ≡ kept) where
      kept-past : row.first ≤ r
      kept-past =
          elim (dec_le row.first r) [
            | yes lo ↦ lo
            | no lo ↦
                let h = standing 0 r (omega arith) (omega (arith, sh.later_set)) (omega (arith, sh.room)) keep in
                absurd (lo (rw (head_first row sh act) at h))
          ]

      kept-no-control : OutOfFours r controls
      kept-no-control i hi four =
          let t = r - (1 + i) * row.set in
          let few : i < row.control = omega (arith, tab-length row.control 1 starts) in
          let start = control-start i few in
          let lo = four.0 in
          let up = four.1 in
          let h = standing (1 + i) t (omega (arith, start)) (omega (arith, sh.group)) (omega (arith, start, sh.room)) keep in
          none (1 + i) t (omega arith) h (omega (arith, start))
        where
          none : (s t : ℕ) → 0 < s → head_of row s act ≤ t → t < 4 → ⊥
          none s t later h few =
              elim (ℕ_discrete (s + 1) row.sets) [
                | yes end ↦ let h' = rw (head-last row sh s act end) at h in let m = (head-most row sh act).0 in omega arith
                | no other ↦ let h' = rw (head-between row sh s act later other) at h in omega (arith, sh.middle_least)
              ]

      kept-no-service : OutOfFours r services
      kept-no-service = go (ltb 4 row.middle) refl
        where
          go : (t : Bool) → ltb 4 row.middle ≡ t → OutOfFours r (cond t (tab (row.sets - 2) 1 fixed) [])
          go false e i hi four = absurd (not-suc-le-zero hi)
          go true e i hi four =
              let few : i < row.sets - 2 = omega (arith, tab-length (row.sets - 2) 1 fixed) in
              let start : get_or (tab (row.sets - 2) 1 fixed) i 0 ≡ (1 + i) * row.set + 4 = tab-at (row.sets - 2) 1 fixed i few in
              let lo = four.0 in
              let up = four.1 in
              let t = r - (1 + i) * row.set in
              let h = standing (1 + i) t (omega (arith, start)) (omega arith) (omega (arith, start, sh.room)) keep in
              let h' = rw (head-between row sh (1 + i) act (omega arith) (λ last. omega arith)) at h in
              omega (arith, ltb-true 4 row.middle e, sh.middle_fours, start)

      kept-unstuffed : InFour r (last-start + (row.last - 4)) → stuffs negatives earlier notes (r - (last-start + (row.last - 4))) f ≡ false
      kept-unstuffed four =
          let lo = four.0 in
          let up = four.1 in
          let t = r - last-start in
          let er : r ≡ last-start + t = omega arith in
          let ht : t < row.set = omega (arith, sh.last_room, sh.last_least) in
          let own = mine (row.last - 4) (omega (arith, sh.last_fours, sh.last_least)) t er ht (omega arith) (omega arith) in
          let bare = unstuffed-head row act t (in-last t er ht keep) (omega (arith, sh.last_least)) in
          stuffs-is earlier notes (r - (last-start + (row.last - 4))) f ∙ (rw own at bare)

      kept-negative : (i : ℕ) → i < length negatives → InFour r (get_or negatives i 0) → negative_carries earlier notes (r - get_or negatives i 0) f ≡ true
      kept-negative = go (has_negative row) refl
        where
          go : (b : Bool) → has_negative row ≡ b → (i : ℕ) → i < length (cond b ((last-start + 4) ∷ []) []) → InFour r (get_or (cond b ((last-start + 4) ∷ []) []) i 0)
              → negative_carries earlier notes (r - get_or (cond b ((last-start + 4) ∷ []) []) i 0) f ≡ true
          go false b i hi four = absurd (not-suc-le-zero hi)
          go true b (suc i) hi four = absurd (none hi)
            where
              none : suc i < 1 → ⊥
              none h = omega arith
          go true b zero hi four =
              let lo = four.0 in
              let up = four.1 in
              let t = r - last-start in
              let er : r ≡ last-start + t = omega arith in
              let twelve = with-negative b in
              let ht : t < row.set = omega (arith, sh.last_room) in
              let own = mine 4 refl t er ht (omega arith) (omega arith) in
              let both = both-head row sh act t (in-last t er ht keep) (omega arith) in
              carries-is earlier notes (r - (last-start + 4)) f b ∙ (rw own at both)

  -- a service place of a set between is one of the level's fours
  out-of-service : (r s t : ℕ) → s * row.set + t ≡ r → 0 < s → s + 1 < row.sets → 4 ≤ t → t < row.middle → OutOfFours r services → ⊥
  out-of-service r s t parts later hs lo up = inside (ltb 4 row.middle) (lt-ltb 4 row.middle (omega arith))
    where
      inside : (b : Bool) → b ≡ true → OutOfFours r (cond b (tab (row.sets - 2) 1 fixed) []) → ⊥
      inside false e plain = false≢true e
      inside true e plain =
          let k : 1 + (s - 1) ≡ s = omega arith in
          let few : s - 1 < row.sets - 2 = omega arith in
          let start : get_or (tab (row.sets - 2) 1 fixed) (s - 1) 0 ≡ s * row.set + 4 = tab-at (row.sets - 2) 1 fixed (s - 1) few ∙ rw k in
          plain (s - 1) (omega (arith, tab-length (row.sets - 2) 1 fixed)) (omega (arith, start), omega (arith, start, sh.middle_most))

  -- and every other place is kept
  plain-kept : (earlier : ℕ) (notes : List ℕ) (p f r : ℕ) → p ≡ f * row.digits + r → row.first ≤ r → r < row.digits → OutOfFours r controls → OutOfFours r services
      → (InFour r (last-start + (row.last - 4)) → stuffs negatives earlier notes (r - (last-start + (row.last - 4))) f ≡ false)
      → ((i : ℕ) → i < length negatives → InFour r (get_or negatives i 0) → negative_carries earlier notes (r - get_or negatives i 0) f ≡ true)
      → liberty_at row earlier notes p ≡ kept
  plain-kept earlier notes p f r e lo hi out plain unstuffed carrying =
      let some : 0 < row.set = omega (arith, sh.room) in
      let parts = div-add-mod' r row.set in
      let hs : r / row.set < row.sets = (div-lt_iff_lt-mul some).1 (omega (arith, hi, sh.whole)) in
      let ht = mod-lt r some in
      past-kept earlier notes p f r e (r / row.set) (r % row.set) (omega (arith, parts)) hs ht (go (r / row.set) (r % row.set) parts hs ht)
    where
      act : Action
      act = actions row earlier notes (p % 4) f

      no-control : (s t : ℕ) → s * row.set + t ≡ r → 0 < s → s < row.sets → t < 4 → ⊥
      no-control s t parts later hs few =
          let k : 1 + (s - 1) ≡ s = omega arith in
          let start : get_or controls (s - 1) 0 ≡ s * row.set = control-start (s - 1) (omega (arith, sh.group)) ∙ rw k in
          out (s - 1) (omega (arith, sh.group, tab-length row.control 1 starts)) (omega (arith, start), omega (arith, start))

      negative-part : (t : ℕ) → last-start + t ≡ r → t < row.set → 4 ≤ t → t < row.last - 4 → last_head row act ≤ t
      negative-part t parts ht lo up = go (has_negative row) refl carrying
        where
          go : (b : Bool) → has_negative row ≡ b
              → ((i : ℕ) → i < length (cond b ((last-start + 4) ∷ []) []) → InFour r (get_or (cond b ((last-start + 4) ∷ []) []) i 0)
              → negative_carries earlier notes (r - get_or (cond b ((last-start + 4) ∷ []) []) i 0) f ≡ true)
              → last_head row act ≤ t
          go false b none = let eight = without-negative b in absurd (over eight)
            where
              over : row.last ≡ 8 → ⊥
              over e = omega arith
          go true b told =
              let twelve = with-negative b in
              let four : InFour r (last-start + 4) = (omega arith, omega arith) in
              let own = mine earlier notes p f r e 4 refl t (omega arith) ht lo (omega arith) in
              let both : both_carry act ≡ true = rw own (sym (carries-is earlier notes (r - (last-start + 4)) f b) ∙ told 0 (omega arith) four) in
              let h = head-both row act both in
              omega arith

      in_end : (t : ℕ) → last-start + t ≡ r → t < row.set → 4 ≤ t → last_head row act ≤ t
      in_end t parts ht lo =
          elim (dec_lt t (row.last - 4)) [
            | yes up ↦ negative-part t parts ht lo up
            | no past ↦
                elim (dec_lt t row.last) [
                  | yes few ↦
                      let own = mine earlier notes p f r e (row.last - 4) (omega (arith, sh.last_fours, sh.last_least)) t (omega arith) ht (omega arith) (omega arith) in
                      let bare : is_stuffed act ≡ false = rw own (sym (stuffs-is earlier notes (r - (last-start + (row.last - 4))) f) ∙ unstuffed (omega arith, omega arith)) in
                      let h = head-unstuffed row sh act bare in
                      omega arith
                  | no after ↦ let h = (head-most row sh act).1 in omega arith
                ]
          ]

      go : (s t : ℕ) → s * row.set + t ≡ r → s < row.sets → t < row.set → head_of row s act ≤ t
      go s t parts hs ht =
          elim (ℕ_discrete s 0) [
            | yes z ↦
                let none : s * row.set ≡ 0 = rw z (zero-mul row.set) in
                rw (z, head_first row sh act) (omega arith)
            | no n ↦
                elim (dec_lt t 4) [
                  | yes few ↦ absurd (no-control s t parts (omega arith) hs few)
                  | no past ↦
                      elim (ℕ_discrete (s + 1) row.sets) [
                        | yes last ↦
                            let k : row.sets - 1 ≡ s = omega arith in
                            let at : last-start ≡ s * row.set = rw k in
                            rw (head-last row sh s act last) (in_end t (omega (arith, at)) ht (omega arith))
                        | no other ↦
                            rw (head-between row sh s act (omega arith) other)
                            (elim (dec_le row.middle t) [
                              | yes h ↦ h
                              | no h ↦ absurd (out-of-service r s t parts (omega arith) (omega arith) (omega arith) (omega arith) plain)
                            ])
                      ]
                ]
          ]

  -- changes that the plain words allow are damage
  changed-damage : (level earlier : ℕ) (send : Lent) (received : List ℕ) → Changed level earlier numbers send received
      → Damage row earlier send.notes (length send.notes) (digits_of (sent_line level earlier send)) (digits_of received)
  changed-damage level earlier send received c =
      record {
        digits = digits-binary received;
        size = c.size;
        others_kept = λ p h keep.
            let at = pos_of row p in
            let st = stands row sh p in
            go p at.frame (at.set * row.set + at.place) h keep st.sum (in_frame row sh at.set at.place st.set_in st.place_in);
        few_controls = λ f j hf hj.
            rw (group-after (digits_of (sent_line level earlier send)) (f * row.digits) j row.control, group-after (digits_of received) (f * row.digits) j row.control)
            (c.few f j hf hj);
      }
    where
      go : (p f r : ℕ) → p < length send.notes * row.digits → liberty_at row earlier send.notes p ≡ kept → p ≡ f * row.digits + r → r < row.digits
          → get_or (digits_of received) p 0 ≡ get_or (digits_of (sent_line level earlier send)) p 0
      go p f r h keep e hr =
          rw e
          (c.kept f r (lt_of_mul-lt-mul_right row.digits (omega arith)) (kept-past earlier send.notes p f r e keep) hr
          (kept-no-control earlier send.notes p f r e keep)
          (kept-no-service earlier send.notes p f r e keep)
          (kept-unstuffed earlier send.notes p f r e keep)
          (kept-negative earlier send.notes p f r e keep))

  -- and damage is no more: the plain words allow all of it
  pub damage-changed : (level earlier : ℕ) (send : Lent) (received : List ℕ)
      → Damage row earlier send.notes (length send.notes) (digits_of (sent_line level earlier send)) (digits_of received) → Changed level earlier numbers send received
  damage-changed level earlier send received d =
      record {
        size = d.size;
        kept = λ f r hf lo hi out plain unstuffed carrying.
            d.others_kept (f * row.digits + r) (digits_lt hf hi) (plain-kept earlier send.notes (f * row.digits + r) f r refl lo hi out plain unstuffed carrying);
        few = λ f j hf hj.
            rw (← group-after (digits_of (sent_line level earlier send)) (f * row.digits) j row.control, ← group-after (digits_of received) (f * row.digits) j row.control)
            (d.few_controls f j hf hj);
      }

  -- tributary j's own places are those with the remainder j, from the head on and no service place
  own-later : (s t : ℕ) → 0 < s → (s + 1 ≢ row.sets → 4 ≤ t → row.middle ≤ t) → is_own (kind_of row s t) ≡ true
  own-later s t later plain =
      elim (dec_lt t 4) [
        | yes few ↦ rw (kind-control row sh s later t few)
        | no past ↦
            elim (ℕ_discrete (s + 1) row.sets) [
              | no other ↦ rw (kind-between row sh s later other t (plain other (omega arith)))
              | yes end ↦
                  elim (dec_lt t (row.last - 4)) [
                    | yes a ↦ rw (kind-negative row sh s later end t (omega arith) a)
                    | no a ↦
                        elim (dec_lt t row.last) [
                          | yes b ↦ rw (kind-positive row sh s later end t (omega arith) b)
                          | no b ↦ rw (kind-after row sh s later end t (omega arith))
                        ]
                  ]
            ]
      ]

  module _ (j f r s t : ℕ) (er : r ≡ s * row.set + t) (hs : s < row.sets) (ht : t < row.set) where
    -- whose place r of a frame is, by what its kind is
    by_kind : (own : Bool) → is_own (kind_of row s t) ≡ own → own_place row j (f * row.digits + r) ≡ eqb (r % 4) j && own
    by_kind own e =
        let p = f * row.digits + r in
        let same : p % 4 ≡ r % 4 = omega (arith, frame-start row sh 0 (omega arith) f) in
        rw (same, pos-of-sum row sh p f s t (omega arith) hs ht, e)

    pub own-places : row.first ≤ r → OutOfFours r services → own_place row j (f * row.digits + r) ≡ eqb (r % 4) j && true
    own-places lo plain = by_kind true (go s er refl)
      where
        go : (k : ℕ) → r ≡ k * row.set + t → s ≡ k → is_own (kind_of row s t) ≡ true
        go zero e z = rw (z, kind-first row sh t (let none = zero-mul row.set in omega arith))
        go (suc k) e z = own-later s t (omega arith) (λ other past.
            elim (dec_le row.middle t) [
              | yes h ↦ h
              | no h ↦ absurd (out-of-service r s t (sym er) (omega arith) (omega arith) past (omega arith) plain)
            ])

    pub head-places : s ≡ 0 → t < row.first → own_place row j (f * row.digits + r) ≡ eqb (r % 4) j && false
    head-places z h = by_kind false (rw z (none h))
      where
        none : t < row.first → is_own (kind_of row 0 t) ≡ false
        none h =
            elim (dec_lt t row.len) [
              | yes a ↦ rw (kind-word row sh t a)
              | no a ↦ let e : t ≡ row.len + (t - row.len) = omega arith in rw (e, kind-service row sh (t - row.len) (omega arith))
            ]

    pub service-places : 0 < s → s + 1 ≢ row.sets → 4 ≤ t → t < row.middle → own_place row j (f * row.digits + r) ≡ eqb (r % 4) j && false
    service-places later other lo hi = by_kind false (rw (kind-fixed row sh s later other t lo hi))

-- demand 3 at a level, by the numbers of its row
module _ (level : ℕ) (row : Row) (e : level_of level ≡ Some row) where
  abbrev sh : Shared row
  sh = shared level row e

  abbrev l : Numbers
  l = numbers row sh

  damage-at : (earlier : ℕ) (send : Lent) (received : List ℕ) → Changed level earlier l send received → DamageAt level earlier send.notes (sent_line level earlier send) received
  damage-at earlier send received c =
      on-damage level earlier row e send.notes (sent_line level earlier send) received (changed-damage row sh level earlier send received c)

  dissent-plain : (dissent : List ℕ) (F : ℕ) (sent received : List ℕ) → DissentAt level dissent F sent received → (j : ℕ) → j < 4
      → get_or dissent j 0 ≡ controls_differing l F (digits_of sent) (digits_of received) j
  dissent-plain dissent F sent received said j hj =
      let at : (ds : List ℕ) (f : ℕ) → group_at row ds f j ≡ digits_after ds (f * row.digits + j) (controls row sh) = λ ds f. group-after row sh ds (f * row.digits) j row.control in
      let row-said : (j : ℕ) → j < 4 → get_or dissent j 0 ≡ controls_changed row F (digits_of sent) (digits_of received) j = rw e at said in
      row-said j hj
      ∙ sum_same F (λ (f : ℕ). differing (group_at row (digits_of sent) f j) (group_at row (digits_of received) f j))
      (λ (f : ℕ).
      differing (digits_after (digits_of sent) (f * row.digits + j) (controls row sh)) (digits_after (digits_of received) (f * row.digits + j) (controls row sh)))
      (λ f hf. rw (at (digits_of sent) f, at (digits_of received) f))

  pub demand-three : DemandThree level l
  demand-three =
      record {
        same = λ earlier a b received other ok-a ok-b ca cb.
            sends-same level earlier a b ok-a ok-b received other (damage-at earlier a received ca) (damage-at earlier b other cb);
        returned = λ earlier send read ok lent c. send-returned level earlier send read ok (rw e lent) (damage-at earlier send read.line c);
        dissent = λ earlier send read ok lent c.
            dissent-plain (read_dissent level earlier read) (length send.notes) (sent_line level earlier send) read.line
            (send-dissent level earlier send read ok (rw e lent) (damage-at earlier send read.line c));
        others = λ earlier j k a b ok lent. others-outside level earlier j k a b ok (rw e lent);
      }

-- 8448 kbit/s: one of three control digits
abbrev pub numbers2 : Numbers
numbers2 =
    record { N = 848; n = 206; head = 12; controls = 212 ∷ 424 ∷ 636 ∷ []; services = []; negatives = []; positive = 640; most = 1 }

pub level-2 : DemandThree 2 numbers2
unfolding tab level_of
level-2 = demand-three 2 row2 refl

-- 34368 kbit/s: one of three
abbrev pub numbers3 : Numbers
numbers3 =
    record { N = 1536; n = 378; head = 12; controls = 384 ∷ 768 ∷ 1152 ∷ []; services = []; negatives = []; positive = 1156; most = 1 }

pub level-3 : DemandThree 3 numbers3
unfolding tab level_of
level-3 = demand-three 3 row3 refl

-- 139264 kbit/s: two of five
abbrev pub numbers4 : Numbers
numbers4 =
    record { N = 2928; n = 723; head = 16; controls = 488 ∷ 976 ∷ 1464 ∷ 1952 ∷ 2440 ∷ []; services = []; negatives = []; positive = 2444; most = 2 }

pub level-4 : DemandThree 4 numbers4
unfolding tab level_of
level-4 = demand-three 4 row4 refl

-- 8448 kbit/s with positive/zero/negative justification: one of three
abbrev pub numbers12 : Numbers
numbers12 =
    record { N = 1056; n = 257; head = 8; controls = 264 ∷ 528 ∷ 792 ∷ []; services = 268 ∷ 532 ∷ []; negatives = 796 ∷ []; positive = 800; most = 1 }

pub level-12 : DemandThree 12 numbers12
unfolding tab level_of
level-12 = demand-three 12 row12 refl

-- 139264 kbit/s with positive/zero/negative justification: one of three
abbrev pub numbers14 : Numbers
numbers14 =
    record { N = 2176; n = 538; head = 12; controls = 544 ∷ 1088 ∷ 1632 ∷ []; services = []; negatives = 1636 ∷ []; positive = 1640; most = 1 }

pub level-14 : DemandThree 14 numbers14
unfolding tab level_of
level-14 = demand-three 14 row14 refl
