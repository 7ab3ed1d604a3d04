-- Validity: a state is not refused with 6 exactly if each item holds, and a digit keeps it so.
use mathlib.Core.Path.{◌≡◌, refl, ap}
use mathlib.Core.Bool.{Bool, cond, true, false, not, ◌&&◌, ◌||◌}
use Prim.Native.Nat.{ℕ, ◌+◌, ◌*◌, ◌^◌, ◌≤◌, ◌<◌}
use native.Mathlib.Omega.{arith}
use native.Mathlib.Nat.{mod-lt}
use borrow.Author.Tests.{ltb-true, ltb-false, leb-true, leb-false, eqb-true, eqb-false, lt-leb, le-ltb, eq-eqb}
use lib.Dec.{eqb, ltb, leb}
use lib.Pow.{pow_pos}
use Rattle.digits.proofs.Tests.{cond-told, or-neither, and-asked, not-true}
use Rattle.table.specs.declared.Row.{Row}
use Rattle.levels.specs.Table.{Shared}
use Rattle.modes.specs.declared.Mode.{Mode}
use Rattle.modes.specs.declared.Mode.TheVariants.{Hunting, OneFound, TwoFound, Aligned}
use Rattle.modes.specs.declared.Core.{Core}
use Rattle.modes.specs.Modes.{hunting, missed, window_of, seen_of, good, asks, judged, place_after, after_digit, step_of}
use Rattle.pieces.specs.declared.alarm.Stretch.{Stretch}
use Rattle.pieces.specs.Alarm.{uncounted, Counting}
use Rattle.receiver.specs.Feed.{invalid, refusal_of}
use Rattle.modes.specs.Modes.{Valid}

-- ---- not refused with 6 is valid

module _ (row : Row) (c : Core) where
  pub valid-if : invalid row c ≡ false → Valid row c
  unfolding invalid
  valid-if e =
      let u = leb (2 ^ row.len) c.window in
      let v = ltb row.len c.seen in
      let x = ltb 3 (missed c.mode) in
      let y = leb row.digits c.place in
      let z = hunting c.mode && not (eqb c.place 0) in
      let h5 = or-neither (u || v || x || y || z) (not (hunting c.mode) && ltb c.seen row.len) e in
      let h4 = or-neither (u || v || x || y) z h5.0 in
      let h3 = or-neither (u || v || x) y h4.0 in
      let h2 = or-neither (u || v) x h3.0 in
      let h1 = or-neither u v h2.0 in
      record {
        window = leb-false (2 ^ row.len) c.window h1.0;
        seen = ltb-false row.len c.seen h1.1;
        missed = ltb-false 3 (missed c.mode) h2.1;
        place = leb-false row.digits c.place h3.1;
        rests = λ h. eqb-true c.place 0 (not-true (eqb c.place 0) (and-asked (hunting c.mode) (not (eqb c.place 0)) h4.1 h));
        came = λ h. ltb-false c.seen row.len (and-asked (not (hunting c.mode)) (ltb c.seen row.len) h5.1 (ap not h));
      }

  pub valid-only : Valid row c → invalid row c ≡ false
  unfolding invalid
  valid-only v =
      rw (lt-leb (2 ^ row.len) c.window v.window, le-ltb row.len c.seen v.seen, le-ltb 3 (missed c.mode) v.missed, lt-leb row.digits c.place v.place)
      (last (hunting c.mode) v.rests v.came)
    where
      last : (h : Bool) → (h ≡ true → c.place ≡ 0) → (h ≡ false → row.len ≤ c.seen)
          → (h && not (eqb c.place 0) || not h && ltb c.seen row.len) ≡ false
      last true rests came = rw (eq-eqb c.place 0 (rests refl))
      last false rests came = rw (le-ltb c.seen row.len (came refl))

-- ---- and so for the stretch

pub counting-if : (row : Row) (st : Stretch) → uncounted row st ≡ false → Counting row st
unfolding uncounted
counting-if row st e =
    let neither = or-neither (leb row.digits st.digits) (ltb st.digits st.zeros) e in
    record { within = leb-false row.digits st.digits neither.0; fewer = ltb-false st.digits st.zeros neither.1 }

pub counting-only : (row : Row) (st : Stretch) → Counting row st → uncounted row st ≡ false
unfolding uncounted
counting-only row st c = rw (lt-leb row.digits st.digits c.within, le-ltb st.digits st.zeros c.fewer)

-- ---- what an accepted call says

pub record Accepted (row : Row) (c : Core) (st : Stretch) (bytes first count : ℕ) : Type 0 where
  pub valid : Valid row c
  pub counting : Counting row st
  pub small : bytes ≤ 65536
  pub within : first + count ≤ 8 * bytes

module _ (row : Row) (c : Core) (st : Stretch) (bytes first count : ℕ) where
  pub accepted-if : refusal_of row c st bytes first count ≡ 0 → Accepted row c st bytes first count
  unfolding refusal_of
  accepted-if =
      cond-told (λ (n : ℕ). n ≡ 0 → Accepted row c st bytes first count) (invalid row c || uncounted row st) (λ _ h. absurd (omega arith))
      (λ v. cond-told (λ (n : ℕ). n ≡ 0 → Accepted row c st bytes first count) (ltb 65536 bytes) (λ _ h. absurd (omega arith))
      (λ b. cond-told (λ (n : ℕ). n ≡ 0 → Accepted row c st bytes first count) (ltb (8 * bytes) (first + count)) (λ _ h. absurd (omega arith))
      (λ w _. record {
        valid = valid-if row c (or-neither (invalid row c) (uncounted row st) v).0;
        counting = counting-if row st (or-neither (invalid row c) (uncounted row st) v).1;
        small = ltb-false 65536 bytes b;
        within = ltb-false (8 * bytes) (first + count) w;
      })))

  pub accepted-only : Accepted row c st bytes first count → refusal_of row c st bytes first count ≡ 0
  unfolding refusal_of
  accepted-only a =
      rw (valid-only row c a.valid, counting-only row st a.counting, le-ltb 65536 bytes a.small, le-ltb (8 * bytes) (first + count) a.within)

-- ---- a digit keeps it valid

judged-missed : (mode : Mode) (g : Bool) → missed mode ≤ 3 → missed (judged mode g) ≤ 3
judged-missed Hunting g h = cond-told (λ (m : Mode). missed m ≤ 3) g (λ _. omega arith) (λ _. omega arith)
judged-missed OneFound g h = cond-told (λ (m : Mode). missed m ≤ 3) g (λ _. omega arith) (λ _. omega arith)
judged-missed TwoFound g h = cond-told (λ (m : Mode). missed m ≤ 3) g (λ _. omega arith) (λ _. omega arith)
judged-missed (Aligned m) g h =
    cond-told (λ (m : Mode). missed m ≤ 3) g (λ _. omega arith)
    (λ _. cond-told (λ (m : Mode). missed m ≤ 3) (eqb (m + 1) 4) (λ _. omega arith) (λ e. few (eqb-false (m + 1) 4 e)))
  where
    few : (m + 1 ≡ 4 → ⊥) → m + 1 ≤ 3
    few n = omega arith

module _ (row : Row) (sh : Shared row) where
  pub window-fits : (w d : ℕ) → window_of row w d < 2 ^ row.len
  unfolding window_of
  window-fits w d = mod-lt (w * 2 + d) (pow_pos row.len)

  seen-fits : (n : ℕ) → n ≤ row.len → seen_of row n ≤ row.len
  unfolding seen_of
  seen-fits n h = cond-told (λ (k : ℕ). k ≤ row.len) (ltb n row.len) (λ e. omega (arith, ltb-true n row.len e)) (λ _. h)

  pub seen-grows : (n : ℕ) → n ≤ seen_of row n
  unfolding seen_of
  seen-grows n = cond-told (λ (k : ℕ). n ≤ k) (ltb n row.len) (λ _. omega arith) (λ _. omega arith)

  module _ (c : Core) (v : Valid row c) (d : ℕ) where
    -- where the word is asked for, at least L digits came
    pub asked-came : asks row (seen_of row c.seen) c.mode c.place ≡ true → row.len ≤ seen_of row c.seen
    unfolding asks
    asked-came e = by-hunt (hunting c.mode) refl e
      where
        by-hunt : (h : Bool) → hunting c.mode ≡ h → cond h (leb row.len (seen_of row c.seen)) (eqb (c.place + 1) row.digits) ≡ true
            → row.len ≤ seen_of row c.seen
        by-hunt true eh t = leb-true row.len (seen_of row c.seen) t
        by-hunt false eh t = omega (arith, v.came eh, seen-grows c.seen)

    -- where it is not, the place stays below N
    place-fits : asks row (seen_of row c.seen) c.mode c.place ≡ false → place_after c.mode c.place < row.digits
    unfolding asks place_after
    place-fits e = by-hunt (hunting c.mode) e
      where
        by-hunt : (h : Bool) → cond h (leb row.len (seen_of row c.seen)) (eqb (c.place + 1) row.digits) ≡ false → cond h 0 (c.place + 1) < row.digits
        by-hunt true t = omega (arith, v.place)
        by-hunt false t = below (eqb-false (c.place + 1) row.digits t)
          where
            below : (c.place + 1 ≡ row.digits → ⊥) → c.place + 1 < row.digits
            below n = omega (arith, v.place)

    pub step-valid : Valid row (step_of row c d)
    unfolding step_of after_digit place_after
    step-valid =
        cond-told (Valid row) (asks row (seen_of row c.seen) c.mode c.place)
        (λ e. record {
          window = window-fits c.window d;
          seen = seen-fits c.seen v.seen;
          missed = judged-missed c.mode (good row (window_of row c.window d)) v.missed;
          place = omega (arith, v.place);
          rests = λ h. refl;
          came = λ h. asked-came e;
        })
        (λ e. record {
          window = window-fits c.window d;
          seen = seen-fits c.seen v.seen;
          missed = v.missed;
          place = place-fits e;
          rests = λ h. rests h;
          came = λ h. omega (arith, v.came h, seen-grows c.seen);
        })
      where
        rests : hunting c.mode ≡ true → place_after c.mode c.place ≡ 0
        rests h = rw h
