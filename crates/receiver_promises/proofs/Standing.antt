-- The alarm by the numbers of the stretches: at each stretch's end it turns as request 4's sentences say (crate pieces, specs/Turns.antt), and it stands after
-- a history exactly if two stretches in a row had few and no two in a row since had each more.
use Rattle.std.specs.Prelude.{Some}
use mathlib.Core.Path.{◌≡◌, refl, sym, ap, ◌∙◌}
use mathlib.Core.Bool.{Bool, true, false, true≢false}
use mathlib.Core.List.{List}
use Prim.Native.Nat.{ℕ, zero, suc, ◌+◌, ◌-◌, ◌*◌, ◌/◌, ◌≤◌, ◌<◌}
use native.Mathlib.Numerals.{add-one}
use native.Mathlib.Omega.{arith}
use native.Mathlib.Decide.{dec_lt}
use native.Mathlib.Nat.{suc-mul, mod-lt, div-add-mod'}
use lib.ListN.{length, take, drop, length-drop, take-append-drop}
use lib.Seq.{length-take-le, take-add}
use Rattle.digits.specs.Digits.{zeros_in}
use Rattle.table.specs.declared.Row.{Row}
use Rattle.table.specs.Table.{level_of}
use Rattle.levels.proofs.Rows.{shared-row}
use Rattle.pieces.specs.declared.alarm.Stretch.{Stretch}
use Rattle.pieces.specs.Alarm.{ended, counted, fresh_stretch}
use Rattle.pieces.specs.Turns.{Turns}
use Rattle.receiver.specs.Feed.{fresh_state}
use Rattle.pieces.proofs.Counts.{counted-append}
use Rattle.pieces.proofs.Turns.{ended-turns}
use Rattle.receiver_promises.specs.Stretches.{stretch_at, FewAt, MoreAt, Stands, after_stretches}
use Rattle.receiver_promises.specs.History.{since}
use Rattle.receiver_promises.proofs.Pieces.{heard-stretch}
use Rattle.receiver_promises.proofs.Alarms.{some-digits, counted-rest, counted-whole}

-- no digit of the next stretch is counted yet
abbrev Whole : Stretch → Type 0
Whole st = (st.digits ≡ 0) × (st.zeros ≡ 0)

-- what it says of n whole stretches: the last had few, or more, or there was none; and the alarm stands, or does not
record Said (row : Row) (ds : List ℕ) (n : ℕ) (st : Stretch) : Type 0 where
  none : n ≡ 0 → st.few ≡ false
  few : (k : ℕ) → n ≡ k + 1 → FewAt row ds k → st.few ≡ true
  more : (k : ℕ) → n ≡ k + 1 → MoreAt row ds k → st.few ≡ false
  stands : st.alarm ≡ true → Stands row ds n
  off : st.alarm ≡ false → Stands row ds n → ⊥

module _ (row : Row) (some : 0 < row.digits) (ds : List ℕ) where
  next : (n : ℕ) → suc n * row.digits ≤ length ds → Whole (after_stretches row ds n)
      → after_stretches row ds (suc n) ≡ ended row (after_stretches row ds n) (zeros_in (stretch_at row ds n))
  unfolding after_stretches
  next n room (ed, ez) =
      let m = suc-mul n row.digits in
      let cut : suc n * row.digits ≡ n * row.digits + row.digits = omega (arith, m) in
      let size : length (stretch_at row ds n) ≡ row.digits =
      length-take-le row.digits (drop (n * row.digits) ds) (omega (arith, m, length-drop (n * row.digits) ds)) in
      let st = after_stretches row ds n in
      let z : st.zeros + zeros_in (stretch_at row ds n) ≡ zeros_in (stretch_at row ds n) = omega (arith, ez) in
      ap (λ (k : ℕ). counted row fresh_stretch (take k ds)) cut
      ∙ ap (counted row fresh_stretch) (take-add (n * row.digits) row.digits ds)
      ∙ counted-append row fresh_stretch (take (n * row.digits) ds) (stretch_at row ds n)
      ∙ counted-whole row (stretch_at row ds n) st (omega (arith, size)) (omega (arith, ed, size))
      ∙ ap (ended row st) z

  none-taken : 0 * row.digits ≡ 0
  none-taken = omega arith

  whole : (n : ℕ) → n * row.digits ≤ length ds → Whole (after_stretches row ds n)
  unfolding after_stretches counted
  whole zero room = rw none-taken (refl, refl)
  whole (suc n) room =
      let m = suc-mul n row.digits in
      rw (next n room (whole n (omega (arith, m)))) (refl, refl)

  -- each stretch turns the alarm as the request's sentences say
  pub each-turns : (n : ℕ) → suc n * row.digits ≤ length ds
      → Turns row (after_stretches row ds n) (zeros_in (stretch_at row ds n)) (after_stretches row ds (suc n))
  each-turns n room =
      let m = suc-mul n row.digits in
      rw (next n room (whole n (omega (arith, m)))) (ended-turns row (after_stretches row ds n) (zeros_in (stretch_at row ds n)))

  -- ---- two in a row had few, and no two in a row since had each more

  module _ (n : ℕ) (st st' : Stretch) (t : Turns row st (zeros_in (stretch_at row ds n)) st') (w : Said row ds n st) where
    -- a stretch has few or more
    last-few : (k : ℕ) → n ≡ k + 1 → st.few ≡ true → FewAt row ds k
    last-few k e f =
        elim (dec_lt row.limit (zeros_in (stretch_at row ds k))) [
          | yes h ↦ absurd (true≢false (sym f ∙ w.more k e h))
          | no h ↦ omega arith
        ]

    last_more : (k : ℕ) → n ≡ k + 1 → st.few ≡ false → MoreAt row ds k
    last_more k e f =
        elim (dec_lt row.limit (zeros_in (stretch_at row ds k))) [
          | yes h ↦ h
          | no h ↦ absurd (true≢false (sym (w.few k e (omega arith)) ∙ f))
        ]

    -- it stood, and did not end
    goes_on : st'.alarm ≡ true → st.alarm ≡ true → Stands row ds (n + 1)
    goes_on on was = record { begun = s.begun; within = omega (arith, s.within); few = s.few; not_ended = not_ended }
      where
        s : Stands row ds n
        s = w.stands was

        not_ended : (k : ℕ) → s.begun < k → k + 1 < n + 1 → MoreAt row ds k → MoreAt row ds (k + 1) → ⊥
        not_ended k lo hi one two =
            elim (dec_lt (k + 1) n) [
              | yes h ↦ s.not_ended k lo h one two
              | no h ↦ last k (omega arith) one two
            ]
          where
            last : (k : ℕ) → n ≡ k + 1 → MoreAt row ds k → MoreAt row ds (k + 1) → ⊥
            last k e one two = true≢false (sym on ∙ t.ends was (w.more k e one) (rw (sym e) at two))

    -- it did not stand, and began
    begins-now : (k : ℕ) → n ≡ k + 1 → st'.alarm ≡ true → st.alarm ≡ false → Stands row ds (n + 1)
    begins-now k e on was =
        let both = t.begins_only was on in
        record {
          begun = k;
          within = omega arith;
          few = (last-few k e both.0, rw e at both.1);
          not_ended = λ j lo hi one two. absurd (omega arith);
        }

    turned_on : st'.alarm ≡ true → Stands row ds (n + 1)
    turned_on on = by st.alarm refl
      where
        by : (a : Bool) → st.alarm ≡ a → Stands row ds (n + 1)
        by true was = goes_on on was
        by false was =
            elim (dec_lt 0 n) [
              | yes h ↦ begins-now (n - 1) (omega arith) on was
              | no h ↦ absurd (true≢false (sym (t.begins_only was on).0 ∙ w.none (omega arith)))
            ]

    -- off: of two in a row with few before the last stretch the alarm stood, and ended; the last two had not each few
    turned-off : st'.alarm ≡ false → Stands row ds (n + 1) → ⊥
    turned-off off s = elim (dec_lt (s.begun + 1) n) [ yes h ↦ before h | no h ↦ now (omega (arith, s.within)) ]
      where
        ended_here : (k : ℕ) → n ≡ k + 1 → s.begun < k → st.alarm ≡ true → ⊥
        ended_here k e lo was =
            let both = t.ends_only was off in
            s.not_ended k lo (omega arith) (last_more k e both.0) (rw e at both.1)

        before : s.begun + 1 < n → ⊥
        before h = by st.alarm refl
          where
            by : (a : Bool) → st.alarm ≡ a → ⊥
            by true was = ended_here (n - 1) (omega arith) (omega arith) was
            by false was =
                w.off was (record { begun = s.begun; within = h; few = s.few; not_ended = λ k lo hi one two. s.not_ended k lo (omega arith) one two })

        now : n ≡ s.begun + 1 → ⊥
        now e = by st.alarm refl
          where
            few : st.few ≡ true
            few = w.few s.begun e s.few.0

            by : (a : Bool) → st.alarm ≡ a → ⊥
            by true was = true≢false (sym few ∙ (t.ends_only was off).0)
            by false was = true≢false (sym (t.begins was few (rw (sym e) at s.few.1)) ∙ off)

    said-next : Said row ds (n + 1) st'
    said-next =
        record {
          none = λ e. absurd (omega arith);
          few = λ k e lo. t.few (same k (omega arith) lo);
          more = λ k e hi. t.more (same_more k (omega arith) hi);
          stands = turned_on;
          off = turned-off;
        }
      where
        same : (k : ℕ) → k ≡ n → FewAt row ds k → FewAt row ds n
        same k e h = rw e at h

        same_more : (k : ℕ) → k ≡ n → MoreAt row ds k → MoreAt row ds n
        same_more k e h = rw e at h

  said : (n : ℕ) → n * row.digits ≤ length ds → Said row ds n (after_stretches row ds n)
  unfolding after_stretches counted
  said zero room =
      rw none-taken
      (record {
        none = λ e. refl;
        few = λ k e lo. absurd (omega arith);
        more = λ k e hi. absurd (omega arith);
        stands = λ e. absurd (true≢false (sym e));
        off = λ e s. absurd (omega (arith, s.within));
      })
  said (suc n) room =
      let m = suc-mul n row.digits in
      rw (add-one n) at (said-next n (after_stretches row ds n) (after_stretches row ds (suc n)) (each-turns n room) (said n (omega (arith, m))))

  -- the digits of a stretch that has not ended change nothing
  pub so_far : (counted row fresh_stretch ds).alarm ≡ (after_stretches row ds (length ds / row.digits)).alarm
  unfolding after_stretches
  so_far =
      let n = length ds / row.digits in
      let parts = div-add-mod' (length ds) row.digits in
      let lt = mod-lt (length ds) some in
      let st = after_stretches row ds n in
      let done = whole n (omega (arith, parts)) in
      ap (λ (xs : List ℕ). (counted row fresh_stretch xs).alarm) (sym (take-append-drop (n * row.digits) ds))
      ∙ ap (λ (s : Stretch). s.alarm) (counted-append row fresh_stretch (take (n * row.digits) ds) (drop (n * row.digits) ds))
      ∙ (counted-rest row (drop (n * row.digits) ds) st (omega (arith, done, parts, lt, length-drop (n * row.digits) ds))).1

-- ---- of the receiver, after any history

module _ (level : ℕ) (row : Row) (known : level_of level ≡ Some row) (ds : List ℕ) where
  some : 0 < row.digits
  some = some-digits row (shared-row level row known)

  whole-stretches : length ds / row.digits * row.digits ≤ length ds
  whole-stretches = omega (arith, div-add-mod' (length ds) row.digits)

  alarm-then : (since row level ds).stretch.alarm ≡ (after_stretches row ds (length ds / row.digits)).alarm
  alarm-then = ap (λ (st : Stretch). st.alarm) (heard-stretch row ds (fresh_state level)) ∙ so_far row some ds

  -- the alarm stands only where two stretches in a row had few and no two in a row since had each more
  pub alarm-stands : (since row level ds).stretch.alarm ≡ true → Stands row ds (length ds / row.digits)
  alarm-stands e = (said row some ds (length ds / row.digits) whole-stretches).stands (sym alarm-then ∙ e)

  -- and there it does
  pub stands-alarm : Stands row ds (length ds / row.digits) → (since row level ds).stretch.alarm ≡ true
  stands-alarm s = by (since row level ds).stretch.alarm refl
    where
      by : (a : Bool) → (since row level ds).stretch.alarm ≡ a → (since row level ds).stretch.alarm ≡ true
      by true e = e
      by false e = absurd ((said row some ds (length ds / row.digits) whole-stretches).off (sym alarm-then ∙ e) s)
