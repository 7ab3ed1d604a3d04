-- Laws of the hunt in a hurry: a digit that does not end the hunt only moves the window, and what is left to do stays the same.
use mathlib.Core.Path.{◌≡◌, refl, sym, ap, subst, ◌∙◌}
use mathlib.Core.Bool.{true, false, true≢false}
use mathlib.Core.List.{List}
use Prim.Native.Nat.{ℕ, zero, suc, ◌+◌, ◌*◌, ◌-◌, ◌^◌, ◌≤◌, ◌<◌, min}
use native.Mathlib.Omega.{arith}
use native.Mathlib.Decide.{ℕ_discrete}
use native.Mathlib.Nat.{add_assoc, add-zero}
use borrow.Author.Tests.{ltb-true, ltb-false, leb-true, leb-false}
use lib.Dec.{eqb, leb, ltb}
use lib.ListN.{length, get_or}
use Rattle.digits.specs.Digits.{digits_of, between}
use Rattle.table.specs.declared.Row.{Row}
use Rattle.levels.specs.Table.{Shared}
use Rattle.modes.specs.declared.Mode.{Mode}
use Rattle.modes.specs.declared.Mode.TheVariants.{Hunting, OneFound, TwoFound, Aligned}
use Rattle.modes.specs.declared.Core.{Core}
use Rattle.pieces.specs.declared.alarm.Stretch.{Stretch}
use Rattle.pieces.specs.Alarm.{count_of, counted}
use Rattle.modes.specs.Modes.{hunting, window_of, seen_of, good, asks, tested_at, place_after, after_digit, step_of}
use Rattle.pieces.specs.Frame.{keep_of, ready_of}
use Rattle.digits.specs.Runs.{piece_of}
use Rattle.receiver.specs.Feed.{state_of, after_of, run_of}
use Rattle.modes.specs.Modes.{Valid}
use Rattle.pieces.specs.Hunt.{still_hunting, tested_in}
use Rattle.receiver.specs.Hunt.{Hunted}
use Rattle.receiver.proofs.Validity.{step-valid}
use Rattle.pieces.proofs.Counts.{counted_none, counted-one}
use Rattle.digits.proofs.Runs.{piece-step}
use Rattle.digits.proofs.Tests.{cond-told}
use Rattle.strides.specs.Strides.{window_on, window_from, Word, Passed}

-- a valid core that hunts is no more than its window and its digits seen
hunting-is : (mode : Mode) → hunting mode ≡ true → mode ≡ Hunting
hunting-is Hunting e = refl
hunting-is OneFound e = absurd (true≢false (sym e))
hunting-is TwoFound e = absurd (true≢false (sym e))
hunting-is (Aligned m) e = absurd (true≢false (sym e))

pub hunting-core : (row : Row) (c : Core) → Valid row c → hunting c.mode ≡ true → c ≡ still_hunting row c.window c.seen
unfolding still_hunting
hunting-core row c v h =
    same c.window c.seen (min c.seen row.len) c.mode c.place (omega (arith, v.seen)) (hunting-is c.mode h) (v.rests h)
  where
    same : (w n n' : ℕ) (mode : Mode) (p : ℕ) → n ≡ n' → mode ≡ Hunting → p ≡ 0
        → ◌≡◌ {A = Core} (record { window = w; seen = n; mode = mode; place = p }) (record { window = w; seen = n'; mode = Hunting; place = 0 })
    same w n n' mode p en em ep = rw (en, em, ep)

seen_one : (row : Row) (came : ℕ) → seen_of row (min came row.len) ≡ min (came + 1) row.len
unfolding seen_of
seen_one row came =
    cond-told (λ (n : ℕ). n ≡ min (came + 1) row.len) (ltb (min came row.len) row.len)
    (λ e. omega (arith, ltb-true (min came row.len) row.len e)) (λ e. omega (arith, ltb-false (min came row.len) row.len e))

-- a digit after which the window is not the word
still-step : (row : Row) (w came d : ℕ) → good row (window_of row w d) ≡ false
    → step_of row (still_hunting row w came) d ≡ still_hunting row (window_of row w d) (came + 1)
unfolding step_of after_digit still_hunting place_after
still-step row w came d bad =
    rw (bad, seen_one row came)
    (cond-told (λ (c : Core). c ≡ record { window = window_of row w d; seen = min (came + 1) row.len; mode = Hunting; place = 0 })
    (asks row (min (came + 1) row.len) Hunting 0) (λ _. refl) (λ _. refl))

after-still : (row : Row) (w came d level : ℕ) (f : List ℕ) (st : Stretch) → good row (window_of row w d) ≡ false
    → after_of row (state_of level (still_hunting row w came) f st) d ≡ state_of level (still_hunting row (window_of row w d) (came + 1)) f (count_of row st d)
unfolding after_of keep_of still_hunting
after-still row w came d level f st bad = rw (still-step row w came d bad)

ready-still : (row : Row) (w came : ℕ) → ready_of row (still_hunting row w came) ≡ false
unfolding ready_of still_hunting
ready-still row w came = refl

-- such a digit is the first of a piece, and no frame is ready after it
run-still : (row : Row) (slice : List ℕ) (at end w came d level taken words : ℕ) (f : List ℕ) (st : Stretch)
    → at < end → end ≤ 8 * length slice → d ≡ get_or (digits_of slice) at 0 → good row (window_of row w d) ≡ false
    → run_of row (piece_of slice at (end - at)) taken words (state_of level (still_hunting row w came) f st)
    ≡ run_of row (piece_of slice (at + 1) (end - (at + 1))) (suc taken) (words + tested_at row (still_hunting row w came))
    (state_of level (still_hunting row (window_of row w d) (came + 1)) f (count_of row st d))
unfolding run_of
run-still row slice at end w came d level taken words f st h within ed bad =
    rw (piece-step slice at end h within, ← ed, after-still row w came d level f st bad, ready-still row (window_of row w d) (came + 1))

-- ---- the words that the hunt tests, one digit more

tested-still : (row : Row) (w came : ℕ) → came + 1 + 1 - row.len ≡ came + 1 - row.len + tested_at row (still_hunting row w came)
unfolding tested_at still_hunting asks
tested-still row w came =
    rw (seen_one row came)
    (cond-told (λ (n : ℕ). came + 1 + 1 - row.len ≡ came + 1 - row.len + n) (leb row.len (min (came + 1) row.len))
    (λ e. omega (arith, leb-true row.len (min (came + 1) row.len) e)) (λ e. omega (arith, leb-false row.len (min (came + 1) row.len) e)))

tested-one : (row : Row) (c : Core) → tested_at row c ≤ 1
unfolding tested_at
tested-one row c = cond-told (λ (n : ℕ). n ≤ 1) (asks row (seen_of row c.seen) c.mode c.place) (λ _. omega arith) (λ _. omega arith)

tested-more : (row : Row) (w seen came : ℕ) → seen ≤ came → tested_in row seen (came + 1) ≡ tested_in row seen came + tested_at row (still_hunting row w came)
tested-more row w seen came h =
    grown (came + 1 - row.len) (came + 1 + 1 - row.len) (seen + 1 - row.len) (tested_at row (still_hunting row w came)) (tested-still row w came) (omega arith)
  where
    grown : (x y b t : ℕ) → y ≡ x + t → b ≤ x → y - b ≡ x - b + t
    grown x y b t e h = omega arith

most-more : (x y t at p : ℕ) → y ≡ x + t → t ≤ 1 → x ≤ at - p → p ≤ at → y ≤ at + 1 - p
most-more x y t at p e one h from = omega arith

-- ---- the hunt

-- a row's word is one that `seek` looks for
pub word-asked : (row : Row) → Shared row → (mask : ℕ) → mask ≡ 2 ^ row.len - 1 → Word row.len mask row.word
word-asked row sh mask e = record { least = least; most = sh.word_short; masked = e; fits = sh.word_fits }
  where
    least : 7 ≤ row.len
    least =
        elim (ℕ_discrete row.len 10) [
          | yes ten ↦ omega arith
          | no other ↦
              elim (ℕ_discrete row.len 12) [
                | yes twelve ↦ omega arith
                | no neither ↦ omega (arith, (sh.eight other neither).0)
              ]
        ]

module _ (row : Row) (sh : Shared row) (slice : List ℕ) (end p : ℕ) where
  pub hunted-none : (c : Core) → Valid row c → p < end → Hunted row slice end p c p 0 c
  hunted-none c v h =
      let none : p - p ≡ 0 = omega arith in
      record {
        valid = v;
        from = omega arith;
        before = h;
        most = omega arith;
        same = λ level taken words f st. rw (← counted_none row slice st p, none, nothing taken, nothing words);
      }
    where
      nothing : (t : ℕ) → t + 0 ≡ t
      nothing t = omega arith

  hunted-begin : (c : Core) → Valid row c → hunting c.mode ≡ true → p < end
      → Hunted row slice end p (still_hunting row c.window c.seen) p (tested_in row c.seen c.seen) (still_hunting row c.window c.seen)
  hunted-begin c v e h =
      let none-tested : c.seen + 1 - row.len - (c.seen + 1 - row.len) ≡ 0 = omega arith in
      rw none-tested (hunted-none (still_hunting row c.window c.seen) (subst (Valid row) (hunting-core row c v e) v) h)

  hunted-more : (c₀ : Core) (seen at w came d next : ℕ) → Hunted row slice end p c₀ at (tested_in row seen came) (still_hunting row w came)
      → seen ≤ came → at + 1 < end → end ≤ 8 * length slice → d ≡ get_or (digits_of slice) at 0 → next ≡ window_of row w d → good row next ≡ false
      → Hunted row slice end p c₀ (at + 1) (tested_in row seen (came + 1)) (still_hunting row next (came + 1))
  hunted-more c₀ seen at w came d next h grows room within ed en bad =
      let bad' : good row (window_of row w d) ≡ false = rw en at bad in
      let step = still-step row w came d bad' in
      let tests = tested_at row (still_hunting row w came) in
      let one = tested-more row w seen came grows in
      record {
        valid = rw (en, ← step) (step-valid row sh (still_hunting row w came) h.valid d);
        from = omega (arith, h.from);
        before = room;
        most =
            most-more (tested_in row seen came) (tested_in row seen (came + 1)) tests at p one (tested-one row (still_hunting row w came))
            h.most h.from;
        same = λ level taken words f st.
            let t : taken + (at + 1 - p) ≡ suc (taken + (at - p)) = omega (arith, h.from) in
            let n : words + tested_in row seen (came + 1) ≡ words + tested_in row seen came + tests =
            rw one (sym (add_assoc words (tested_in row seen came) tests)) in
            h.same level taken words f st
            ∙ rw (en, t, n, counted-one row slice st p at d h.from (omega arith) ed)
            (run-still row slice at end w came d level (taken + (at - p)) (words + tested_in row seen came) f (counted row st (between slice p at)) (omega arith) within ed bad');
      }

  -- many such digits
  hunted-many : (c₀ : Core) (seen w : ℕ) → Hunted row slice end p c₀ p (tested_in row seen seen) (still_hunting row w seen) → (n : ℕ) → p + n < end
      → end ≤ 8 * length slice → ((k : ℕ) → k < n → eqb (window_from row.len (digits_of slice) p w (suc k)) row.word ≡ false)
      → Hunted row slice end p c₀ (p + n) (tested_in row seen (seen + n)) (still_hunting row (window_from row.len (digits_of slice) p w n) (seen + n))
  unfolding window_from window_on window_of good
  hunted-many c₀ seen w h zero room within bad = rw (add-zero p, add-zero seen) h
  hunted-many c₀ seen w h (suc n) room within bad =
      let a : p + suc n ≡ p + n + 1 = omega arith in
      let k : seen + suc n ≡ seen + n + 1 = omega arith in
      rw (a, k)
      (hunted-more c₀ seen (p + n) (window_from row.len (digits_of slice) p w n) (seen + n) (get_or (digits_of slice) (p + n) 0)
      (window_from row.len (digits_of slice) p w (suc n))
      (hunted-many c₀ seen w h n (omega arith) within (λ k hk. bad k (omega arith))) (omega arith) (omega arith) within refl refl (bad n (omega arith)))

  -- equal cores, equal answers
  hunted-is : (c c₀ : Core) (a at n n' : ℕ) (r c' : Core) → c ≡ c₀ → r ≡ c' → a ≡ at → n ≡ n'
      → Hunted row slice end p c₀ at n' c' → Hunted row slice end p c a n r
  hunted-is c c₀ a at n n' r c' e e' ea e'' h = rw (e, e', ea, e'') h

  -- a hunt from a valid core that hunts, by what it passed
  pub hunted-passed : (c : Core) (at w' : ℕ) → Valid row c → hunting c.mode ≡ true → end ≤ 8 * length slice
      → Passed row.len row.word (digits_of slice) end p c.window at w'
      → (r : Core) (a n : ℕ) → r ≡ still_hunting row w' (c.seen + (at - p)) → a ≡ at → n ≡ tested_in row c.seen (c.seen + (at - p)) → Hunted row slice end p c a n r
  hunted-passed c at w' v e within h r a n er ea en =
      let there : p + (at - p) ≡ at = omega (arith, h.from) in
      let begun = hunted-begin c v e (omega (arith, h.from, h.before)) in
      let many = hunted-many (still_hunting row c.window c.seen) c.seen c.window begun (at - p) (omega (arith, h.from, h.before)) within h.missed in
      hunted-is c (still_hunting row c.window c.seen) a at n (tested_in row c.seen (c.seen + (at - p))) r
      (still_hunting row (window_from row.len (digits_of slice) p c.window (at - p)) (c.seen + (at - p))) (hunting-core row c v e)
      (er ∙ ap (λ (w : ℕ). still_hunting row w (c.seen + (at - p))) h.window) ea en (rw there at many)
