-- Laws of digits in a hurry outside hunting: before the digit at which a rule looks they only move the window and the place and are put in the
-- frame, and what is left to do stays the same.
use mathlib.Core.Path.{◌≡◌, refl, sym, ◌∙◌}
use mathlib.Core.Bool.{Bool, true, false, ◌&&◌}
use mathlib.Core.List.{List}
use Prim.Native.Nat.{ℕ, zero, suc, ◌+◌, ◌-◌, ◌*◌, ◌≤◌, ◌<◌, min}
use native.Mathlib.Omega.{arith}
use native.Mathlib.Nat.{add-zero}
use borrow.Author.Tests.{ne_eqb, le-ltb, le-leb, lt-leb}
use lib.ListN.{length, get_or}
use Rattle.digits.specs.Digits.{digits_of, between}
use Rattle.digits.proofs.Runs.{piece-step}
use Rattle.table.specs.declared.Row.{Row}
use Rattle.levels.specs.Table.{Shared}
use Rattle.modes.specs.declared.Core.{Core}
use Rattle.pieces.specs.declared.alarm.Stretch.{Stretch}
use Rattle.pieces.specs.Alarm.{count_of, counted}
use Rattle.modes.specs.Modes.{hunting, window_of, seen_of, asks, tested_at, place_after, after_digit, step_of}
use Rattle.pieces.specs.Frame.{put, keep_of, aligned, ready_of}
use Rattle.digits.specs.Runs.{piece_of}
use Rattle.receiver.specs.Feed.{state_of, after_of, run_of}
use Rattle.modes.specs.Modes.{Valid}
use Rattle.pieces.specs.Carry.{gone_on}
use Rattle.receiver.specs.Carry.{Carried}
use Rattle.receiver.proofs.Validity.{step-valid}
use Rattle.pieces.proofs.Counts.{counted_none, counted-one}
use Rattle.strides.specs.Strides.{window_on, window_from}
use Rattle.strides.specs.Copies.{puts}
use Rattle.strides.specs.Copies as copies
use Rattle.strides.proofs.Putting.{puts_none, puts_one}

-- ---- how far it goes, of two bounds the lesser

pub go-below : (place n last b : ℕ) → n ≡ min (last - 1 - place) b → place < last → place + n < last
go-below place n last b e h = below (omega arith)
  where
    below : n ≤ last - 1 - place → place + n < last
    below q = omega (arith, q, h)

pub go-before : (first n end a : ℕ) → n ≡ min a (end - 1 - first) → first < end → first + n < end
go-before first n end a e h = below (omega arith)
  where
    below : n ≤ end - 1 - first → first + n < end
    below q = omega (arith, q, h)

pub go-fits : (len digits place n first : ℕ) → place + n < digits - len → digits ≤ 2928 → len + place + (first + n - first) ≤ 2928
go-fits len digits place n first h short = omega arith

-- the frame's word for a digit that is put
put_same : (f : List ℕ) (p d : ℕ) → copies.put f p d ≡ put f p d
unfolding copies.put put
put_same f p d = refl

-- ---- one digit

module _ (row : Row) (c : Core) (v : Valid row c) (h : hunting c.mode ≡ false) (room : c.place + 1 < row.digits) where
  step-on : (d : ℕ) → step_of row c d ≡ record { window = window_of row c.window d; seen = c.seen; mode = c.mode; place = c.place + 1 }
  unfolding step_of after_digit asks place_after seen_of
  step-on d = rw (h, le-ltb c.seen row.len (v.came h), ne_eqb (c.place + 1) row.digits (λ q. omega arith))

  not_tested : tested_at row c ≡ 0
  unfolding tested_at asks
  not_tested = rw (h, ne_eqb (c.place + 1) row.digits (λ q. omega arith))

after_one : (row : Row) (c c' : Core) (f f' : List ℕ) (d level : ℕ) (st : Stretch) → c' ≡ step_of row c d → f' ≡ keep_of row c' d f
    → after_of row (state_of level c f st) d ≡ state_of level c' f' (count_of row st d)
unfolding after_of
after_one row c c' f f' d level st ec ef = rw (← ec, ← ef)

run-one : (row : Row) (slice : List ℕ) (at end : ℕ) (c c' : Core) (f f' : List ℕ) (d level taken words : ℕ) (st : Stretch)
    → at < end → end ≤ 8 * length slice → d ≡ get_or (digits_of slice) at 0 → c' ≡ step_of row c d → f' ≡ keep_of row c' d f → ready_of row c' ≡ false → tested_at row c ≡ 0
    → run_of row (piece_of slice at (end - at)) taken words (state_of level c f st)
    ≡ run_of row (piece_of slice (at + 1) (end - (at + 1))) (suc taken) words (state_of level c' f' (count_of row st d))
unfolding run_of
run-one row slice at end c c' f f' d level taken words st h within ed ec ef er et =
    rw (piece-step slice at end h within, ← ed, after_is, er, et, add-zero words)
  where
    after_is : after_of row (state_of level c f st) d ≡ state_of level c' f' (count_of row st d)
    after_is = after_one row c c' f f' d level st ec ef

-- ---- many

module _ (row : Row) (sh : Shared row) (slice : List ℕ) (end p : ℕ) where
  pub carried_none : (c : Core) (f : List ℕ) → Valid row c → p < end → Carried row slice end p c f p c f
  carried_none c f v h =
      let none : p - p ≡ 0 = omega arith in
      record {
        valid = v;
        from = omega arith;
        before = h;
        same = λ level taken words st. rw (← counted_none row slice st p, none, add-zero taken);
      }

  carried-more : (c : Core) (f : List ℕ) (at : ℕ) (c₁ c₂ : Core) (f₁ f₂ : List ℕ) (d : ℕ) → Carried row slice end p c f at c₁ f₁ → at + 1 < end
      → end ≤ 8 * length slice → d ≡ get_or (digits_of slice) at 0 → c₂ ≡ step_of row c₁ d → f₂ ≡ keep_of row c₂ d f₁ → ready_of row c₂ ≡ false → tested_at row c₁ ≡ 0
      → Carried row slice end p c f (at + 1) c₂ f₂
  carried-more c f at c₁ c₂ f₁ f₂ d h room within ed ec ef er et =
      record {
        valid = rw ec (step-valid row sh c₁ h.valid d);
        from = omega (arith, h.from);
        before = room;
        same = λ level taken words st.
            let t : taken + (at + 1 - p) ≡ suc (taken + (at - p)) = omega (arith, h.from) in
            h.same level taken words st
            ∙ rw (t, counted-one row slice st p at d h.from (omega arith) ed)
            (run-one row slice at end c₁ c₂ f₁ f₂ d level (taken + (at - p)) words (counted row st (between slice p at)) (omega arith) within ed ec ef er et);
      }

  module _ (c : Core) (v : Valid row c) (h : hunting c.mode ≡ false) (within : end ≤ 8 * length slice) where
    on_none : c ≡ gone_on row slice p c 0
    unfolding gone_on window_from
    on_none = rw (add-zero c.place)

    on_step : (k : ℕ) → Valid row (gone_on row slice p c k) → c.place + suc k < row.digits
        → gone_on row slice p c (suc k) ≡ step_of row (gone_on row slice p c k) (get_or (digits_of slice) (p + k) 0)
    unfolding gone_on window_from window_on window_of
    on_step k w room =
        let e : c.place + suc k ≡ c.place + k + 1 = omega arith in
        rw e (sym (step-on row (gone_on row slice p c k) w h (omega arith) (get_or (digits_of slice) (p + k) 0)))

    on-tested : (k : ℕ) → Valid row (gone_on row slice p c k) → c.place + suc k < row.digits → tested_at row (gone_on row slice p c k) ≡ 0
    unfolding gone_on
    on-tested k w room = not_tested row (gone_on row slice p c k) w h (omega arith)

    -- g k: the frame after k digits
    carried-many : (f : List ℕ) (g : ℕ → List ℕ) → f ≡ g 0 → (n : ℕ) → c.place + n < row.digits → p + n < end
        → ((k : ℕ) → k < n → (g (suc k) ≡ keep_of row (gone_on row slice p c (suc k)) (get_or (digits_of slice) (p + k) 0) (g k))
        × (ready_of row (gone_on row slice p c (suc k)) ≡ false))
        → Carried row slice end p c f (p + n) (gone_on row slice p c n) (g n)
    carried-many f g e zero room before each =
        rw (add-zero p, ← e, ← on_none) (carried_none c f v (omega arith))
    carried-many f g e (suc n) room before each =
        let a : p + suc n ≡ p + n + 1 = omega arith in
        let so_far = carried-many f g e n (omega arith) (omega arith) (λ k hk. each k (omega arith)) in
        let last = each n (omega arith) in
        rw a
        (carried-more c f (p + n) (gone_on row slice p c n) (gone_on row slice p c (suc n)) (g n) (g (suc n)) (get_or (digits_of slice) (p + n) 0) so_far (omega arith) within refl
        (on_step n so_far.valid room) last.0 last.1 (on-tested n so_far.valid room))

    not-ready : (k : ℕ) → (c.place + k ≡ row.digits - row.len → ⊥) → ready_of row (gone_on row slice p c k) ≡ false
    unfolding ready_of gone_on
    not-ready k q = rw (ne_eqb (c.place + k) (row.digits - row.len) q) (neither (aligned c.mode))
      where
        neither : (t : Bool) → (t && false) ≡ false
        neither true = refl
        neither false = refl

    keep-put : (k d : ℕ) (f : List ℕ) → 0 < c.place + k → c.place + k ≤ row.digits - row.len
        → keep_of row (gone_on row slice p c k) d f ≡ put f (row.len - 1 + (c.place + k)) d
    unfolding keep_of gone_on
    keep-put k d f some few = rw (h, ne_eqb (c.place + k) 0 (λ q. omega arith), le-leb (c.place + k) (row.digits - row.len) few)

    keep-past : (k d : ℕ) (f : List ℕ) → row.digits - row.len < c.place + k → keep_of row (gone_on row slice p c k) d f ≡ f
    unfolding keep_of gone_on
    keep-past k d f many = rw (h, ne_eqb (c.place + k) 0 (λ q. omega arith), lt-leb (c.place + k) (row.digits - row.len) many)

    -- before the last digit of the frame
    pub carried-copy : (f : List ℕ) (n : ℕ) → c.place + n < row.digits - row.len → p + n < end
        → Carried row slice end p c f (p + n) (gone_on row slice p c n) (puts f (row.len + c.place) (between slice p (p + n)))
    carried-copy f n room before =
        carried-many f (λ k. puts f (row.len + c.place) (between slice p (p + k))) start n (omega arith) before
        (λ k hk. (one k hk, not-ready (suc k) (λ q. omega arith)))
      where
        start : f ≡ puts f (row.len + c.place) (between slice p (p + 0))
        start = rw (add-zero p) (puts_none slice f (row.len + c.place) p)

        one : (k : ℕ) → k < n → puts f (row.len + c.place) (between slice p (p + suc k))
            ≡ keep_of row (gone_on row slice p c (suc k)) (get_or (digits_of slice) (p + k) 0) (puts f (row.len + c.place) (between slice p (p + k)))
        one k hk =
            let a : p + suc k ≡ p + k + 1 = omega arith in
            let so_far = puts f (row.len + c.place) (between slice p (p + k)) in
            let d = get_or (digits_of slice) (p + k) 0 in
            rw a
            (sym (puts_one slice f (row.len + c.place) p (p + k) d (row.len - 1 + (c.place + suc k)) so_far (put so_far (row.len - 1 + (c.place + suc k)) d) (omega arith)
            (omega arith) (omega (arith, sh.word_some)) refl refl (sym (put_same so_far (row.len - 1 + (c.place + suc k)) d)))
            ∙ sym (keep-put (suc k) d so_far (omega arith) (omega arith)))

    -- from there on
    pub carried-past : (f : List ℕ) (n : ℕ) → row.digits - row.len ≤ c.place → c.place + n < row.digits → p + n < end
        → Carried row slice end p c f (p + n) (gone_on row slice p c n) f
    carried-past f n past room before =
        carried-many f (λ k. f) refl n room before
        (λ k hk. (sym (keep-past (suc k) (get_or (digits_of slice) (p + k) 0) f (omega arith)), not-ready (suc k) (λ q. omega arith)))

  -- equal answers
  pub carried-is : (c : Core) (f : List ℕ) (a at : ℕ) (r c' : Core) (g f' : List ℕ) → r ≡ c' → a ≡ at → g ≡ f'
      → Carried row slice end p c f at c' f' → Carried row slice end p c f a r g
  carried-is c f a at r c' g f' er ea eg h = rw (er, ea, eg) h
