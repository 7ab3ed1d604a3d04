-- From any valid state, on a line of correct frames, the finder is aligned at the true place after 2,565 digits, ten frames and five digits, and stays so;
-- from a fresh state after 1,030. By the deadline that falls with each digit (crate digits, proofs/Deadline.antt): here are the finder's numbers.
use mathlib.Core.Path.{◌≡◌, refl, sym, ap, ◌∙◌}
use mathlib.Core.Bool.{Bool, cond, true, false, true≢false}
use mathlib.Core.List.{List, []}
use Prim.Native.Nat.{ℕ, suc, ◌+◌, ◌-◌, ◌*◌, ◌%◌, ◌≤◌, ◌<◌}
use native.Mathlib.Omega.{arith}
use borrow.Author.Tests.{eqb-true, eqb-false, eq-eqb, ne_eqb, le-leb}
use lib.Dec.{eqb}
use lib.ListN.{length, get_or, take, length-take}
use lib.Seq.{take_all}
use Rattle.digits.specs.Digits.{written}
use Rattle.digits.specs.Runs.{heard, Piece, AllLent, digits_in_all, left_by, calls_for_all}
use Rattle.digits.proofs.Lists.{binary-take}
use Rattle.digits.proofs.Tests.{cond-told}
use Rattle.digits.proofs.Deadline.{next, Search, Hunts, Holds, Due, none-hunting, none-holding, hunts-on, finds, goes-up, confirms, misses, loses}
use Rattle.digits.proofs.WordLines.{none_left}
use Rattle.finder_2048.specs.declared.Mode.{Mode}
use Rattle.finder_2048.specs.declared.Mode.TheVariants.{Hunting, WordFound, SecondSeen, Aligned}
use Rattle.finder_2048.specs.declared.State.{State}
use Rattle.finder_2048.specs.Modes.{hunting, missed, word_number, window_of, seen_of, good, check_at, asks, passes, judged, place_then, step_of}
use Rattle.finder_2048.specs.Feed.{fresh_state, Placed, Valid}
use Rattle.finder_2048_promises.specs.History.{call_of}
use Rattle.finder_2048_promises.specs.Line.{Line, true_place, AlignedAt}
use Rattle.finder_2048.proofs.Validity.{placed-under, fresh-valid, step-valid}
use Rattle.finder_2048_promises.proofs.Pieces.{heard-valid, as-the-stream}
use Rattle.finder_2048_promises.proofs.Alignment.{after_on, after_turn, asked-at, asks-held, up_one, step-window, step-seen}
use Rattle.finder_2048_promises.proofs.Traces.{word-is, Traced, traced-fresh, traced-on}

-- ---- how long it takes yet

-- words come 512 digits apart, and a hunt needs two of them
abbrev needs : Mode → Search
needs Hunting = Hunts
needs WordFound = Holds 512 1536
needs SecondSeen = Holds 512 1536
needs (Aligned m) = Holds (cond (eqb m 0) 0 512) (2560 - 512 * m)

abbrev DueAt : ℕ → ℕ → Mode → ℕ → Type 0
DueAt due t mode p = Due 512 1024 due t (needs mode) p

-- any state
due-any : (t : ℕ) (mode : Mode) (p : ℕ) → DueAt 2559 t mode p
due-any t Hunting p = omega arith
due-any t WordFound p = (λ q. omega arith, λ q. omega arith)
due-any t SecondSeen p = (λ q. omega arith, λ q. omega arith)
due-any t (Aligned m) p = (λ q. cond-told (λ (r : ℕ). r ≤ 2559 + p) (eqb m 0) (λ _. omega arith) (λ _. omega arith), λ q. omega arith)

module _ (t p : ℕ) (ht : t < 512) (hp : p < 512) where
  -- none is due
  settled : (mode : Mode) → missed mode ≤ 2 → DueAt 0 t mode p → (mode ≡ Aligned 0) × (p ≡ t)
  settled Hunting few h = absurd (none-hunting 512 1024 t p ht (omega arith) h)
  settled WordFound few h = absurd (over (none-holding 512 1024 t p 512 1536 hp (omega arith) h).1)
    where
      over : 512 < 512 → ⊥
      over q = omega arith
  settled SecondSeen few h = absurd (over (none-holding 512 1024 t p 512 1536 hp (omega arith) h).1)
    where
      over : 512 < 512 → ⊥
      over q = omega arith
  settled (Aligned m) few h =
      let end = none-holding 512 1024 t p (cond (eqb m 0) 0 512) (2560 - 512 * m) hp (omega arith) h in
      (ap Aligned (cond-told (λ (r : ℕ). r < 512 → m ≡ 0) (eqb m 0) (λ e _. eqb-true m 0 e) (λ _ q. absurd (omega arith)) end.1), end.0)

  module _ (due : ℕ) where
    -- a digit at which no rule looks
    due-up : (mode : Mode) → hunting mode ≡ false → missed mode ≤ 2 → p + 1 < 512 → DueAt due t mode p → DueAt (due - 1) (next 512 t) mode (p + 1)
    due-up Hunting held few room h = absurd (true≢false held)
    due-up WordFound held few room h = goes-up 512 1024 due t p ht hp 512 1536 512 1536 h room (omega arith) (omega arith) (omega arith)
    due-up SecondSeen held few room h = goes-up 512 1024 due t p ht hp 512 1536 512 1536 h room (omega arith) (omega arith) (omega arith)
    due-up (Aligned m) held few room h = goes-up 512 1024 due t p ht hp (cond (eqb m 0) 0 512) (2560 - 512 * m) (cond (eqb m 0) 0 512) (2560 - 512 * m) h room (omega arith) (omega arith) (omega arith)

    -- a digit at which one does: the word is good exactly at the true place, and at the true place of the second digit the digit is 1
    due-turn : (mode : Mode) (w d : ℕ) → missed mode ≤ 2 → (hunting mode ≡ false → p + 1 ≡ check_at mode)
        → (good w ≡ true → next 512 t ≡ 0) → (next 512 t ≡ 0 → good w ≡ true) → (next 512 t ≡ 250 → d ≡ 1)
        → DueAt due t mode p → DueAt (due - 1) (next 512 t) (judged mode (passes mode w d)) (place_then (judged mode (passes mode w d)))
    due-turn mode w d few at only-word true-word second h = turn mode few at h
      where
        D : Mode → Type 0
        D mode = DueAt (due - 1) (next 512 t) mode (place_then mode)

        no_word : good w ≡ false → next 512 t ≡ 0 → ⊥
        no_word g z = true≢false (sym (true-word z) ∙ g)

        -- a check that fails was not made at the true place
        apart : p + 1 ≡ 512 → good w ≡ false → p ≡ t → ⊥
        apart at g e = no_word g (let z : eqb (t + 1) 512 ≡ true = eq-eqb (t + 1) 512 (omega arith) in rw z)

        no_digit : p + 1 ≡ 250 → eqb d 1 ≡ false → p ≡ t → ⊥
        no_digit at g e =
            let z : next 512 t ≡ 250 = rw (ne_eqb (t + 1) 512 (λ r. omega arith)) (omega arith) in
            eqb-false d 1 g (second z)

        turn : (mode : Mode) → missed mode ≤ 2 → (hunting mode ≡ false → p + 1 ≡ check_at mode) → DueAt due t mode p → D (judged mode (passes mode w d))
        turn Hunting few at h =
            cond-told D (good w) (λ g. finds 512 1024 due t p ht hp 512 1536 (omega arith) (only-word g) h) (λ g. hunts-on 512 1024 due t p ht hp (no_word g) h)
        turn WordFound few at h =
            cond-told D (eqb d 1) (λ g. rw (at refl) at (goes-up 512 1024 due t p ht hp 512 1536 512 1536 h (omega (arith, at refl)) (omega arith) (omega arith) (omega arith)))
            (λ g. loses 512 1024 due t p ht hp 512 1536 0 0 h (omega arith) (no_digit (at refl) g))
        turn SecondSeen few at h =
            cond-told D (good w) (λ g. confirms 512 1024 due t p ht hp 512 1536 0 2560 h (omega arith) (at refl) (only-word g))
            (λ g. loses 512 1024 due t p ht hp 512 1536 0 0 h (omega arith) (apart (at refl) g))
        turn (Aligned m) few at h =
            cond-told D (good w) (λ g. confirms 512 1024 due t p ht hp (cond (eqb m 0) 0 512) (2560 - 512 * m) 0 2560 h (omega arith) (at refl) (only-word g))
            (λ g. cond-told D (eqb (m + 1) 3) (λ q. loses 512 1024 due t p ht hp (cond (eqb m 0) 0 512) (2560 - 512 * m) 0 0 h (omega (arith, eqb-true (m + 1) 3 q)) (apart (at refl) g))
            (λ _. misses 512 1024 due t p ht hp (cond (eqb m 0) 0 512) (2560 - 512 * m) (cond (eqb (m + 1) 0) 0 512) (2560 - 512 * (m + 1)) h (omega arith) (at refl) (no_word g)))

-- ---- one digit of the line

-- hunting, a rule looks at every digit
asks-hunting : (n : ℕ) (mode : Mode) (p : ℕ) → hunting mode ≡ true → 7 ≤ n → asks n mode p ≡ true
unfolding asks
asks-hunting n mode p h came = rw h (le-leb 7 n came)

due-step : (s : State) → Valid s → (d due t : ℕ) → t < 512 → 7 ≤ (step_of s d).seen
    → ((step_of s d).window ≡ word_number → next 512 t ≡ 0) → (next 512 t ≡ 0 → (step_of s d).window ≡ word_number) → (next 512 t ≡ 250 → d ≡ 1)
    → DueAt due t s.mode s.place → DueAt (due - 1) (next 512 t) (step_of s d).mode (step_of s d).place
unfolding good
due-step s v d due t ht came only-word true-word second h = by-asked asked refl
  where
    asked : Bool
    asked = asks (seen_of s.seen) s.mode s.place

    under : s.place < 512
    under = placed-under s.mode s.place v.place

    held : (b : Bool) → hunting s.mode ≡ b → asked ≡ false → hunting s.mode ≡ false
    held true q e = absurd (true≢false (sym (asks-hunting (seen_of s.seen) s.mode s.place q (rw (step-seen s d) at came)) ∙ e))
    held false q e = q

    before : (mode : Mode) (p : ℕ) → Placed mode p → (p + 1 ≡ check_at mode → ⊥) → p + 1 < 512
    before Hunting p q r = omega arith
    before WordFound p q r = omega arith
    before SecondSeen p q r = under-end q.1
      where
        under-end : p < 512 → p + 1 < 512
        under-end lt = omega arith
    before (Aligned m) p q r = omega arith

    by-asked : (b : Bool) → asked ≡ b → DueAt (due - 1) (next 512 t) (step_of s d).mode (step_of s d).place
    by-asked true e =
        rw ((after_turn s d e).0, (after_turn s d e).1)
        (due-turn t s.place ht under due s.mode (step_of s d).window d v.missed (asked-at (seen_of s.seen) s.mode s.place e)
        (λ g. only-word (eqb-true (step_of s d).window word_number g)) (λ z. eq-eqb (step_of s d).window word_number (true-word z)) second h)
    by-asked false e =
        let q = held (hunting s.mode) refl e in
        let no-check = eqb-false (s.place + 1) (check_at s.mode) (sym (asks-held (seen_of s.seen) s.mode s.place q) ∙ e) in
        rw ((after_on s d e).0, (after_on s d e).1, up_one s.mode s.place q)
        (due-up t s.place ht under due s.mode q v.missed (before s.mode s.place v.place no-check) h)

-- ---- along the line

module _ (s : State) (v : Valid s) (o : ℕ) (ds : List ℕ) (line : Line o ds) where
  abbrev after : ℕ → State
  after k = heard step_of s (take k ds)

  -- where after six digits at most `due` more are due, it is aligned at the true place after them
  aligned-by : (due : ℕ) → DueAt due (true_place o 6) (after 6).mode (after 6).place → (k : ℕ) → 6 + due ≤ k → k ≤ length ds → AlignedAt (true_place o k) (after k)
  unfolding window_of seen_of true_place
  aligned-by due start k enough w = record { mode = end.0; place = end.1 }
    where
      words : (i j : ℕ) → i < length ds → j < 7 → (o + i) % 512 ≡ 1 + j → get_or ds i 0 ≡ get_or (written 7 word_number) j 0
      words i j h lt e =
          let index : (o + i) % 512 - 1 ≡ j = omega arith in
          rw word-is (line.words i h (omega arith) (omega arith) ∙ rw index)

      second : (k : ℕ) → k < length ds → (o + suc k + 504) % 512 ≡ 250 → get_or ds k 0 ≡ 1
      second k h z = line.second_digits k h (omega arith)

      end : ((after k).mode ≡ Aligned 0) × ((after k).place ≡ true_place o k)
      end =
          let v' = heard-valid (take k ds) s v in
          settled (true_place o k) (after k).place (omega arith) (placed-under (after k).mode (after k).place v'.place) (after k).mode v'.missed
          (none_left step_of 512 7 1 504 1024 word_number refl (omega arith) (λ (s : State). s.window) (λ (s : State). s.seen) (λ (s : State). s.place) (λ (s : State). needs s.mode)
          (λ s d. step-window s d) (λ s d. step-seen s d) Valid (λ s v d. step-valid s v d) (λ s v. v.window) (omega arith) (λ (t d : ℕ). t ≡ 250 → d ≡ 1) due-step
          s v o ds line.binary words (λ i h e. line.no_others i h (rw word-is at e)) second due start k enough w)

  -- ---- from any valid state, after at most 2,565 digits of such a line the finder is aligned at the true place, and stays so while it lasts
  pub recovers : (k : ℕ) → 2565 ≤ k → k ≤ length ds → AlignedAt (true_place o k) (heard step_of s (take k ds))
  recovers = aligned-by 2559 (due-any (true_place o 6) (after 6).mode (after 6).place)

-- from a fresh state after at most 1,030: two words are there by then
pub found-from-fresh : (o : ℕ) (ds : List ℕ) → Line o ds
    → (k : ℕ) → 1030 ≤ k → k ≤ length ds → AlignedAt (true_place o k) (heard step_of fresh_state (take k ds))
found-from-fresh o ds line = aligned-by fresh_state fresh-valid o ds line 1024 (still first.mode first.place traced.valid.came)
  where
    first : State
    first = heard step_of fresh_state (take 6 ds)

    traced : Traced (take 6 ds) first
    traced = traced-on [] (take 6 ds) fresh_state traced-fresh (binary-take 6 ds line.binary)

    -- fewer than seven digits came: it hunts
    short : 7 ≤ first.seen → ⊥
    short q = omega (arith, traced.seen, length-take 6 ds)

    still : (mode : Mode) (p : ℕ) → (hunting mode ≡ false → 7 ≤ first.seen) → DueAt 1024 (true_place o 6) mode p
    still Hunting p came = omega arith
    still WordFound p came = absurd (short (came refl))
    still SecondSeen p came = absurd (short (came refl))
    still (Aligned m) p came = absurd (short (came refl))

-- ---- the same of the public call: pieces of such a line, fed in turn, each with its rest after a stop
pub calls-recover : (s : State) → Valid s → (ps : List Piece) → AllLent ps → (o : ℕ) → Line o (digits_in_all ps) → 2565 ≤ length (digits_in_all ps)
    → AlignedAt (true_place o (length (digits_in_all ps))) (left_by call_of s (calls_for_all call_of s ps))
calls-recover s v ps lent o line enough =
    let ds = digits_in_all ps in
    let whole : take (length ds) ds ≡ ds = take_all (length ds) ds (omega arith) in
    rw (as-the-stream s v ps lent).0 (rw whole at (recovers s v o ds line (length ds) enough (omega arith)))
