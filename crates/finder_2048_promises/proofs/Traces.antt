-- The trace: what a state says of the history of digits since reset. From it what found and lost mean: alignment is found at the last digit of a
-- word, after a second digit of 1 and a word before that, and lost where three words in a row were wrong.
use mathlib.Core.Path.{◌≡◌, refl, sym, ap, ◌∙◌}
use mathlib.Core.Bool.{Bool, true, false, true≢false}
use mathlib.Core.List.{List, [], ◌∷◌, ◌++◌, append_assoc, append-nil}
use Prim.Native.Nat.{ℕ, zero, suc, ◌+◌, ◌*◌, ◌-◌, ◌^◌, ◌≤◌, ◌<◌, min}
use native.Mathlib.Omega.{arith}
use borrow.Author.Tests.{ltb-true, ltb-false, eqb-true, eq-eqb}
use lib.Dec.{eqb, ltb}
use lib.ListN.{length, take, replicate, length-append, drop_of_length-le}
use lib.Seq.{take-append_seam, get_or-append_seam}
use Rattle.digits.specs.Digits.{Binary, written}
use Rattle.digits.specs.Runs.{heard}
use Rattle.digits.specs.Histories.{last_of, ago, Came}
use Rattle.digits.proofs.Lists.{binary-take}
use Rattle.digits.proofs.Tests.{cond-told}
use Rattle.digits.proofs.Lasts.{ago-none, ago-more, last_more}
use Rattle.digits.proofs.Histories.{Recent, is-came, came-is, came-append, append-came}
use Rattle.digits.proofs.Runs.{heard-append}
use Rattle.finder_2048.specs.declared.Mode.{Mode}
use Rattle.finder_2048.specs.declared.Mode.TheVariants.{Hunting, WordFound, SecondSeen, Aligned}
use Rattle.finder_2048.specs.declared.State.{State}
use Rattle.finder_2048.specs.Modes.{hunting, aligned, word, word_number, seen_of, good, check_at, asks, passes, judged, place_then, place_after, step_of}
use Rattle.finder_2048.specs.Feed.{fresh_state, Valid}
use Rattle.finder_2048_promises.specs.History.{since, Found, Lost}
use Rattle.finder_2048.proofs.Validity.{fresh-valid, step-valid, asked-came}
use Rattle.finder_2048.proofs.Hurries.{recent-one}
use Rattle.finder_2048_promises.proofs.Alignment.{after_on, after_turn, step-window, step-seen, asked-at}

-- the word's number, written with seven digits
pub word-is : written 7 word_number ≡ word
unfolding written
word-is = refl

-- a good window is that the word has just come, once seven digits came
module _ (w : ℕ) (past ds : List ℕ) (t : Recent 7 w (past ++ ds)) where
  pub good-came : 7 ≤ length ds → good w ≡ true → Came word ds
  unfolding good
  good-came n g = came-append word past ds n (rw word-is at (is-came 7 w (past ++ ds) t word_number (eqb-true w word_number g)))

  pub came-good : w < 2 ^ 7 → Came word ds → good w ≡ true
  unfolding good
  came-good fits c = eq-eqb w word_number (came-is 7 w (past ++ ds) t word_number fits (omega arith) (rw word-is (append-came word past ds c)))

-- ---- what lies behind a mode: the words and the second digit that led to it

abbrev pub Behind : List ℕ → Mode → ℕ → Type 0
Behind ds Hunting p = Unit {0}
Behind ds WordFound p = Came word (ago p ds)
Behind ds SecondSeen p = (250 ≤ p) × Came (1 ∷ []) (ago (p - 250) ds) × Came word (ago p ds)
Behind ds (Aligned m) p = ((j : ℕ) → j < m → Came word (ago (p + 512 * j) ds) → ⊥) × Came word (ago (p + 512 * m) ds)

module _ (ds : List ℕ) (d : ℕ) where
  abbrev more : List ℕ
  more = ds ++ (d ∷ [])

  -- one digit ago
  back : (k n : ℕ) (xs : List ℕ) → n ≡ suc k → Came xs (ago k ds) → Came xs (ago n (ds ++ (d ∷ [])))
  back k n xs e c = rw (e, ago-more k ds d) c

  forth : (k n : ℕ) (xs : List ℕ) → n ≡ suc k → Came xs (ago n (ds ++ (d ∷ []))) → Came xs (ago k ds)
  forth k n xs e c = rw (e, ago-more k ds d) at c

  behind-up : (mode : Mode) (p : ℕ) → Behind ds mode p → Behind (ds ++ (d ∷ [])) mode (place_after mode p)
  unfolding place_after
  behind-up Hunting p b = tt
  behind-up WordFound p b = back p (p + 1) word (omega arith) b
  behind-up SecondSeen p b = (omega (arith, b.0), back (p - 250) (p + 1 - 250) (1 ∷ []) (omega (arith, b.0)) b.1, back p (p + 1) word (omega arith) b.2)
  behind-up (Aligned m) p b =
      (λ j h c. b.0 j h (forth (p + 512 * j) (p + 1 + 512 * j) word (omega arith) c), back (p + 512 * m) (p + 1 + 512 * m) word (omega arith) b.1)

  -- where the rule looks: what it finds has just come, and what it does not find has not
  behind-turn : (mode : Mode) (p : ℕ) (w : ℕ) → (hunting mode ≡ false → p + 1 ≡ check_at mode)
      → (good w ≡ true → Came word (ds ++ (d ∷ []))) → (good w ≡ false → Came word (ds ++ (d ∷ [])) → ⊥)
      → Behind ds mode p → Behind (ds ++ (d ∷ [])) (judged mode (passes mode w d)) (place_then (judged mode (passes mode w d)))
  behind-turn mode p w at yes-word no_word b = turn mode at b
    where
      none : ago 0 (ds ++ (d ∷ [])) ≡ ds ++ (d ∷ [])
      none = ago-none (ds ++ (d ∷ []))

      aligned-now : good w ≡ true → Behind (ds ++ (d ∷ [])) (Aligned 0) 0
      aligned-now g = (λ j h c. absurd (under j h), rw none (yes-word g))
        where
          under : (j : ℕ) → j < 0 → ⊥
          under j h = omega arith

      B : Mode → Type 0
      B mode = Behind (ds ++ (d ∷ [])) mode (place_then mode)

      turn : (mode : Mode) → (hunting mode ≡ false → p + 1 ≡ check_at mode) → Behind ds mode p → B (judged mode (passes mode w d))
      turn Hunting at b = cond-told B (good w) (λ g. rw none (yes-word g)) (λ _. tt)
      turn WordFound at b =
          cond-told B (eqb d 1)
          (λ g. (
            omega arith,
            rw none (last_one (eqb-true d 1 g)),
            back p 250 word (omega (arith, at refl)) b,
          ))
          (λ _. tt)
        where
          last_one : d ≡ 1 → Came (1 ∷ []) (ds ++ (d ∷ []))
          last_one e =
              record {
                enough = omega (arith, length-append ds (d ∷ []));
                last = last_more 0 ds d (omega arith) ∙ (rw (drop-whole, e));
              }
            where
              drop-whole : last_of 0 ds ≡ []
              drop-whole = drop_of_length-le ds {i = length ds - 0} (omega arith)
      turn SecondSeen at b = cond-told B (good w) aligned-now (λ _. tt)
      turn (Aligned m) at b =
          cond-told B (good w) aligned-now
          (λ g. cond-told B (eqb (m + 1) 3) (λ _. tt)
          (λ _. (missed_more (no_word g), back (p + 512 * m) (0 + 512 * (m + 1)) word (omega (arith, at refl)) b.1)))
        where
          missed_more : (Came word (ds ++ (d ∷ [])) → ⊥) → (j : ℕ) → j < m + 1 → Came word (ago (0 + 512 * j) (ds ++ (d ∷ []))) → ⊥
          missed_more bad zero h c = bad (rw none at c)
          missed_more bad (suc j) h c = b.0 j (omega arith) (forth (p + 512 * j) (0 + 512 * suc j) word (omega (arith, at refl)) c)

-- ---- the trace

pub record Traced (ds : List ℕ) (s : State) : Type 0 where
  pub valid : Valid s
  -- the window is the last seven digits, with zeros before the first digit that came
  pub recent : Recent 7 s.window (replicate 7 0 ++ ds)
  pub seen : s.seen ≡ min (length ds) 7
  pub behind : Behind ds s.mode s.place

pub traced-fresh : Traced [] fresh_state
unfolding written
traced-fresh =
    record {
      valid = fresh-valid;
      recent = record { long = omega arith; window = refl };
      seen = omega arith;
      behind = tt;
    }

module _ (ds : List ℕ) (s : State) (t : Traced ds s) (d : ℕ) (bin : d < 2) where
  more-length : length (ds ++ (d ∷ [])) ≡ suc (length ds)
  more-length = length-append ds (d ∷ []) ∙ omega arith

  pub recent-step : Recent 7 (step_of s d).window (replicate 7 0 ++ (ds ++ (d ∷ [])))
  recent-step =
      rw (step-window s d)
      (rw (append_assoc (replicate {A = ℕ} 7 0) ds (d ∷ [])) at (recent-one s.window d (replicate 7 0 ++ ds) bin t.recent))

  pub seen_more : seen_of s.seen ≡ min (length (ds ++ (d ∷ []))) 7
  unfolding seen_of
  seen_more =
      cond-told (λ (n : ℕ). n ≡ min (length (ds ++ (d ∷ []))) 7) (ltb s.seen 7)
      (λ e. omega (arith, t.seen, more-length, ltb-true s.seen 7 e))
      (λ e. omega (arith, t.seen, more-length, ltb-false s.seen 7 e))

  pub good-now : 7 ≤ length (ds ++ (d ∷ [])) → good (step_of s d).window ≡ true → Came word (ds ++ (d ∷ []))
  good-now = good-came (step_of s d).window (replicate 7 0) (ds ++ (d ∷ [])) recent-step

  pub now-good : Came word (ds ++ (d ∷ [])) → good (step_of s d).window ≡ true
  now-good = came-good (step_of s d).window (replicate 7 0) (ds ++ (d ∷ [])) recent-step (step-valid s t.valid d).window

  pub bad-none : good (step_of s d).window ≡ false → Came word (ds ++ (d ∷ [])) → ⊥
  bad-none g c = true≢false (sym (now-good c) ∙ g)

  -- where a rule looks, at least seven digits came
  pub asked-enough : asks (seen_of s.seen) s.mode s.place ≡ true → 7 ≤ length (ds ++ (d ∷ []))
  asked-enough e = omega (arith, asked-came s t.valid d e, seen_more)

  behind-step : Behind (ds ++ (d ∷ [])) (step_of s d).mode (step_of s d).place
  behind-step = by-asked (asks (seen_of s.seen) s.mode s.place) refl
    where
      by-asked : (b : Bool) → asks (seen_of s.seen) s.mode s.place ≡ b → Behind (ds ++ (d ∷ [])) (step_of s d).mode (step_of s d).place
      by-asked true e =
          rw ((after_turn s d e).0, (after_turn s d e).1)
          (behind-turn ds d s.mode s.place (step_of s d).window (asked-at (seen_of s.seen) s.mode s.place e)
          (good-now (asked-enough e)) bad-none t.behind)
      by-asked false e = rw ((after_on s d e).0, (after_on s d e).1) (behind-up ds d s.mode s.place t.behind)

  pub traced-more : Traced (ds ++ (d ∷ [])) (step_of s d)
  traced-more =
      record {
        valid = step-valid s t.valid d;
        recent = recent-step;
        seen = step-seen s d ∙ seen_more;
        behind = behind-step;
      }

  -- ---- what found and lost mean

  found-by : (mode : Mode) (g : Bool) → aligned mode ≡ false → aligned (judged mode g) ≡ true → (mode ≡ SecondSeen) × (g ≡ true)
  found-by Hunting true e q = absurd (true≢false (sym q))
  found-by Hunting false e q = absurd (true≢false (sym q))
  found-by WordFound true e q = absurd (true≢false (sym q))
  found-by WordFound false e q = absurd (true≢false (sym q))
  found-by SecondSeen true e q = (refl, refl)
  found-by SecondSeen false e q = absurd (true≢false (sym q))
  found-by (Aligned m) g e q = absurd (true≢false e)

  lost-by : (mode : Mode) (g : Bool) → aligned mode ≡ true → aligned (judged mode g) ≡ false → (mode ≡ Aligned 2) × (g ≡ false)
  lost-by Hunting g e q = absurd (true≢false (sym e))
  lost-by WordFound g e q = absurd (true≢false (sym e))
  lost-by SecondSeen g e q = absurd (true≢false (sym e))
  lost-by (Aligned m) true e q = absurd (true≢false q)
  lost-by (Aligned m) false e q =
      cond-told (λ (mode : Mode). aligned mode ≡ false → (Aligned m ≡ Aligned 2) × (false ≡ false)) (eqb (m + 1) 3)
      (λ h _. let two : m ≡ 2 = omega (arith, eqb-true (m + 1) 3 h) in (ap Aligned two, refl)) (λ _ r. absurd (true≢false r)) q

  pub found-means : aligned s.mode ≡ false → aligned (step_of s d).mode ≡ true → Found (ds ++ (d ∷ []))
  found-means before after = by-asked (asks (seen_of s.seen) s.mode s.place) refl
    where
      by-asked : (b : Bool) → asks (seen_of s.seen) s.mode s.place ≡ b → Found (ds ++ (d ∷ []))
      by-asked false e = absurd (true≢false (sym after ∙ ap aligned (after_on s d e).0 ∙ before))
      by-asked true e =
          let by = found-by s.mode (passes s.mode (step_of s d).window d) before (sym (ap aligned (after_turn s d e).0) ∙ after) in
          let at : s.place + 1 ≡ 512 = asked-at (seen_of s.seen) s.mode s.place e (rw by.0) ∙ ap check_at by.0 in
          let b = rw by.0 at t.behind in
          record {
            second_word = good-now (asked-enough e) (sym (ap (λ (m : Mode). passes m (step_of s d).window d) by.0) ∙ by.1);
            second_digit = back ds d (s.place - 250) 262 (1 ∷ []) (omega arith) b.1;
            first_word = back ds d s.place 512 word (omega arith) b.2;
          }

  pub lost-means : aligned s.mode ≡ true → aligned (step_of s d).mode ≡ false → Lost (ds ++ (d ∷ []))
  lost-means before after = by-asked (asks (seen_of s.seen) s.mode s.place) refl
    where
      by-asked : (b : Bool) → asks (seen_of s.seen) s.mode s.place ≡ b → Lost (ds ++ (d ∷ []))
      by-asked false e = absurd (true≢false (sym before ∙ sym (ap aligned (after_on s d e).0) ∙ after))
      by-asked true e =
          let by = lost-by s.mode (passes s.mode (step_of s d).window d) before (sym (ap aligned (after_turn s d e).0) ∙ after) in
          let at : s.place + 1 ≡ 512 = asked-at (seen_of s.seen) s.mode s.place e (rw by.0) ∙ ap check_at by.0 in
          wrong at (rw by.0 at t.behind).0 (sym (ap (λ (m : Mode). passes m (step_of s d).window d) by.0) ∙ by.1)
        where
          wrong : s.place + 1 ≡ 512 → ((j : ℕ) → j < 2 → Came word (ago (s.place + 512 * j) ds) → ⊥) → good (step_of s d).window ≡ false → Lost (ds ++ (d ∷ []))
          wrong at missed g zero h c = bad-none g (rw (ago-none (ds ++ (d ∷ []))) at c)
          wrong at missed g (suc j) h c = missed j (omega arith) (forth ds d (s.place + 512 * j) (512 * suc j) word (omega arith) c)

-- the trace goes on with every digit
pub traced-on : (ds es : List ℕ) (s : State) → Traced ds s → Binary es → Traced (ds ++ es) (heard step_of s es)
unfolding heard
traced-on ds [] s t bin = rw (append-nil ds) t
traced-on ds (e ∷ es) s t bin =
    rw (append_assoc ds (e ∷ []) es) at (traced-on (ds ++ (e ∷ [])) es (step_of s e) (traced-more ds s t e (bin 0)) (λ i. bin (suc i)))

pub traced : (ds : List ℕ) → Binary ds → Traced ds (since ds)
traced ds bin = traced-on [] ds fresh_state traced-fresh bin

-- ---- the same of the history since reset

binary-first : (ds : List ℕ) (d : ℕ) → Binary (ds ++ (d ∷ [])) → Binary ds
binary-first ds d bin =
    let e : take (length ds) (ds ++ (d ∷ [])) ≡ ds = take-append_seam ds (d ∷ []) in
    rw e at (binary-take (length ds) (ds ++ (d ∷ [])) bin)

binary-last : (ds : List ℕ) (d : ℕ) → Binary (ds ++ (d ∷ [])) → d < 2
binary-last ds d bin = rw (get_or-append_seam ds d [] 0) at (bin (length ds))

pub found-since : (ds : List ℕ) (d : ℕ) → Binary (ds ++ (d ∷ [])) → aligned (since ds).mode ≡ false → aligned (since (ds ++ (d ∷ []))).mode ≡ true
    → Found (ds ++ (d ∷ []))
unfolding heard
found-since ds d bin before after =
    found-means ds (since ds) (traced ds (binary-first ds d bin)) d (binary-last ds d bin) before (rw (heard-append step_of fresh_state ds (d ∷ [])) at after)

pub lost-since : (ds : List ℕ) (d : ℕ) → Binary (ds ++ (d ∷ [])) → aligned (since ds).mode ≡ true → aligned (since (ds ++ (d ∷ []))).mode ≡ false
    → Lost (ds ++ (d ∷ []))
unfolding heard
lost-since ds d bin before after =
    lost-means ds (since ds) (traced ds (binary-first ds d bin)) d (binary-last ds d bin) before (rw (heard-append step_of fresh_state ds (d ∷ [])) at after)
