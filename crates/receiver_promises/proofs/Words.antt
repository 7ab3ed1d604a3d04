-- Good words and the history: "good" is that the word has just come; the hunt finds a word that was half received at a failed
-- check; three words lead from hunting to aligned, and the first frame handed over has three words behind it.
use mathlib.Core.Path.{◌≡◌, refl, sym, ap, ap₂, ◌∙◌}
use mathlib.Core.Bool.{Bool, true, false, ◌&&◌, true≢false}
use mathlib.Core.List.{List, [], ◌∷◌, ◌++◌, append_assoc, append-nil}
use Prim.Native.Nat.{ℕ, suc, ◌+◌, ◌-◌, ◌≤◌, ◌<◌}
use native.Mathlib.Omega.{arith}
use borrow.Author.Tests.{eqb-true, eqb-false, eq-eqb, le-leb}
use lib.Dec.{eqb}
use lib.ListN.{length, take}
use Rattle.digits.specs.Runs as runs
use Rattle.digits.specs.Digits.{Binary, written}
use Rattle.table.specs.declared.Row.{Row}
use Rattle.levels.specs.Table.{Shared}
use Rattle.modes.specs.declared.Mode.{Mode}
use Rattle.modes.specs.declared.Mode.TheVariants.{Hunting, OneFound, TwoFound, Aligned}
use Rattle.receiver.specs.declared.State.{State}
use Rattle.modes.specs.Modes.{hunting, seen_of, good, asks, judged, place_after}
use Rattle.pieces.specs.Frame.{aligned, ready_of}
use Rattle.receiver.specs.Feed.{core_of, fresh_state, after_of}
use Rattle.digits.specs.Histories.{last_of, ago}
use Rattle.receiver_promises.specs.History.{heard, ready_after, since, WordCame, ThreeWords}
use Rattle.digits.proofs.Written.{written-inj}
use Rattle.pieces.proofs.Holding.{word-within}
use Rattle.digits.proofs.Tests.{cond-told, and_both}
use Rattle.receiver.proofs.Validity.{asked-came}
use Rattle.digits.proofs.Lasts.{ago-none, ago-more, last-zeros}
use Rattle.receiver_promises.proofs.Traces.{Traced, traced-fresh, traced-more, traced-on, seen_more}
use Rattle.receiver_promises.proofs.Alignment.{asked-at, after_on, after_turn, frame-end, frame-ready}

module _ (row : Row) (sh : Shared row) where
  -- the window of a history of at least L digits is its last L digits
  pub window-kept : (ds : List ℕ) (s : State) → Traced row ds s → row.len ≤ length ds → written row.len s.window ≡ last_of row.len ds
  window-kept ds s t n = t.window ∙ last-zeros row.len ds n

  -- good is that the word has just come
  good-came : (ds : List ℕ) (s : State) → Traced row ds s → row.len ≤ length ds → good row s.window ≡ true → WordCame row ds
  unfolding good
  good-came ds s t n g =
      let e : s.window ≡ row.word = eqb-true s.window row.word g in
      record { enough = n; last = sym (window-kept ds s t n) ∙ rw e }

  came-good : (ds : List ℕ) (s : State) → Traced row ds s → WordCame row ds → good row s.window ≡ true
  unfolding good
  came-good ds s t w =
      eq-eqb s.window row.word
      (written-inj row.len s.window row.word t.valid.window sh.word_fits (window-kept ds s t w.enough ∙ w.last))

  -- ---- the hunt

  module _ (ds : List ℕ) (s : State) (t : Traced row ds s) (d : ℕ) (bin : d < 2) where
    abbrev more : List ℕ
    more = ds ++ (d ∷ [])

    after : Traced row more (after_of row s d)
    after = traced-more row sh ds s t d bin

    -- where the word is asked for, at least L digits came
    asked-enough : asks row (seen_of row s.seen) s.mode s.place ≡ true → row.len ≤ length more
    asked-enough e = omega (arith, asked-came row sh (core_of s) t.valid d e, seen_more row sh ds s t d bin)

    hunt-asks : s.mode ≡ Hunting → row.len ≤ length more → asks row (seen_of row s.seen) s.mode s.place ≡ true
    unfolding asks
    hunt-asks e n = rw e (le-leb row.len (seen_of row s.seen) (omega (arith, seen_more row sh ds s t d bin)))

    -- hunting, the word comes: one found
    pub found : s.mode ≡ Hunting → WordCame row more → ((after_of row s d).mode ≡ OneFound) × ((after_of row s d).place ≡ 0)
    found e w =
        let turn = after_turn row s d (hunt-asks e w.enough) in
        (turn.0 ∙ ap₂ judged e (came-good more (after_of row s d) after w), turn.1)

    -- hunting, it does not come: the hunt goes on
    hunts-on : s.mode ≡ Hunting → (WordCame row more → ⊥) → (after_of row s d).mode ≡ Hunting
    hunts-on e none = by-asked (asks row (seen_of row s.seen) s.mode s.place) refl
      where
        by-good : (g : Bool) → (g ≡ true → WordCame row more) → judged Hunting g ≡ Hunting
        by-good true came = absurd (none (came refl))
        by-good false came = refl

        by-asked : (b : Bool) → asks row (seen_of row s.seen) s.mode s.place ≡ b → (after_of row s d).mode ≡ Hunting
        by-asked true q =
            (after_turn row s d q).0
            ∙ ap (λ (m : Mode). judged m (good row (after_of row s d).window)) e
            ∙ by-good (good row (after_of row s d).window) (good-came more (after_of row s d) after (asked-enough q))
        by-asked false q = (after_on row s d q).0 ∙ e

  -- after any history that left it hunting, a failed check's too, the next word to come is found, wherever its digits began
  pub half-received : (es ds : List ℕ) (s : State) → Traced row ds s → s.mode ≡ Hunting → Binary es → 0 < length es
      → ((k : ℕ) → 0 < k → k < length es → WordCame row (ds ++ take k es) → ⊥)
      → WordCame row (ds ++ es)
      → ((heard row s es).mode ≡ OneFound) × ((heard row s es).place ≡ 0)
  unfolding runs.heard
  half-received [] ds s t e bin some none w = absurd (omega arith)
  half-received (d ∷ []) ds s t e bin some none w = found ds s t d (bin 0) e w
  half-received (d ∷ d' ∷ es) ds s t e bin some none w =
      half-received (d' ∷ es) (ds ++ (d ∷ [])) (after_of row s d) (traced-more row sh ds s t d (bin 0))
      (hunts-on ds s t d (bin 0) e (none 1 (omega arith) (omega arith)))
      (λ i. bin (suc i))
      (omega arith)
      (λ k lo hi q. none (suc k) (omega arith) (omega arith) (rw (append_assoc ds (d ∷ []) (take k (d' ∷ es))) at q))
      (rw (append_assoc ds (d ∷ []) (d' ∷ es)) w)

  -- ---- three good words, N digits apart, lead from hunting to aligned, and the third word's frame is ready at its last digit

  pub record Locked (s : State) (d : ℕ) (es₁ es₂ es₃ : List ℕ) : Type 0 where
    pub one_found : (heard row s (d ∷ [])).mode ≡ OneFound
    pub two_found : (heard row (heard row s (d ∷ [])) es₁).mode ≡ TwoFound
    pub aligned : (heard row (heard row (heard row s (d ∷ [])) es₁) es₂).mode ≡ Aligned 0
    pub ready : ready_of row (core_of (heard row (heard row (heard row (heard row s (d ∷ [])) es₁) es₂) es₃)) ≡ true

  pub locks : (ds : List ℕ) (s : State) → Traced row ds s → s.mode ≡ Hunting
      → (d : ℕ) (es₁ es₂ es₃ : List ℕ) → Binary (d ∷ []) → Binary es₁ → Binary es₂
      → length es₁ ≡ row.digits → length es₂ ≡ row.digits → length es₃ ≡ row.digits - row.len
      → WordCame row (ds ++ (d ∷ [])) → WordCame row (ds ++ (d ∷ []) ++ es₁) → WordCame row (ds ++ (d ∷ []) ++ es₁ ++ es₂)
      → Locked s d es₁ es₂ es₃
  unfolding runs.heard
  locks ds s t e d es₁ es₂ es₃ b b₁ b₂ l₁ l₂ l₃ w w₁ w₂ =
      let some : 0 < row.digits = omega (arith, sh.word_some, word-within row sh) in
      let s₀ = after_of row s d in
      let t₀ = traced-more row sh ds s t d (b 0) in
      let one = found ds s t d (b 0) e w in
      let s₁ = heard row s₀ es₁ in
      let t₁ = traced-on row sh (ds ++ (d ∷ [])) es₁ s₀ t₀ b₁ in
      let g₁ = came-good (ds ++ (d ∷ []) ++ es₁) s₁ t₁ w₁ in
      let end₁ = frame-end row s₀ (rw one.0) one.1 es₁ l₁ some in
      let two : s₁.mode ≡ TwoFound = end₁.0 ∙ ap₂ judged one.0 g₁ in
      let s₂ = heard row s₁ es₂ in
      let t₂ = traced-on row sh (ds ++ (d ∷ []) ++ es₁) es₂ s₁ t₁ b₂ in
      let g₂ = came-good (ds ++ (d ∷ []) ++ es₁ ++ es₂) s₂ t₂ w₂ in
      let end₂ = frame-end row s₁ (rw two) end₁.1 es₂ l₂ some in
      let three : s₂.mode ≡ Aligned 0 = end₂.0 ∙ ap₂ judged two g₂ in
      record {
        one_found = one.0;
        two_found = two;
        aligned = three;
        ready = frame-ready row s₂ (rw three) end₂.1 es₃ (omega (arith, sh.word_some, word-within row sh)) ∙ rw (three, eq-eqb (length es₃) (row.digits - row.len) l₃);
      }

  -- ---- the first frame handed over has three words behind it

  -- while no frame was ready yet
  abbrev Came : List ℕ → Mode → ℕ → Type 0
  Came ds Hunting p = Unit {0}
  Came ds OneFound p = WordCame row (ago p ds)
  Came ds TwoFound p = WordCame row (ago p ds) × WordCame row (ago (p + row.digits) ds)
  Came ds (Aligned m) p =
      (p ≤ row.digits - row.len)
      × WordCame row (ago p ds)
      × WordCame row (ago (p + row.digits) ds)
      × WordCame row (ago (p + (row.digits + row.digits)) ds)

  module _ (ds : List ℕ) (d : ℕ) where
    back : (k n : ℕ) → n ≡ suc k → WordCame row (ago k ds) → WordCame row (ago n (ds ++ (d ∷ [])))
    back k n e w = rw (e, ago-more k ds d) w

    came_up : (mode : Mode) (p : ℕ) → (aligned mode && eqb p (row.digits - row.len)) ≡ false → Came ds mode p → Came (ds ++ (d ∷ [])) mode (place_after mode p)
    unfolding place_after
    came_up Hunting p r c = tt
    came_up OneFound p r c = back p (p + 1) (omega arith) c
    came_up TwoFound p r c = (back p (p + 1) (omega arith) c.0, back (p + row.digits) (p + 1 + row.digits) (omega arith) c.1)
    came_up (Aligned m) p r c = (
      below (eqb-false p (row.digits - row.len) r),
      back p (p + 1) (omega arith) c.1,
      back (p + row.digits) (p + 1 + row.digits) (omega arith) c.2,
      back (p + (row.digits + row.digits)) (p + 1 + (row.digits + row.digits)) (omega arith) c.3,
    )
      where
        below : (p ≡ row.digits - row.len → ⊥) → p + 1 ≤ row.digits - row.len
        below n = omega (arith, c.0)

    came-turn : (mode : Mode) (p : ℕ) (g : Bool) → (hunting mode ≡ false → p + 1 ≡ row.digits) → (g ≡ true → WordCame row (ds ++ (d ∷ [])))
        → Came ds mode p → Came (ds ++ (d ∷ [])) (judged mode g) 0
    came-turn mode p g at word c = turn mode at c
      where
        here : g ≡ true → WordCame row (ago 0 (ds ++ (d ∷ [])))
        here q = rw (ago-none (ds ++ (d ∷ []))) (word q)

        turn : (mode : Mode) → (hunting mode ≡ false → p + 1 ≡ row.digits) → Came ds mode p → Came (ds ++ (d ∷ [])) (judged mode g) 0
        turn Hunting at c = cond-told (λ (m : Mode). Came (ds ++ (d ∷ [])) m 0) g here (λ _. tt)
        turn OneFound at c =
            cond-told (λ (m : Mode). Came (ds ++ (d ∷ [])) m 0) g
            (λ q. (here q, back p (0 + row.digits) (omega (arith, at refl)) c)) (λ _. tt)
        turn TwoFound at c =
            cond-told (λ (m : Mode). Came (ds ++ (d ∷ [])) m 0) g
            (λ q. (
              omega arith,
              here q,
              back p (0 + row.digits) (omega (arith, at refl)) c.0,
              back (p + row.digits) (0 + (row.digits + row.digits)) (omega (arith, at refl)) c.1,
            ))
            (λ _. tt)
        turn (Aligned m) at c = absurd (over (at refl) c.0)
          where
            over : p + 1 ≡ row.digits → p ≤ row.digits - row.len → ⊥
            over q r = omega (arith, sh.word_some, word-within row sh)

  came-one : (ds : List ℕ) (s : State) → Traced row ds s → (d : ℕ) → d < 2 → ready_of row (core_of s) ≡ false
      → Came ds s.mode s.place → Came (ds ++ (d ∷ [])) (after_of row s d).mode (after_of row s d).place
  unfolding ready_of
  came-one ds s t d bin r c = by-asked (asks row (seen_of row s.seen) s.mode s.place) refl
    where
      by-asked : (b : Bool) → asks row (seen_of row s.seen) s.mode s.place ≡ b → Came (ds ++ (d ∷ [])) (after_of row s d).mode (after_of row s d).place
      by-asked true e =
          rw ((after_turn row s d e).0, (after_turn row s d e).1)
          (came-turn ds d s.mode s.place (good row (after_of row s d).window) (asked-at row (seen_of row s.seen) s.mode s.place e)
          (good-came (ds ++ (d ∷ [])) (after_of row s d) (after ds s t d bin) (asked-enough ds s t d bin e)) c)
      by-asked false e = rw ((after_on row s d e).0, (after_on row s d e).1) (came_up ds d s.mode s.place r c)

  came-all : (es ds : List ℕ) (s : State) → Traced row ds s → Binary es
      → ((k : ℕ) → k < length es → ready_of row (core_of (heard row s (take k es))) ≡ false)
      → Came ds s.mode s.place → Came (ds ++ es) (heard row s es).mode (heard row s es).place
  unfolding runs.heard
  came-all [] ds s t bin none c = rw (append-nil ds) c
  came-all (d ∷ es) ds s t bin none c =
      rw (append_assoc ds (d ∷ []) es) at
      (came-all es (ds ++ (d ∷ [])) (after_of row s d) (traced-more row sh ds s t d (bin 0)) (λ i. bin (suc i)) (λ k h. none (suc k) (omega arith))
      (came-one ds s t d (bin 0) (none 0 (omega arith)) c))

  -- after reset, a failed check or a loss, whatever came before: a frame is ready, and none was since. Its word is the third to come
  pub first-frame-after : (ds : List ℕ) (s : State) → Traced row ds s → s.mode ≡ Hunting → (es : List ℕ) → Binary es
      → ((k : ℕ) → k < length es → ready_after row s (take k es) ≡ false)
      → ready_after row s es ≡ true
      → ThreeWords row (ds ++ es)
  unfolding ready_of
  first-frame-after ds s t e es bin none r =
      let end = heard row s es in
      let both = and_both (aligned end.mode) (eqb end.place (row.digits - row.len)) r in
      let at = eqb-true end.place (row.digits - row.len) both.1 in
      words end.mode both.0 (rw at at (came-all es ds s t bin none (rw e tt)))
    where
      words : (mode : Mode) → aligned mode ≡ true → Came (ds ++ es) mode (row.digits - row.len) → ThreeWords row (ds ++ es)
      words Hunting q c = absurd (true≢false (sym q))
      words OneFound q c = absurd (true≢false (sym q))
      words TwoFound q c = absurd (true≢false (sym q))
      words (Aligned m) q c = record { third = c.1; second = c.2; first = c.3 }

  -- from reset
  pub first_frame : (level : ℕ) (ds : List ℕ) → Binary ds
      → ((k : ℕ) → k < length ds → ready_of row (core_of (since row level (take k ds))) ≡ false)
      → ready_of row (core_of (since row level ds)) ≡ true
      → ThreeWords row ds
  first_frame level ds bin none r = first-frame-after [] (fresh_state level) (traced-fresh row sh level) refl ds bin none r
