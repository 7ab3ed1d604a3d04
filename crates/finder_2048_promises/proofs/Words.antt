-- The table row by row, in the history: the hunt finds the next word to come, one half received at a failed check too; a word, a second digit of 1
-- and a word align; a check that fails leads back to the hunt; one and two missed words keep alignment, the third loses it.
use mathlib.Core.Path.{◌≡◌, refl, ap, ◌∙◌}
use mathlib.Core.Bool.{Bool, cond, true, false}
use mathlib.Core.List.{List, [], ◌∷◌, ◌++◌, append_assoc}
use Prim.Native.Nat.{ℕ, suc, ◌+◌, ◌≤◌, ◌<◌}
use native.Mathlib.Omega.{arith}
use borrow.Author.Tests.{le-leb, ne_eqb}
use lib.Dec.{eqb}
use lib.ListN.{length, take, replicate}
use Rattle.digits.specs.Digits.{Binary}
use Rattle.digits.specs.Runs.{heard}
use Rattle.digits.specs.Histories.{Came}
use Rattle.finder_2048.specs.declared.Mode.{Mode}
use Rattle.finder_2048.specs.declared.Mode.TheVariants.{Hunting, WordFound, SecondSeen, Aligned}
use Rattle.finder_2048.specs.declared.State.{State}
use Rattle.finder_2048.specs.Modes.{word, seen_of, good, asks, passes, judged, place_then, step_of}
use Rattle.finder_2048.specs.Feed.{Valid}
use Rattle.finder_2048_promises.specs.History.{Missed}
use Rattle.finder_2048_promises.proofs.Pieces.{heard-valid}
use Rattle.finder_2048_promises.proofs.Alignment.{after_on, after_turn, arrives}
use Rattle.finder_2048_promises.proofs.Traces.{Traced, traced-more, traced-on, seen_more, good-now, now-good, asked-enough, came-good}

-- ---- the hunt

module _ (ds : List ℕ) (s : State) (t : Traced ds s) (d : ℕ) (bin : d < 2) where
  hunt-asks : s.mode ≡ Hunting → 7 ≤ length (ds ++ (d ∷ [])) → asks (seen_of s.seen) s.mode s.place ≡ true
  unfolding asks
  hunt-asks e n = rw e (le-leb 7 (seen_of s.seen) (omega (arith, seen_more ds s t d bin)))

  -- hunting, the word comes
  pub found : s.mode ≡ Hunting → Came word (ds ++ (d ∷ [])) → ((step_of s d).mode ≡ WordFound) × ((step_of s d).place ≡ 0)
  found e c =
      let turn = after_turn s d (hunt-asks e c.enough) in
      let now : judged s.mode (passes s.mode (step_of s d).window d) ≡ WordFound =
      ap (λ (m : Mode). judged m (passes m (step_of s d).window d)) e ∙ ap (judged Hunting) (now-good ds s t d bin c) in
      (turn.0 ∙ now, turn.1 ∙ ap place_then now)

  -- hunting, it does not come: the hunt goes on
  hunts-on : s.mode ≡ Hunting → (Came word (ds ++ (d ∷ [])) → ⊥) → (step_of s d).mode ≡ Hunting
  hunts-on e none = by-asked (asks (seen_of s.seen) s.mode s.place) refl
    where
      by-good : (g : Bool) → (g ≡ true → Came word (ds ++ (d ∷ []))) → judged Hunting g ≡ Hunting
      by-good true came = absurd (none (came refl))
      by-good false came = refl

      by-asked : (b : Bool) → asks (seen_of s.seen) s.mode s.place ≡ b → (step_of s d).mode ≡ Hunting
      by-asked true q =
          (after_turn s d q).0
          ∙ ap (λ (m : Mode). judged m (passes m (step_of s d).window d)) e
          ∙ by-good (good (step_of s d).window) (good-now ds s t d bin (asked-enough ds s t d bin q))
      by-asked false q = (after_on s d q).0 ∙ e

-- after any history that left it hunting, a failed check's too, the next word to come is found, wherever its digits began
pub half-received : (es ds : List ℕ) (s : State) → Traced ds s → s.mode ≡ Hunting → Binary es → 0 < length es
    → ((k : ℕ) → 0 < k → k < length es → Came word (ds ++ take k es) → ⊥)
    → Came word (ds ++ es)
    → ((heard step_of s es).mode ≡ WordFound) × ((heard step_of s es).place ≡ 0)
unfolding heard
half-received [] ds s t e bin some none c = absurd (omega arith)
half-received (d ∷ []) ds s t e bin some none c = found ds s t d (bin 0) e c
half-received (d ∷ d' ∷ es) ds s t e bin some none c =
    half-received (d' ∷ es) (ds ++ (d ∷ [])) (step_of s d) (traced-more ds s t d (bin 0))
    (hunts-on ds s t d (bin 0) e (none 1 (omega arith) (omega arith)))
    (λ i. bin (suc i))
    (omega arith)
    (λ k lo hi q. none (suc k) (omega arith) (omega arith) (rw (append_assoc ds (d ∷ []) (take k (d' ∷ es))) at q))
    (rw (append_assoc ds (d ∷ []) (d' ∷ es)) c)

-- ---- the check of the second digit, 250 digits after the word's last

module _ (s : State) (v : Valid s) (e : s.mode ≡ WordFound) (z : s.place ≡ 0) (es : List ℕ) (l : length es ≡ 249) where
  second-due : (d : ℕ) → ((heard step_of s (es ++ (d ∷ []))).mode ≡ judged WordFound (eqb d 1)) × ((heard step_of s (es ++ (d ∷ []))).place ≡ place_then (judged WordFound (eqb d 1)))
  second-due d =
      let end = arrives s v (rw e) es d (rw (e, z, l)) in
      let w = (heard step_of s (es ++ (d ∷ []))).window in
      (end.0 ∙ ap (λ (m : Mode). judged m (passes m w d)) e, end.1 ∙ ap (λ (m : Mode). place_then (judged m (passes m w d))) e)

  pub second-passes : ((heard step_of s (es ++ (1 ∷ []))).mode ≡ SecondSeen) × ((heard step_of s (es ++ (1 ∷ []))).place ≡ 250)
  second-passes = second-due 1

  -- the hunt goes on with the next digit; `half-received` says that the window is kept
  pub second-fails : ((heard step_of s (es ++ (0 ∷ []))).mode ≡ Hunting) × ((heard step_of s (es ++ (0 ∷ []))).place ≡ 0)
  second-fails = second-due 0

-- ---- the check of the second word, 512 digits after the first

module _ (s : State) (v : Valid s) (e : s.mode ≡ SecondSeen) (z : s.place ≡ 250) (es : List ℕ) (d : ℕ) (l : length es ≡ 261) where
  pub word-due : (heard step_of s (es ++ (d ∷ []))).mode ≡ judged SecondSeen (good (heard step_of s (es ++ (d ∷ []))).window)
  word-due =
      let end = arrives s v (rw e) es d (rw (e, z, l)) in
      end.0 ∙ ap (λ (m : Mode). judged m (passes m (heard step_of s (es ++ (d ∷ []))).window d)) e

-- ---- a word, a second digit of 1 one frame later and a word after that lead from hunting to aligned

pub record Locked (s : State) (d : ℕ) (es₁ es₂ : List ℕ) (e : ℕ) : Type 0 where
  pub word_found : (heard step_of s (d ∷ [])).mode ≡ WordFound
  pub second_seen : (heard step_of (heard step_of s (d ∷ [])) (es₁ ++ (1 ∷ []))).mode ≡ SecondSeen
  pub aligned : (heard step_of (heard step_of (heard step_of s (d ∷ [])) (es₁ ++ (1 ∷ []))) (es₂ ++ (e ∷ []))).mode ≡ Aligned 0

pub locks : (ds : List ℕ) (s : State) → Traced ds s → s.mode ≡ Hunting
    → (d : ℕ) (es₁ es₂ : List ℕ) (e : ℕ) → Binary (d ∷ []) → Binary (es₁ ++ (1 ∷ [])) → Binary (es₂ ++ (e ∷ []))
    → length es₁ ≡ 249 → length es₂ ≡ 261
    → Came word (ds ++ (d ∷ [])) → Came word (ds ++ (d ∷ []) ++ (es₁ ++ (1 ∷ [])) ++ (es₂ ++ (e ∷ [])))
    → Locked s d es₁ es₂ e
unfolding heard
locks ds s t m d es₁ es₂ e b b₁ b₂ l₁ l₂ c c₂ =
    let s₀ = step_of s d in
    let t₀ = traced-more ds s t d (b 0) in
    let one = found ds s t d (b 0) m c in
    let s₁ = heard step_of s₀ (es₁ ++ (1 ∷ [])) in
    let t₁ = traced-on (ds ++ (d ∷ [])) (es₁ ++ (1 ∷ [])) s₀ t₀ b₁ in
    let two = second-passes s₀ t₀.valid one.0 one.1 es₁ l₁ in
    let s₂ = heard step_of s₁ (es₂ ++ (e ∷ [])) in
    let t₂ = traced-on (ds ++ (d ∷ []) ++ (es₁ ++ (1 ∷ []))) (es₂ ++ (e ∷ [])) s₁ t₁ b₂ in
    let g : good s₂.window ≡ true = came-good s₂.window (replicate 7 0) (ds ++ (d ∷ []) ++ (es₁ ++ (1 ∷ [])) ++ (es₂ ++ (e ∷ []))) t₂.recent t₂.valid.window c₂ in
    record {
      word_found = one.0;
      second_seen = two.0;
      aligned = word-due s₁ t₁.valid two.0 two.1 es₂ e l₂ ∙ ap (judged SecondSeen) g;
    }

-- ---- aligned: only the words are looked at

then-none : (m : ℕ) (g : Bool) → place_then (judged (Aligned m) g) ≡ 0
then-none m true = refl
then-none m false = by_three (eqb (m + 1) 3)
  where
    by_three : (b : Bool) → place_then (cond b Hunting (Aligned (m + 1))) ≡ 0
    by_three true = refl
    by_three false = refl

-- two frames: 512 digits, at whose end a word is due
module _ (m : ℕ) (s : State) (v : Valid s) (e : s.mode ≡ Aligned m) (z : s.place ≡ 0) (es : List ℕ) (d : ℕ) (l : length es ≡ 511) where
  pub frames-end : ((heard step_of s (es ++ (d ∷ []))).mode ≡ judged (Aligned m) (good (heard step_of s (es ++ (d ∷ []))).window))
      × ((heard step_of s (es ++ (d ∷ []))).place ≡ 0)
  frames-end =
      let end = arrives s v (rw e) es d (rw (e, z, l)) in
      let w = (heard step_of s (es ++ (d ∷ []))).window in (
        end.0 ∙ ap (λ (m : Mode). judged m (passes m w d)) e,
        end.1 ∙ ap (λ (m : Mode). place_then (judged m (passes m w d))) e ∙ then-none m (good w),
      )

  pub word_kept : good (heard step_of s (es ++ (d ∷ []))).window ≡ true → (heard step_of s (es ++ (d ∷ []))).mode ≡ Aligned 0
  word_kept g = frames-end.0 ∙ ap (judged (Aligned m)) g

  -- the first and second word missed in a row leave it aligned
  pub missed-on : m ≤ 1 → good (heard step_of s (es ++ (d ∷ []))).window ≡ false → (heard step_of s (es ++ (d ∷ []))).mode ≡ Aligned (m + 1)
  missed-on few g = frames-end.0 ∙ ap (judged (Aligned m)) g ∙ rw (ne_eqb (m + 1) 3 (λ q. omega arith))

  -- the third does not
  pub missed-out : m ≡ 2 → good (heard step_of s (es ++ (d ∷ []))).window ≡ false → (heard step_of s (es ++ (d ∷ []))).mode ≡ Hunting
  missed-out two g = frames-end.0 ∙ ap (judged (Aligned m)) g ∙ rw two

-- three missed words in a row, chained
pub loses : (s : State) → Valid s → s.mode ≡ Aligned 0 → s.place ≡ 0 → (xs : List ℕ) (x : ℕ) (ys : List ℕ) (y : ℕ) (zs : List ℕ) (z' : ℕ)
    → Missed s xs x → Missed (heard step_of s (xs ++ (x ∷ []))) ys y
    → Missed (heard step_of (heard step_of s (xs ++ (x ∷ []))) (ys ++ (y ∷ []))) zs z'
    → ((heard step_of s (xs ++ (x ∷ []))).mode ≡ Aligned 1)
    × ((heard step_of (heard step_of s (xs ++ (x ∷ []))) (ys ++ (y ∷ []))).mode ≡ Aligned 2)
    × ((heard step_of (heard step_of (heard step_of s (xs ++ (x ∷ []))) (ys ++ (y ∷ []))) (zs ++ (z' ∷ []))).mode ≡ Hunting)
loses s v e z xs x ys y zs z' ma mb mc =
    let s₁ = heard step_of s (xs ++ (x ∷ [])) in
    let v₁ = heard-valid (xs ++ (x ∷ [])) s v in
    let one = missed-on 0 s v e z xs x ma.size (omega arith) ma.bad in
    let z₁ = (frames-end 0 s v e z xs x ma.size).1 in
    let s₂ = heard step_of s₁ (ys ++ (y ∷ [])) in
    let v₂ = heard-valid (ys ++ (y ∷ [])) s₁ v₁ in
    let two = missed-on 1 s₁ v₁ one z₁ ys y mb.size (omega arith) mb.bad in
    let z₂ = (frames-end 1 s₁ v₁ one z₁ ys y mb.size).1 in
    (one, two, missed-out 2 s₂ v₂ two z₂ zs z' mc.size refl mc.bad)
