-- The digits of a reading that are a pattern's: the first 23 are a window, and all others follow the recurrence.
use mathlib.Core.Path.{◌≡◌, sym, ap, ◌∙◌}
use mathlib.Core.Bool.{cond}
use mathlib.Core.List.{List}
use Prim.Native.Nat.{ℕ, zero, suc, ◌+◌, ◌-◌, ◌*◌, ◌/◌, ◌%◌, ◌^◌, ◌≤◌, ◌<◌}
use native.Mathlib.Omega.{arith}
use native.Mathlib.Decide.{ℕ_discrete, dec_lt}
use native.Mathlib.Nat.{div-eq_of_lt, div-one}
use lib.Dec.{eqb}
use lib.ListN.{length, get_or, take}
use lib.Pow.{shr-shr, split}
use borrow.Author.Tests.{ne_eqb}
use Rattle.digits.specs.Digits.{Binary, window_at}
use Rattle.digits.proofs.Sums.{sum-zero}
use Rattle.digits.proofs.Windows.{window-first}
use Rattle.judge.specs.Wrong.{made_from, due_at, wrong_at, wrong_in}
use Rattle.judge.specs.Counting.{Known, wrong_among}
use Rattle.judge.proofs.Counted.{wrong-counted}
use Rattle.patterns.specs.Patterns.{OneOfTwo, stage_of, digit_ago, made_of, pushed, window_after}
use Rattle.patterns.proofs.Windows.{some_pattern, window-lt}
use Rattle.patterns.proofs.Eights.{window-cat, made-lt, digit-on, stages}

-- digit i of the pattern from a window on
abbrev pub sent_digit : ℕ → ℕ → ℕ → ℕ
sent_digit pattern window i = window_after pattern window i / 2 ^ 22 % 2

pub known : (pattern : ℕ) → OneOfTwo pattern → Known pattern
known pattern two =
    elim (ℕ_discrete pattern 15) [
      | yes e ↦ rw e (record { short = omega arith; stage = λ _. omega arith })
      | no far ↦ rw (two far) (record { short = omega arith; stage = λ _. omega arith })
    ]

module _ (pattern window : ℕ) (two : OneOfTwo pattern) (h : window < 2 ^ 23) where
  sent-on : (m r : ℕ) → sent_digit pattern (window_after pattern window m) r ≡ sent_digit pattern window (m + r)
  sent-on m r = ap (λ (w : ℕ). w / 2 ^ 22 % 2) (sym (window-cat pattern window m r))

  -- a digit of the window after m
  sent-ago : (m k : ℕ) → 1 ≤ k → k ≤ 23 → digit_ago k (window_after pattern window m) ≡ sent_digit pattern window (m + (23 - k))
  sent-ago m k lo hi =
      let e : 22 - (23 - k) ≡ k - 1 = omega arith in
      let v = window_after pattern window m in
      ap (λ (i : ℕ). v / 2 ^ i % 2) (sym e) ∙ sym (digit-on pattern v (window-lt pattern window m h) (23 - k) (omega arith)) ∙ sent-on m (23 - k)

  last-digit : (v d : ℕ) → d < 2 → (v * 2 + d) % 2 ^ 23 / 2 ^ 0 % 2 ≡ d
  last-digit v d hd = omega arith

  -- the first that is made comes out 23 digits on
  sent-made : (m : ℕ) → sent_digit pattern window (m + 23) ≡ made_of pattern (window_after pattern window m)
  unfolding window_after pushed
  sent-made m =
      let v = window_after pattern window m in
      let e : m + 23 ≡ m + 1 + 22 = omega arith in
      let one : window_after pattern window (m + 1) ≡ window_after pattern v 1 = window-cat pattern window m 1 in
      ap (sent_digit pattern window) e
      ∙ sym (sent-on (m + 1) 22)
      ∙ digit-on pattern (window_after pattern window (m + 1)) (window-lt pattern window (m + 1) h) 22 (omega arith)
      ∙ ap (λ (w : ℕ). w / 2 ^ 0 % 2) one
      ∙ last-digit v (made_of pattern v) (made-lt pattern v)

  module _ (ds : List ℕ) (bin : Binary ds) where
    window-digit : (p n k : ℕ) → k < n → window_at ds p n / 2 ^ (n - suc k) % 2 ≡ get_or ds (p + k) 0
    unfolding window_at
    window-digit p n k l =
        let e : n ≡ suc k + (n - suc k) = omega arith in
        let cut : window_at ds p n / 2 ^ (n - suc k) ≡ window_at ds p (suc k) =
        ap (λ (m : ℕ). window_at ds p m / 2 ^ (n - suc k)) e ∙ window-first ds bin p (suc k) (n - suc k) in
        ap (λ (x : ℕ). x % 2) cut ∙ last (window_at ds p k) (get_or ds (p + k) 0) (bin (p + k))
      where
        last : (x d : ℕ) → d < 2 → (x * 2 + d) % 2 ≡ d
        last x d hd = omega arith

    -- the first 23
    first_made : window_at ds 0 23 ≡ window → (j : ℕ) → j < 23 → get_or ds j 0 ≡ sent_digit pattern window j
    first_made e j hj =
        let back : 23 - suc j ≡ 22 - j = omega arith in
        let z : 0 + j ≡ j = omega arith in
        ap (λ (i : ℕ). get_or ds i 0) (sym z)
        ∙ sym (window-digit 0 23 j hj)
        ∙ rw (e, back) (sym (digit-on pattern window h j (omega arith)))

    -- and one after the other
    next-made : (m : ℕ) → ((j : ℕ) → j < 23 + m → get_or ds j 0 ≡ sent_digit pattern window j) → get_or ds (23 + m) 0 ≡ made_from pattern ds (23 + m)
        → get_or ds (23 + m) 0 ≡ sent_digit pattern window (23 + m)
    unfolding made_of
    next-made m so_far here =
        let far = stages pattern two in
        let a : m + (23 - stage_of pattern) ≡ 23 + m - stage_of pattern = omega (arith, far.1) in
        let b : m + (23 - pattern) ≡ 23 + m - pattern = omega (arith, far.3) in
        let c : m + 23 ≡ 23 + m = omega arith in
        let one : get_or ds (23 + m - stage_of pattern) 0 ≡ digit_ago (stage_of pattern) (window_after pattern window m) =
        so_far (23 + m - stage_of pattern) (omega (arith, far.0)) ∙ rw (← a) (sym (sent-ago m (stage_of pattern) (omega (arith, far.0)) far.1)) in
        let other : get_or ds (23 + m - pattern) 0 ≡ digit_ago pattern (window_after pattern window m) =
        so_far (23 + m - pattern) (omega (arith, far.2)) ∙ rw (← b) (sym (sent-ago m pattern (omega (arith, far.2)) far.3)) in
        here ∙ rw (one, other) (sym (sent-made m) ∙ ap (sent_digit pattern window) c)

    all_made : (m : ℕ) → window_at ds 0 23 ≡ window → ((i : ℕ) → i < 23 + m → pattern ≤ i → get_or ds i 0 ≡ made_from pattern ds i)
        → (j : ℕ) → j < 23 + m → get_or ds j 0 ≡ sent_digit pattern window j
    all_made zero e follows j hj = first_made e j (omega arith)
    all_made (suc m) e follows j hj =
        let old = all_made m e (λ i hi lo. follows i (omega arith) lo) in
        elim (dec_lt j (23 + m)) [
          | yes l ↦ old j l
          | no l ↦
              let it : j ≡ 23 + m = omega arith in
              rw it (next-made m old (follows (23 + m) (omega arith) (omega (arith, (stages pattern two).3))))
        ]

    -- no digit is wrong: each is what the recurrence makes
    follows-all : (sent : List ℕ) (n : ℕ) → n ≤ length ds → wrong_in pattern sent (take n ds) ≡ 0 → (i : ℕ) → i < n → pattern ≤ i → get_or ds i 0 ≡ made_from pattern ds i
    unfolding wrong_among due_at
    follows-all sent n size none i hi lo =
        let k = i - pattern in
        let e : pattern + k ≡ i = omega arith in
        let zero-there : wrong_at pattern sent ds (pattern + k) ≡ 0 =
        sum-zero (n - pattern) (λ (k : ℕ). wrong_at pattern sent ds (pattern + k)) (wrong-counted pattern ds sent n size ∙ none) k (omega arith) in
        rw e at (same (get_or ds (pattern + k) 0) (made_from pattern ds (pattern + k)) (rw (ne_eqb pattern 0 (some_pattern pattern two)) at zero-there))
      where
        other : ◌≡◌ {A = ℕ} 1 0 → ⊥
        other z = omega arith

        same : (x y : ℕ) → ◌≡◌ {A = ℕ} (cond (eqb x y) 0 1) 0 → x ≡ y
        same x y z = elim (ℕ_discrete x y) [ yes it ↦ it | no far ↦ absurd (other (rw (ne_eqb x y far) at z)) ]

    -- in the code's terms
    pub made_all : (sent : List ℕ) (n : ℕ) → 23 ≤ n → n ≤ length ds → window_at ds 0 23 ≡ window → wrong_in pattern sent (take n ds) ≡ 0
        → (j : ℕ) → j < n → get_or ds j 0 ≡ sent_digit pattern window j
    made_all sent n some size e none j hj =
        let all : 23 + (n - 23) ≡ n = omega arith in
        all_made (n - 23) e (λ i hi lo. follows-all sent n size none i (omega arith) lo) j (omega arith)

    -- 23 digits among them are a window
    window-to : (p n : ℕ) → n ≤ 23 → ((k : ℕ) → k < n → get_or ds (p + k) 0 ≡ sent_digit pattern window (p + k)) → window_at ds p n ≡ window_after pattern window p / 2 ^ (23 - n)
    unfolding window_at
    window-to p zero l same = sym (div-eq_of_lt (window-lt pattern window p h))
    window-to p (suc n) l same =
        let v = window_after pattern window p in
        let e : 23 - n ≡ 23 - suc n + 1 = omega arith in
        let back : 22 - n ≡ 23 - suc n = omega arith in
        let digit : get_or ds (p + n) 0 ≡ v / 2 ^ (23 - suc n) % 2 =
        same n (omega arith) ∙ sym (sent-on p n) ∙ digit-on pattern v (window-lt pattern window p h) n (omega arith) ∙ ap (λ (i : ℕ). v / 2 ^ i % 2) back in
        rw (window-to p n (omega arith) (λ k hk. same k (omega arith)), digit, e, ← shr-shr v (23 - suc n) 1) (split (v / 2 ^ (23 - suc n)) 1)

    window-found : (p : ℕ) → ((k : ℕ) → k < p + 23 → get_or ds k 0 ≡ sent_digit pattern window k) → window_at ds p 23 ≡ window_after pattern window p
    window-found p same = window-to p 23 (omega arith) (λ k hk. same (p + k) (omega arith)) ∙ div-one (window_after pattern window p)

pub window-behind : (pattern window : ℕ) → OneOfTwo pattern → window < 2 ^ 23 → (ds : List ℕ) → Binary ds → (n w r : ℕ) → 23 ≤ n
    → ((j : ℕ) → j < n → get_or ds j 0 ≡ sent_digit pattern (window_after pattern window 8) j) → w ≡ window_at ds (n - 23) 23 → r ≡ window_after pattern w 15
    → r ≡ window_after pattern window n
window-behind pattern window two h ds bin n w r long same ew er =
    let v = window_after pattern window 8 in
    let found : window_at ds (n - 23) 23 ≡ window_after pattern v (n - 23) =
    window-found pattern v two (window-lt pattern window 8 h) ds bin (n - 23) (λ k hk. same k (omega arith)) in
    let e : 8 + (n - 23 + 15) ≡ n = omega arith in
    er
    ∙ ap (λ (x : ℕ). window_after pattern x 15) (ew ∙ found)
    ∙ sym (window-cat pattern v (n - 23) 15)
    ∙ sym (window-cat pattern window 8 (n - 23 + 15))
    ∙ ap (window_after pattern window) e
