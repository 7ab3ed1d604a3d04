-- A pattern's window moved on by eight digits at once: they are where the two stages do not differ.
use mathlib.Core.Path.{◌≡◌, refl, sym, ap, ◌∙◌}
use mathlib.Core.Bool.{Bool, true, false, cond}
use mathlib.Core.List.{List}
use Prim.Native.Nat.{ℕ, zero, suc, ◌+◌, ◌-◌, ◌*◌, ◌/◌, ◌%◌, ◌^◌, ◌≤◌, ◌<◌}
use native.Mathlib.Omega.{arith}
use native.Mathlib.Decide.{ℕ_discrete}
use native.Mathlib.Nat.{pow-suc, add-zero, add-suc, mul_assoc, le_of_lt, lt_of_lt_of_le}
use native.Mathlib.Numerals.{add-one}
use lib.Dec.{eqb}
use lib.ListN.{length, get_or, set, length-set}
use lib.Seq.{get_or-set_same, get_or-set_other}
use lib.Pow.{high, shr-shr, field, mod-mod-pow, mod-pow-add}
use lib.Bits.{bit_xor, xor_step, differ}
use Rattle.digits.specs.Digits.{digits_of}
use Rattle.digits.proofs.Laws.{by-digit, digit_at, digits-length, tab-of}
use Rattle.patterns.specs.Patterns.{OneOfTwo, stage_of, digit_ago, made_of, pushed, window_after, pattern_digits}
use Rattle.patterns.proofs.Windows.{window-lt}

-- n digits, and m more
pub window-cat : (pattern window n m : ℕ) → window_after pattern window (n + m) ≡ window_after pattern (window_after pattern window n) m
unfolding window_after
window-cat pattern window n zero = rw (add-zero n)
window-cat pattern window n (suc m) = rw (add-suc n m, window-cat pattern window n m)

one-or-none : (t : Bool) → cond {A = ℕ} t 1 0 < 2
one-or-none true = omega arith
one-or-none false = omega arith

pub made-lt : (pattern window : ℕ) → made_of pattern window < 2
unfolding made_of
made-lt pattern window = one-or-none (eqb (digit_ago (stage_of pattern) window) (digit_ago pattern window))

-- the k digits that come next, as a number
unfoldable made_to : ℕ → ℕ → ℕ → ℕ
made_to pattern window zero = 0
made_to pattern window (suc k) = made_to pattern window k * 2 + made_of pattern (window_after pattern window k)

made-fits : (pattern window k : ℕ) → made_to pattern window k < 2 ^ k
unfolding made_to
made-fits pattern window zero = omega arith
made-fits pattern window (suc k) = rw (pow-suc 2 k) (omega (arith, made-fits pattern window k, made-lt pattern (window_after pattern window k)))

-- they stand behind the window's own
window-by : (pattern window : ℕ) → window < 2 ^ 23 → (k : ℕ) → window_after pattern window k ≡ (window * 2 ^ k + made_to pattern window k) % 2 ^ 23
unfolding made_to window_after pushed
window-by pattern window h zero = omega arith
window-by pattern window h (suc k) =
    let more : window * 2 ^ suc k ≡ window * 2 ^ k * 2 = rw (pow-suc 2 k) (sym (mul_assoc window (2 ^ k) 2)) in
    rw (more, window-by pattern window h k) (omega arith)

-- a digit of the window so far is one of the window at first
digit-by : (window k e i : ℕ) → e < 2 ^ k → k ≤ i → i ≤ 22 → (window * 2 ^ k + e) % 2 ^ 23 / 2 ^ i % 2 ≡ window / 2 ^ (i - k) % 2
digit-by window k e i he lo hi =
    let n = window * 2 ^ k + e in
    let all : 23 ≡ (22 - i + 1) + i = omega arith in
    let up : i ≡ k + (i - k) = omega arith in
    let cut : n % 2 ^ 23 / 2 ^ i ≡ n / 2 ^ i % 2 ^ (22 - i + 1) = ap (λ (x : ℕ). n % 2 ^ x / 2 ^ i) all ∙ field n (22 - i + 1) i in
    let one : n / 2 ^ i % 2 ^ (22 - i + 1) % 2 ≡ n / 2 ^ i % 2 = mod-mod-pow (n / 2 ^ i) (22 - i) 1 in
    let down : n / 2 ^ i ≡ window / 2 ^ (i - k) = ap (λ (x : ℕ). n / 2 ^ x) up ∙ sym (shr-shr n k (i - k)) ∙ ap (λ (x : ℕ). x / 2 ^ (i - k)) (high window k he) in
    ap (λ (x : ℕ). x % 2) cut ∙ one ∙ ap (λ (x : ℕ). x % 2) down

-- the digit that comes after k of them
made_by : (pattern window : ℕ) → window < 2 ^ 23 → (k : ℕ) → k < 8 → 14 ≤ stage_of pattern → stage_of pattern ≤ 23 → 14 ≤ pattern → pattern ≤ 23
    → made_of pattern (window_after pattern window k) ≡ cond (eqb (window / 2 ^ (stage_of pattern - 1 - k) % 2) (window / 2 ^ (pattern - 1 - k) % 2)) 1 0
unfolding made_of
made_by pattern window h k few a b c d =
    rw (
      window-by pattern window h k,
      digit-by window k (made_to pattern window k) (stage_of pattern - 1) (made-fits pattern window k) (omega arith) (omega arith),
      digit-by window k (made_to pattern window k) (pattern - 1) (made-fits pattern window k) (omega arith) (omega arith),
    )

-- of two digits
one_way : (a b : ℕ) → a < 2 → b < 2 → cond (eqb a b) 1 0 + differ a b ≡ 1
one_way a b ha hb =
    by-digit (λ (a : ℕ). cond (eqb a b) 1 0 + differ a b ≡ 1) (by-digit (λ (b : ℕ). cond (eqb 0 b) 1 0 + differ 0 b ≡ 1) refl refl b hb)
    (by-digit (λ (b : ℕ). cond (eqb 1 b) 1 0 + differ 1 b ≡ 1) refl refl b hb)
    a
    ha

-- one digit more of a sum without carry
sum_more : (a b k : ℕ) → bit_xor a b % 2 ^ suc k ≡ bit_xor (a / 2) (b / 2) % 2 ^ k * 2 + differ (a % 2) (b % 2)
sum_more a b k =
    let way = one_way (a % 2) (b % 2) (omega arith) (omega arith) in
    let half : bit_xor a b / 2 ≡ bit_xor (a / 2) (b / 2) = omega (arith, xor_step a b, way) in
    let rest : bit_xor a b % 2 ≡ differ (a % 2) (b % 2) = omega (arith, xor_step a b, way) in
    let cut : bit_xor a b % 2 ^ (k + 1) ≡ bit_xor a b / 2 % 2 ^ k * 2 + bit_xor a b % 2 = mod-pow-add (bit_xor a b) k 1 in
    rw (half, rest, add-one k) at cut

add-up : (m o x y d z e w : ℕ) → w + d ≡ 1 → o ≡ w → y ≡ x * 2 + d → z ≡ e * 2 → m + x + 1 ≡ e → m * 2 + o + y + 1 ≡ z
add-up m o x y d z e w one eo ey ez so_far = omega arith

digit_lt : (n : ℕ) → n % 2 < 2
digit_lt n = omega arith

below : (k : ℕ) → suc k ≤ 8 → k < 14
below k h = omega arith

back_one : (n k : ℕ) → n - suc k ≡ n - 1 - k
back_one n k = omega arith

back-less : (n k : ℕ) → k < n → n - 1 - k + 1 ≡ n - k
back-less n k h = omega arith

-- the k digits are those that the two stages' sum without carry has not
module _ (pattern window : ℕ) (h : window < 2 ^ 23) (a : 14 ≤ stage_of pattern) (b : stage_of pattern ≤ 23) (c : 14 ≤ pattern) (d : pattern ≤ 23) where
  made-sum : (k : ℕ) → k ≤ 8 → made_to pattern window k + bit_xor (window / 2 ^ (stage_of pattern - k)) (window / 2 ^ (pattern - k)) % 2 ^ k + 1 ≡ 2 ^ k
  unfolding made_to
  made-sum zero few = omega arith
  made-sum (suc k) few =
      let s = stage_of pattern - 1 - k in
      let p = pattern - 1 - k in
      let near : k < 14 = below k few in
      let us : window / 2 ^ s / 2 ≡ window / 2 ^ (stage_of pattern - k) = shr-shr window s 1 ∙ ap (λ (x : ℕ). window / 2 ^ x) (back-less (stage_of pattern) k (lt_of_lt_of_le near a)) in
      let up : window / 2 ^ p / 2 ≡ window / 2 ^ (pattern - k) = shr-shr window p 1 ∙ ap (λ (x : ℕ). window / 2 ^ x) (back-less pattern k (lt_of_lt_of_le near c)) in
      let more : bit_xor (window / 2 ^ s) (window / 2 ^ p) % 2 ^ suc k ≡ bit_xor (window / 2 ^ (stage_of pattern - k)) (window / 2 ^ (pattern - k)) % 2 ^ k * 2 + differ (window / 2 ^ s % 2) (window / 2 ^ p % 2) =
      rw (us, up) at (sum_more (window / 2 ^ s) (window / 2 ^ p) k) in
      let way = one_way (window / 2 ^ s % 2) (window / 2 ^ p % 2) (digit_lt (window / 2 ^ s)) (digit_lt (window / 2 ^ p)) in
      let next = made_by pattern window h k few a b c d in
      rw (back_one (stage_of pattern) k, back_one pattern k) (add-up _ _ _ _ _ _ _ _ way next more (pow-suc 2 k) (made-sum k (le_of_lt few)))

-- both patterns' stages are far enough back
pub stages : (pattern : ℕ) → OneOfTwo pattern → (14 ≤ stage_of pattern) × (stage_of pattern ≤ 23) × (14 ≤ pattern) × (pattern ≤ 23)
stages pattern two =
    elim (ℕ_discrete pattern 15) [
      | yes e ↦ rw e (omega arith, omega arith, omega arith, omega arith)
      | no far ↦ rw (two far) (omega arith, omega arith, omega arith, omega arith)
    ]

-- in the code's terms
pub window-eight : (pattern window made x : ℕ) → OneOfTwo pattern → window < 2 ^ 23
    → made ≡ 255 - bit_xor (window / 2 ^ (stage_of pattern - 8)) (window / 2 ^ (pattern - 8)) % 256 → x ≡ (window * 256 + made) % 2 ^ 23
    → x ≡ window_after pattern window 8
window-eight pattern window made x two h em ex =
    let far = stages pattern two in
    let sum : made_to pattern window 8 + bit_xor (window / 2 ^ (stage_of pattern - 8)) (window / 2 ^ (pattern - 8)) % 256 + 1 ≡ 256 =
    made-sum pattern window h far.0 far.1 far.2 far.3 8 (omega arith) in
    let same : made ≡ made_to pattern window 8 = omega (arith, sum, em) in
    ex ∙ rw same (sym (window-by pattern window h 8))

-- eight more, in a run of them
pub eights-next : (pattern window n w x : ℕ) → w ≡ window_after pattern window (n * 8) → x ≡ window_after pattern w 8 → x ≡ window_after pattern window ((n + 1) * 8)
eights-next pattern window n w x ew ex =
    let e : n * 8 + 8 ≡ (n + 1) * 8 = omega arith in
    ex ∙ rw ew (sym (window-cat pattern window (n * 8) 8)) ∙ ap (λ (y : ℕ). window_after pattern window y) e

-- a window's first eight digits are those of the next windows
pub digit-on : (pattern window : ℕ) → window < 2 ^ 23 → (r : ℕ) → r ≤ 22 → window_after pattern window r / 2 ^ 22 % 2 ≡ window / 2 ^ (22 - r) % 2
digit-on pattern window h r few =
    rw (window-by pattern window h r) (digit-by window r (made_to pattern window r) 22 (made-fits pattern window r) few (omega arith))

-- the bytes so far
pub record Stored (pattern window n : ℕ) (bs : List ℕ) : Type 0 where
  pub size : length bs ≡ 128
  pub done : (i : ℕ) → i < n → get_or bs i 0 ≡ window_after pattern window (i * 8) / 2 ^ 15

pub stored_more : (pattern window n : ℕ) (bs : List ℕ) (b : ℕ) → n < 128 → Stored pattern window n bs → b ≡ window_after pattern window (n * 8) / 2 ^ 15
    → Stored pattern window (n + 1) (set bs n b)
stored_more pattern window n bs b h w e =
    record {
      size = length-set bs n b ∙ w.size;
      done =
          λ i hi.
          elim (ℕ_discrete i n) [
            | yes it ↦ rw (it, get_or-set_same bs n b 0 (omega (arith, w.size))) e
            | no far ↦ get_or-set_other bs n i b 0 far ∙ w.done i (omega (arith, far))
          ];
    }

pub stored-none : (pattern window : ℕ) (bs : List ℕ) → length bs ≡ 128 → Stored pattern window 0 bs
stored-none pattern window bs h = record { size = h; done = λ i hi. absurd (none i hi) }
  where
    none : (i : ℕ) → i < 0 → ⊥
    none i hi = omega arith

pub stored-all : (pattern window n : ℕ) (bs : List ℕ) → window < 2 ^ 23 → 128 ≤ n → Stored pattern window n bs → digits_of bs ≡ pattern_digits pattern window
unfolding pattern_digits
stored-all pattern window n bs h all w =
    tab-of (digits_of bs) 1024 (λ (i : ℕ). window_after pattern window i / 2 ^ 22 % 2) (omega (arith, digits-length bs, w.size)) each
  where
    each : (p : ℕ) → p < 1024 → get_or (digits_of bs) p 0 ≡ window_after pattern window p / 2 ^ 22 % 2
    each p hp =
        let v = window_after pattern window (p / 8 * 8) in
        let back : 15 + (7 - p % 8) ≡ 22 - p % 8 = omega arith in
        let whole : p / 8 * 8 + p % 8 ≡ p = omega arith in
        let byte : get_or bs (p / 8) 0 / 2 ^ (7 - p % 8) ≡ v / 2 ^ (22 - p % 8) =
        rw (w.done (p / 8) (omega arith)) (shr-shr v 15 (7 - p % 8) ∙ ap (λ (x : ℕ). v / 2 ^ x) back) in
        let on : window_after pattern v (p % 8) ≡ window_after pattern window p = sym (window-cat pattern window (p / 8 * 8) (p % 8)) ∙ ap (λ (x : ℕ). window_after pattern window x) whole in
        digit_at bs p
        ∙ ap (λ (x : ℕ). x % 2) byte
        ∙ sym (digit-on pattern v (window-lt pattern window (p / 8 * 8) h) (p % 8) (omega arith))
        ∙ ap (λ (x : ℕ). x / 2 ^ 22 % 2) on
