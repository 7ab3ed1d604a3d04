-- Laws of the window after many digits, and of a word that none of the windows on the way is.
use mathlib.Core.Path.{◌≡◌, sym, ap, ◌∙◌}
use mathlib.Core.Bool.{false}
use mathlib.Core.List.{List}
use Prim.Native.Nat.{ℕ, zero, suc, ◌+◌, ◌-◌, ◌*◌, ◌/◌, ◌%◌, ◌^◌, ◌≤◌, ◌<◌, min}
use native.Mathlib.Omega.{arith}
use native.Mathlib.Decide.{dec_lt}
use native.Mathlib.Nat.{pow-suc, mod-lt, mod-eq_of_lt, add-zero, add-mul, mul_assoc, mul_right_comm, div-add-mod', add-mul-mod_self_right, mul-add-mod_self_right}
use lib.Dec.{eqb}
use lib.ListN.{get_or}
use lib.Bits.{bit_and, and_mask, or_shifted, bit_or}
use lib.Pow.{pow_pos, pow-add, shl_exact}
use Rattle.digits.specs.Digits.{Binary, window_at}
use Rattle.digits.proofs.Windows.{window-cat, window-lt, window-first, window-last}
use Rattle.strides.specs.Strides.{window_on, window_from, Clear, Unmet, Passed}

module _ (len : ℕ) (short : len ≤ 12) (ds : List ℕ) (bin : Binary ds) (p w : ℕ) (fits : w < 2 ^ len) where
  pub window-is : (k : ℕ) → window_from len ds p w k ≡ (w * 2 ^ k + window_at ds p k) % 2 ^ len
  unfolding window_from window_at window_on
  window-is zero =
      let e : w * 2 ^ 0 + 0 ≡ w = omega arith in
      rw e (sym (mod-eq_of_lt fits))
  window-is (suc k) =
      let e : w * (2 ^ k * 2) + (window_at ds p k * 2 + get_or ds (p + k) 0) ≡ (w * 2 ^ k + window_at ds p k) * 2 + get_or ds (p + k) 0 =
      omega (arith, mul_assoc w (2 ^ k) 2) in
      rw (window-is k, pow-suc 2 k)
      (one_more (2 ^ len) (w * 2 ^ k + window_at ds p k) (get_or ds (p + k) 0) ∙ ap (λ (n : ℕ). n % 2 ^ len) (sym e))
    where
      one_more : (n x d : ℕ) → (x % n * 2 + d) % n ≡ (x * 2 + d) % n
      one_more n x d =
          let q : x * 2 + d ≡ x % n * 2 + d + x / n * 2 * n = omega (arith, div-add-mod' x n, mul_right_comm (x / n) n 2) in
          sym (ap (λ (m : ℕ). m % n) q ∙ add-mul-mod_self_right (x % n * 2 + d) (x / n * 2) n)

  pub window-none : (k : ℕ) → k ≡ 0 → w ≡ window_from len ds p w k
  unfolding window_from
  window-none k e = rw e

  -- of many digits the last n are enough, where they are at least L
  drop-high : (x n l y : ℕ) → l ≤ n → (x * 2 ^ n + y) % 2 ^ l ≡ y % 2 ^ l
  drop-high x n l y h =
      let e : n ≡ n - l + l = omega arith in
      ap (λ (k : ℕ). (x * 2 ^ k + y) % 2 ^ l) e
      ∙ rw (pow-add 2 (n - l) l, ← mul_assoc x (2 ^ (n - l)) (2 ^ l)) (mul-add-mod_self_right (x * 2 ^ (n - l)) (2 ^ l) y)

  window-end : (j n : ℕ) → len ≤ n → window_from len ds p w (j + n) ≡ (w * 2 ^ n + window_at ds (p + j) n) % 2 ^ len
  window-end j n h =
      window-is (j + n)
      ∙ rw (pow-add 2 j n, window-cat ds bin p j n)
      (ap (λ (m : ℕ). m % 2 ^ len) whole ∙ drop-high (w * 2 ^ j + window_at ds p j) n (len) (window_at ds (p + j) n) h
      ∙ sym (drop-high w n (len) (window_at ds (p + j) n) h))
    where
      whole : w * (2 ^ j * 2 ^ n) + (window_at ds p j * 2 ^ n + window_at ds (p + j) n) ≡ (w * 2 ^ j + window_at ds p j) * 2 ^ n + window_at ds (p + j) n
      whole = omega (arith, add-mul (w * 2 ^ j) (window_at ds p j) (2 ^ n), mul_assoc w (2 ^ j) (2 ^ n))

  pub window-over-is : (at n d mask : ℕ) → p ≤ at → n ≡ min (at - p) 32 → d ≡ window_at ds (at - n) n → d < 2 ^ n → mask ≡ 2 ^ len - 1
      → bit_and (bit_or (w * 2 ^ n % 2 ^ 64) d) mask ≡ window_from len ds p w (at - p)
  window-over-is at n d mask from en ed hd em =
      rw (em, and_mask (bit_or (w * 2 ^ n % 2 ^ 64) d) (len), shl_exact {a = w} (len) n 64 fits (omega (arith, short)), or_shifted w n d hd, ed)
      (elim (dec_lt 32 (at - p)) [
        | yes h ↦ far h
        | no q ↦ near q
      ])
    where
      far : 32 < at - p → (w * 2 ^ n + window_at ds (at - n) n) % 2 ^ len ≡ window_from len ds p w (at - p)
      far h =
          let e : at - n ≡ p + (at - p - n) = omega arith in
          let k : at - p - n + n ≡ at - p = omega arith in
          ap (λ (m : ℕ). (w * 2 ^ n + window_at ds m n) % 2 ^ len) e ∙ sym (window-end (at - p - n) n (omega (arith, short)))
          ∙ ap (window_from len ds p w) k

      near : (32 < at - p → ⊥) → (w * 2 ^ n + window_at ds (at - n) n) % 2 ^ len ≡ window_from len ds p w (at - p)
      near q =
          let e : at - n ≡ p = omega arith in
          let k : n ≡ at - p = omega arith in
          ap (λ (m : ℕ). (w * 2 ^ n + window_at ds m n) % 2 ^ len) e ∙ sym (window-is n) ∙ ap (window_from len ds p w) k

  -- at least len digits on, the window is the last len of them
  pub window-late : (j k : ℕ) → j + len ≡ k → window_from len ds p w k ≡ window_at ds (p + j) len
  window-late j k e =
      ap (window_from len ds p w) (sym e) ∙ window-end j len (omega arith)
      ∙ drop-high w len len (window_at ds (p + j) len) (omega arith) ∙ mod-eq_of_lt (window-lt ds bin (p + j) len)

  pub window-fits : (k : ℕ) → window_from len ds p w k < 2 ^ len
  window-fits k = rw (window-is k) (mod-lt (w * 2 ^ k + window_at ds p k) (pow_pos len))

-- first i digits, then j more
pub window-join : (len : ℕ) (ds : List ℕ) (p w i j : ℕ) → window_from len ds p w (i + j) ≡ window_from len ds (p + i) (window_from len ds p w i) j
unfolding window_from
window-join len ds p w i zero = rw (add-zero i)
window-join len ds p w i (suc j) =
    let e : i + suc j ≡ suc (i + j) = omega arith in
    let q : p + (i + j) ≡ p + i + j = omega arith in
    rw e (rw (window-join len ds p w i j, q))

-- ---- no window on the way is the word

-- of a word that is the same
pub unmet-as : (len word len' word' : ℕ) (ds : List ℕ) (from at : ℕ) → Unmet len word ds from at → len' ≡ len → word' ≡ word → Unmet len' word' ds from at
unmet-as len word len' word' ds from at h el ew = rw (el, ew) h

module _ (len word : ℕ) (ds : List ℕ) where
  pub unmet-none : (from : ℕ) → Unmet len word ds from from
  unmet-none from e h h' = absurd (omega arith)

  -- so many digits more: the 64 that end with them have all their windows
  pub unmet-more : Binary ds → (from at q n v : ℕ) → n + len ≤ 64 → q + 64 ≡ at + n → v ≡ window_at ds q 64 → Clear n len word v → Unmet len word ds from at
      → Unmet len word ds from (at + n)
  unmet-more bin from at q n v short eq ev clear so_far e h h' =
      elim (dec_lt e at) [
        | yes b ↦ so_far e h b
        | no b ↦ here (at + n - suc e) (omega arith) (omega arith)
      ]
    where
      here : (i : ℕ) → i < n → e + i + 1 ≡ at + n → eqb (window_at ds (e + 1 - len) len) word ≡ false
      here i hi ei =
          let j = 64 - i - len in
          let whole : 64 ≡ j + len + i = omega arith in
          let place : q + j ≡ e + 1 - len = omega arith in
          let is : v / 2 ^ i % 2 ^ len ≡ window_at ds (e + 1 - len) len =
          ap (λ (n : ℕ). n / 2 ^ i % 2 ^ len) (ev ∙ ap (window_at ds q) whole)
          ∙ rw (window-first ds bin q (j + len) i, window-last ds bin q j len) (ap (λ (n : ℕ). window_at ds n len) place) in
          rw is at (clear i hi)

  module _ (end p w : ℕ) where
    pub passed_none : p < end → Passed len word ds end p w p w
    unfolding window_from
    passed_none h =
        let none : p - p ≡ 0 = omega arith in
        record { from = omega arith; before = h; window = rw none; missed = λ k hk. absurd (omega arith) }

    pub passed-one : (at w₁ d next : ℕ) → Passed len word ds end p w at w₁ → at + 1 < end → d ≡ get_or ds at 0 → next ≡ window_on len w₁ d
        → eqb next word ≡ false → Passed len word ds end p w (at + 1) next
    unfolding window_from
    passed-one at w₁ d next h room ed en bad =
        let k = at - p in
        let one : at + 1 - p ≡ suc k = omega (arith, h.from) in
        let place : p + k ≡ at = omega (arith, h.from) in
        let is : next ≡ window_from len ds p w (suc k) = en ∙ rw (h.window, ed, place) in
        record {
          from = omega (arith, h.from);
          before = room;
          window = rw one is;
          missed = λ m hm. elim (dec_lt m k) [
            | yes b ↦ h.missed m b
            | no b ↦ last m k is bad (omega (arith, h.from))
          ];
        }
      where
        last : (m k : ℕ) → next ≡ window_from len ds p w (suc k) → eqb next word ≡ false → m ≡ k → eqb (window_from len ds p w (suc m)) word ≡ false
        last m k is bad e = rw (e, ← is) bad

    pub passed-fits : len ≤ 12 → Binary ds → (at w₁ : ℕ) → w < 2 ^ len → Passed len word ds end p w at w₁ → w₁ < 2 ^ len
    passed-fits short bin at w₁ fits h = rw h.window (window-fits len short ds bin p w fits (at - p))

    -- with a later end
    pub passed-before : (end' at w₁ : ℕ) → Passed len word ds end' p w at w₁ → end' ≤ end → Passed len word ds end p w at w₁
    passed-before end' at w₁ h e =
        record { from = h.from; before = omega (arith, h.before); window = h.window; missed = h.missed }

    pub passed-join : (end' at w₁ at' w₂ : ℕ) → Passed len word ds end' p w at w₁ → Passed len word ds end at w₁ at' w₂ → Passed len word ds end p w at' w₂
    passed-join end' at w₁ at' w₂ h h' =
        record {
          from = omega (arith, h.from, h'.from);
          before = h'.before;
          window = h'.window ∙ later (at' - at) (at' - p) (omega (arith, h.from, h'.from));
          missed = λ k hk. elim (dec_lt k (at - p)) [
            | yes b ↦ h.missed k b
            | no b ↦
                let e = later (suc (k - (at - p))) (suc k) (omega arith) in
                rw e at (h'.missed (k - (at - p)) (omega (arith, h.from, h'.from)))
          ];
        }
      where
        later : (j k : ℕ) → at - p + j ≡ k → window_from len ds at w₁ j ≡ window_from len ds p w k
        later j k e =
            let place : p + (at - p) ≡ at = omega (arith, h.from) in
            sym (ap (window_from len ds p w) (sym e) ∙ window-join len ds p w (at - p) j ∙ rw (place, ← h.window))

    -- digits among which the word is not met, from 16 on
    pub passed-far : Binary ds → len ≤ 12 → w < 2 ^ len → (end' at w₁ at' w₂ : ℕ) → Passed len word ds end' p w at w₁ → p + 16 ≤ at → at ≤ at' → at' < end
        → Unmet len word ds at at' → w₂ ≡ window_from len ds at w₁ (at' - at) → Passed len word ds end p w at' w₂
    passed-far bin short fits end' at w₁ at' w₂ h far on before unmet ew =
        record {
          from = omega arith;
          before = before;
          window =
              let place : p + (at - p) ≡ at = omega arith in
              let k : at' - p ≡ at - p + (at' - at) = omega arith in
              ew ∙ sym (ap (window_from len ds p w) k ∙ window-join len ds p w (at - p) (at' - at) ∙ rw (place, ← h.window));
          missed = λ k hk. elim (dec_lt k (at - p)) [
            | yes b ↦ h.missed k b
            | no b ↦
                let j = suc k - len in
                let place : p + j ≡ p + k + 1 - len = omega arith in
                rw (window-late len short ds bin p w fits j (suc k) (omega arith), place) (unmet (p + k) (omega arith) (omega arith))
          ];
        }

-- ---- from the first byte on that begins 16 digits or more after the first digit

pub stop-before : (first end to : ℕ) → first < end → to ≡ min ((first + 23) / 8 * 8) (end - 1) → (first ≤ to) × (to + 1 ≤ end)
stop-before first end to h e = (omega arith, omega arith)

pub stop-at : (first end to at : ℕ) → first < end → to ≡ min ((first + 23) / 8 * 8) (end - 1) → at < to + 1 → (first + 23) / 8 * 8 ≤ at
    → (16 ≤ at) × (at % 8 ≡ 0) × (at < end) × (first + 16 ≤ at)
stop-at first end to at h e below far = (omega arith, omega arith, omega arith, omega arith)

-- ---- the eight bytes of a turn of n digits, which end with it

pub turn-load : (from end at n bytes : ℕ) → 16 ≤ from → 48 ≤ n → from ≤ at → at + n < end → end ≤ 8 * bytes → (at + n) / 8 - 8 + 8 ≤ bytes
turn-load from end at n bytes h some on room within = omega arith

pub turn-place : (from at n : ℕ) → at % 8 ≡ 0 → n % 8 ≡ 0 → 16 ≤ from → 48 ≤ n → from ≤ at → 8 * ((at + n) / 8 - 8) + 64 ≡ at + n
turn-place from at n whole bytes h some on = omega arith

pub turn-next : (at n : ℕ) → at % 8 ≡ 0 → n % 8 ≡ 0 → (at + n) % 8 ≡ 0
turn-next at n whole bytes = omega arith
