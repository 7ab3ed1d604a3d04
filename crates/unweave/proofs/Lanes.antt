-- Laws of rows: the digits of a row of columns turned over are every fourth digit of the line; and a place's digit, where it carries one.
use mathlib.Core.Path.{◌≡◌, refl, sym, ap, ap₂, ◌∙◌}
use mathlib.Core.Bool.{Bool, cond, true, false}
use mathlib.Core.List.{List, [], ◌∷◌, ◌++◌, append_assoc, append-nil}
use Prim.Native.Nat.{ℕ, zero, suc, ◌+◌, ◌-◌, ◌*◌, ◌/◌, ◌%◌, ◌^◌, ◌≤◌, ◌<◌}
use native.Mathlib.Omega.{arith}
use native.Mathlib.Nat.{add-zero, add-suc, div-one}
use lib.ListN.{length, get_or}
use lib.Arith.{digits_lt}
use lib.Bits.{bit_and, bit_or, or_shifted, and_zero_r, and_mask, mask_lt}
use lib.Pow.{pow-add, shr-shr, shl_exact}
use Rattle.digits.specs.Digits.{Binary, window_at, written}
use Rattle.digits.proofs.Laws.{by-digit}
use Rattle.digits.proofs.Written.{written-cat, written-mod, low_digit}
use Rattle.digits.proofs.Windows.{window-first, window-last}
use Rattle.words.specs.declared.Writer.{Writer}
use Rattle.words.specs.Turning.{TurnedOver}
use Rattle.unweave.specs.declared.Columns.{Columns}
use Rattle.unweave.specs.Lanes.{picked, row_of}
use Rattle.unweave.specs.Quarters.{number_of, Numbered, Within}

-- one digit
pub single : (d : ℕ) → d < 2 → written 1 d ≡ d ∷ []
unfolding written
single d h = let e : d / 1 % 2 ≡ d = rw div-one (omega arith) in ap (λ (k : ℕ). k ∷ []) e

-- i picks, then k more
pub picked-cat : (ds : List ℕ) (p i k : ℕ) → picked (i + k) ds p ≡ picked i ds p ++ picked k ds (p + 4 * i)
unfolding picked
picked-cat ds p i zero = rw (add-zero i) (sym (append-nil (picked i ds p)))
picked-cat ds p i (suc k) =
    let e : p + 4 * (i + k) ≡ p + 4 * i + 4 * k = omega arith in
    rw (add-suc i k, picked-cat ds p i k, e) (append_assoc (picked i ds p) (picked k ds (p + 4 * i)) (get_or ds (p + 4 * i + 4 * k) 0 ∷ []))

one-picked : (ds : List ℕ) (p : ℕ) → picked 1 ds p ≡ get_or ds p 0 ∷ []
unfolding picked
one-picked ds p = rw (add-zero p)

picked_first : (ds : List ℕ) (p k : ℕ) → picked (suc k) ds p ≡ get_or ds p 0 ∷ picked k ds (p + 4)
picked_first ds p k =
    let e : suc k ≡ 1 + k = omega arith in
    ap (λ (n : ℕ). picked n ds p) e ∙ picked-cat ds p 1 k ∙ rw (one-picked ds p)

-- a row, then the last n digits of another, as the program joins them
pub joined : (row first rest last n : ℕ) → n ≤ 16 → row ≡ first → row < 2 ^ 16 → rest ≡ last → rest < 2 ^ n
    → (bit_or (row * 2 ^ n % 2 ^ 64) rest ≡ first * 2 ^ n + last) × (bit_or (row * 2 ^ n % 2 ^ 64) rest < 2 ^ (16 + n))
joined row first rest last n few e h e' h' =
    let all : bit_or (row * 2 ^ n % 2 ^ 64) rest ≡ row * 2 ^ n + rest =
    rw (shl_exact {a = row} 16 n 64 h (omega arith)) (or_shifted row n rest h') in
    rw all (rw (e, e') refl, rw (pow-add 2 16 n) (digits_lt h h'))

module _ (ds : List ℕ) (bin : Binary ds) where
  one-digit : (p : ℕ) → window_at ds p 1 ≡ get_or ds p 0
  unfolding window_at
  one-digit p = rw (add-zero p) (omega arith)

  -- digit c of a window, behind which there are i more
  window-digit : (p n c i : ℕ) → n ≡ c + 1 + i → window_at ds p n / 2 ^ i % 2 ≡ get_or ds (p + c) 0
  window-digit p n c i e =
      ap (λ (k : ℕ). window_at ds p k / 2 ^ i % 2) e ∙ rw (window-first ds bin p (c + 1) i) (window-last ds bin p c 1 ∙ one-digit (p + c))

  -- k columns from place p on turned over
  module _ (p k rows : ℕ) (turned : TurnedOver rows (window_at ds p (4 * k))) where
    row-digit : (j b : ℕ) → j < 4 → b < 16 → row_of rows j / 2 ^ b % 2 ≡ window_at ds p (4 * k) / 2 ^ (4 * b + (3 - j)) % 2
    row-digit j b hj hb =
        low_digit 16 b (rows / 2 ^ (16 * (3 - j))) hb
        ∙ ap (λ (n : ℕ). n % 2) (shr-shr rows (16 * (3 - j)) b)
        ∙ turned (3 - j) b (omega arith) hb

    -- the last n digits of tributary j's row are its digits of the last n columns
    pub row_written : (j n : ℕ) → j < 4 → n ≤ 16 → n ≤ k → written n (row_of rows j) ≡ picked n ds (p + 4 * (k - n) + j)
    unfolding written picked
    row_written j zero hj few in_all = refl
    row_written j (suc n) hj few in_all =
        let at = p + 4 * (k - suc n) + j in
        let c = 4 * (k - suc n) + j in
        let here : p + c ≡ at = omega arith in
        let next : p + 4 * (k - n) + j ≡ at + 4 = omega arith in
        let digit : row_of rows j / 2 ^ n % 2 ≡ get_or ds at 0 =
        row-digit j n hj (omega arith) ∙ window-digit p (4 * k) c (4 * n + (3 - j)) (omega arith) ∙ ap (λ (a : ℕ). get_or ds a 0) here in
        ap₂ (λ (d : ℕ) (l : List ℕ). d ∷ l) digit (row_written j n hj (omega arith) (omega arith) ∙ ap (picked n ds) next) ∙ sym (picked_first ds at n)

  -- ---- columns as four numbers, by the rows of a word

  -- fewer than sixteen
  pub numbered-few : (p n x rows : ℕ) (r : Columns) → n ≤ 16 → x ≡ window_at ds p (4 * n) → TurnedOver rows x
      → ((j : ℕ) → j < 4 → (number_of r j ≡ row_of rows j % 2 ^ n) × (number_of r j < 2 ^ n)) → Numbered ds p n r
  numbered-few p n x rows r few ex turned last =
      record {
        below = λ j h. (last j h).1;
        digits = λ j h.
            let here : p + 4 * (n - n) + j ≡ p + j = omega arith in
            rw (last j h).0 (written-mod n n (row_of rows j) (omega arith) ∙ row_written p n rows (rw ex at turned) j n h few (omega arith) ∙ ap (picked n ds) here);
      }

  -- the first sixteen, and the last ones of the last sixteen
  pub numbered-many : (p p' n m x y first last : ℕ) (r : Columns) → n ≡ 16 + m → p' ≡ p + 4 * m → m ≤ 16 → x ≡ window_at ds p 64 → TurnedOver first x
      → y ≡ window_at ds p' 64 → TurnedOver last y
      → ((j : ℕ) → j < 4 → (number_of r j ≡ row_of first j * 2 ^ m + row_of last j % 2 ^ m) × (number_of r j < 2 ^ (16 + m)))
      → Numbered ds p n r
  numbered-many p p' n m x y first last r en ep few ex turned ey turned' both =
      rw en
      (record {
        below = λ j h. (both j h).1;
        digits = λ j h.
            let here : p + 4 * (16 - 16) + j ≡ p + j = omega arith in
            let there : p' + 4 * (16 - m) + j ≡ p + j + 4 * 16 = omega arith in
            rw (both j h).0
            (written-cat 16 m (row_of first j) (row_of last j % 2 ^ m) (mod-lt j)
            ∙ rw (
              written-mod m m (row_of last j) (omega arith),
              row_written p 16 first (rw ex at turned) j 16 h (omega arith) (omega arith),
              row_written p' 16 last (rw ey at turned') j m h few few,
              here,
              there,
            )
            (sym (picked-cat ds (p + j) 16 m)));
      })
    where
      mod-lt : (j : ℕ) → row_of last j % 2 ^ m < 2 ^ m
      mod-lt j = rw (and_mask (row_of last j) m) at (mask_lt (row_of last j) m)

-- ---- a place that carries a digit, or none: n digits of it are put out

module _ (carries : Bool) (d n : ℕ) (h : d < 2) (e : n ≡ cond carries 1 0) where
  masked-lt : (t : Bool) → bit_and d (cond t 1 0) < 2 ^ cond t 1 0
  masked-lt true = by-digit (λ (k : ℕ). bit_and k 1 < 2) (omega arith) (omega arith) d h
  masked-lt false = rw (and_zero_r d) (omega arith)

  at_most_one : (t : Bool) → cond t 1 0 ≤ 1
  at_most_one true = omega arith
  at_most_one false = omega arith

  pub place-few : n ≤ 32
  place-few = omega (arith, e, at_most_one carries)

  pub place-below : bit_and d n < 2 ^ n
  place-below = rw e (masked-lt carries)

  masked-written : (t : Bool) → written (cond t 1 0) (bit_and d (cond t 1 0)) ≡ cond t (d ∷ []) []
  unfolding written
  masked-written true = let same : bit_and d 1 ≡ d = by-digit (λ (k : ℕ). bit_and k 1 ≡ k) refl refl d h in rw same (single d h)
  masked-written false = refl

  pub place-written : (digit : ℕ) → d ≡ digit → written n (bit_and d n) ≡ cond carries (digit ∷ []) []
  place-written digit same = rw (← same, e) (masked-written carries)

  place-length : (t : Bool) (digit : ℕ) → length (cond t (digit ∷ []) []) ≡ cond t 1 0
  place-length true digit = refl
  place-length false digit = refl

  pub place-room : {q : ℕ} {w : Writer} (digit : ℕ) → Within q (length (cond carries (digit ∷ []) [])) w → Within q n w
  place-room {q} {w} digit room = rw (place-length carries digit, ← e) at room
