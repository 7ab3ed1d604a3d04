-- The differing digits of two lines as a number: a digit more, a part of more digits, the ones that are in it, and the digits of each tributary in its columns.
use mathlib.Core.Path.{◌≡◌, refl, sym, ◌∙◌, ap, ap₂}
use mathlib.Core.Bool.{cond, not}
use mathlib.Core.List.{List}
use Prim.Native.Nat.{ℕ, zero, suc, ◌+◌, ◌-◌, ◌*◌, ◌/◌, ◌%◌, ◌^◌, ◌≤◌, ◌<◌}
use native.Mathlib.Omega.{arith}
use native.Mathlib.Nat.{div-eq_of_lt}
use lib.Dec.{eqb}
use lib.Bits.{bit_xor, bit_and, xor_step, xor_shr, xor_mod, and_mask, differ}
use lib.Count.{ones, ones_in}
use lib.ListN.{get_or}
use lib.Pow.{high, low, pow_pos}
use Rattle.digits.specs.Digits.{digits_of, window_at}
use Rattle.digits.specs.Sums.{sum_to}
use Rattle.digits.proofs.Sums.{sum-most}
use Rattle.digits.proofs.Laws.{by-digit, digits-binary}
use Rattle.digits.proofs.Windows.{window-first, window-last}
use Rattle.levels.proofs.Windows.{xor-more}
use Rattle.masks.specs.declared.Lanes.{Lanes}
use Rattle.masks.specs.Masks.{unit_at, differing, all_from, columns_of, EVERY, nibbles, Lane, Held}
use Rattle.masks.proofs.Groups.{lowest, and-ones, within_more, within-lowest, within-zero, within-lt, nibbles-zero, side_by_side}

-- two digits differ or not
differ-is : (a b : ℕ) → a < 2 → b < 2 → differ a b ≡ cond (not (eqb a b)) 1 0
differ-is a b ha hb =
    by-digit (λ (a : ℕ). differ a b ≡ cond (not (eqb a b)) 1 0)
    (by-digit (λ (b : ℕ). differ 0 b ≡ cond (not (eqb 0 b)) 1 0) refl refl b hb)
    (by-digit (λ (b : ℕ). differ 1 b ≡ cond (not (eqb 1 b)) 1 0) refl refl b hb)
    a
    ha

turned : (a b : ℕ) → a < 2 → b < 2 → cond {A = ℕ} (eqb a b) 0 1 ≡ cond (not (eqb a b)) 1 0
turned a b ha hb =
    by-digit (λ (a : ℕ). cond {A = ℕ} (eqb a b) 0 1 ≡ cond (not (eqb a b)) 1 0)
    (by-digit (λ (b : ℕ). cond {A = ℕ} (eqb 0 b) 0 1 ≡ cond (not (eqb 0 b)) 1 0) refl refl b hb)
    (by-digit (λ (b : ℕ). cond {A = ℕ} (eqb 1 b) 0 1 ≡ cond (not (eqb 1 b)) 1 0) refl refl b hb)
    a
    ha

module _ (one other : List ℕ) where
  pub unit-small : (p : ℕ) → unit_at one other p ≤ 1
  unit-small p =
      let a = get_or (digits_of one) p 0 in
      let b = get_or (digits_of other) p 0 in
      let e = differ-is a b (digits-binary one p) (digits-binary other p) in
      by-digit (λ (a : ℕ). cond {A = ℕ} (not (eqb a b)) 1 0 ≤ 1)
      (by-digit (λ (b : ℕ). cond {A = ℕ} (not (eqb 0 b)) 1 0 ≤ 1) (omega arith) (omega arith) b (digits-binary other p))
      (by-digit (λ (b : ℕ). cond {A = ℕ} (not (eqb 1 b)) 1 0 ≤ 1) (omega arith) (omega arith) b (digits-binary other p))
      a
      (digits-binary one p)

  -- one digit more
  differing-more : (p n : ℕ) → differing one other p (suc n) ≡ differing one other p n * 2 + unit_at one other (p + n)
  unfolding window_at
  differing-more p n =
      let w = window_at (digits_of one) p n in
      let u = window_at (digits_of other) p n in
      let d = get_or (digits_of one) (p + n) 0 in
      let e = get_or (digits_of other) (p + n) 0 in
      let hd = digits-binary one (p + n) in
      let he = digits-binary other (p + n) in
      rw (xor_step (w * 2 + d) (u * 2 + e), high w 1 hd, high u 1 he, low w 1 hd, low u 1 he, differ-is d e hd he) refl

  -- a part: the digits before, and those after
  pub differing-first : (p i j : ℕ) → differing one other p (i + j) / 2 ^ j ≡ differing one other p i
  differing-first p i j =
      xor_shr (window_at (digits_of one) p (i + j)) (window_at (digits_of other) p (i + j)) j
      ∙ ap₂ bit_xor (window-first (digits_of one) (digits-binary one) p i j) (window-first (digits_of other) (digits-binary other) p i j)

  pub differing-last : (p i j : ℕ) → differing one other p (i + j) % 2 ^ j ≡ differing one other (p + i) j
  differing-last p i j =
      xor_mod (window_at (digits_of one) p (i + j)) (window_at (digits_of other) p (i + j)) j
      ∙ ap₂ bit_xor (window-last (digits_of one) (digits-binary one) p i j) (window-last (digits_of other) (digits-binary other) p i j)

  -- 56 of the 64 digits of eight bytes
  pub differing-part : (p : ℕ) → bit_and (differing one other (8 * (p / 8)) 64 / 2 ^ (8 - p % 8)) 72057594037927935 ≡ differing one other p 56
  differing-part p =
      let o = p % 8 in
      let at = 8 * (p / 8) in
      let whole : 64 ≡ o + 56 + (8 - o) = omega arith in
      let here : at + o ≡ p = omega arith in
      and_mask (differing one other at 64 / 2 ^ (8 - o)) 56
      ∙ ap (λ (n : ℕ). differing one other at n / 2 ^ (8 - o) % 2 ^ 56) whole
      ∙ ap (λ (n : ℕ). n % 2 ^ 56) (differing-first at (o + 56) (8 - o))
      ∙ differing-last at o 56
      ∙ ap (λ (n : ℕ). differing one other n 56) here

  -- the ones of the number are the places that differ
  pub differing-ones : (p n : ℕ) → ones (differing one other p n) ≡ all_from one other p n
  unfolding window_at sum_to ones ones_in
  differing-ones p zero = refl
  differing-ones p (suc n) =
      let d = get_or (digits_of one) (p + n) 0 in
      let e = get_or (digits_of other) (p + n) 0 in
      let hd = digits-binary one (p + n) in
      let he = digits-binary other (p + n) in
      xor-more (window_at (digits_of one) p n) (window_at (digits_of other) p n) d e hd he ∙ rw (differing-ones p n, turned d e hd he) refl

  -- ---- by columns

  abbrev column : ℕ → ℕ → ℕ
  column p c =
      unit_at one other (p + 4 * c + 0) * 8 + unit_at one other (p + 4 * c + 1) * 4 + unit_at one other (p + 4 * c + 2) * 2 + unit_at one other (p + 4 * c + 3)

  column-more : (p c : ℕ) → differing one other p (4 * suc c) ≡ differing one other p (4 * c) * 16 + column p c
  column-more p c =
      let e : 4 * suc c ≡ suc (suc (suc (suc (4 * c)))) = omega arith in
      let e0 : p + 4 * c ≡ p + 4 * c + 0 = omega arith in
      let e1 : p + suc (4 * c) ≡ p + 4 * c + 1 = omega arith in
      let e2 : p + suc (suc (4 * c)) ≡ p + 4 * c + 2 = omega arith in
      let e3 : p + suc (suc (suc (4 * c))) ≡ p + 4 * c + 3 = omega arith in
      rw (e, differing-more p (suc (suc (suc (4 * c)))), differing-more p (suc (suc (4 * c))), differing-more p (suc (4 * c)), differing-more p (4 * c), e1, e2, e3)
      (let f = ap (unit_at one other) e0 in omega (arith, f))

  -- the digit of tributary j in a column stands at 2 to the 3 - j
  abbrev Digit : ℕ → ℕ → ℕ → Type 0
  Digit p j i = (c : ℕ) → (differing one other p (4 * suc c) / 2 ^ i / 16 ≡ differing one other p (4 * c) / 2 ^ i)
      × (differing one other p (4 * suc c) / 2 ^ i % 2 ≡ unit_at one other (p + 4 * c + j))

  digit-first : (p : ℕ) → Digit p 0 3
  digit-first p c =
      let a = unit-small (p + 4 * c + 0) in
      let b = unit-small (p + 4 * c + 1) in
      let d = unit-small (p + 4 * c + 2) in
      let e = unit-small (p + 4 * c + 3) in
      rw (column-more p c) (omega (arith, a, b, d, e), omega (arith, a, b, d, e))

  digit-second : (p : ℕ) → Digit p 1 2
  digit-second p c =
      let a = unit-small (p + 4 * c + 0) in
      let b = unit-small (p + 4 * c + 1) in
      let d = unit-small (p + 4 * c + 2) in
      let e = unit-small (p + 4 * c + 3) in
      rw (column-more p c) (omega (arith, a, b, d, e), omega (arith, a, b, d, e))

  digit-third : (p : ℕ) → Digit p 2 1
  digit-third p c =
      let a = unit-small (p + 4 * c + 0) in
      let b = unit-small (p + 4 * c + 1) in
      let d = unit-small (p + 4 * c + 2) in
      let e = unit-small (p + 4 * c + 3) in
      rw (column-more p c) (omega (arith, a, b, d, e), omega (arith, a, b, d, e))

  digit-fourth : (p : ℕ) → Digit p 3 0
  digit-fourth p c =
      let a = unit-small (p + 4 * c + 0) in
      let b = unit-small (p + 4 * c + 1) in
      let d = unit-small (p + 4 * c + 2) in
      let e = unit-small (p + 4 * c + 3) in
      rw (column-more p c) (omega (arith, a, b, d, e), omega (arith, a, b, d, e))

  lowest-zero : (k : ℕ) → lowest k 0 ≡ 0
  unfolding lowest
  lowest-zero zero = refl
  lowest-zero (suc k) = let e : 0 / 16 ≡ 0 = omega arith in rw (e, lowest-zero k) refl

  -- c columns in a number of at least as many groups
  lane-columns : (p j i : ℕ) → Digit p j i → (k c : ℕ) → c ≤ k → nibbles k (lowest k (differing one other p (4 * c) / 2 ^ i)) ≡ columns_of one other p j c
  unfolding lowest nibbles sum_to window_at
  lane-columns p j i digit k zero h =
      rw (div-eq_of_lt (pow_pos i), lowest-zero k) (nibbles-zero k)
  lane-columns p j i digit zero (suc c) h = absurd (never h)
    where
      never : suc c ≤ 0 → ⊥
      never h = omega arith
  lane-columns p j i digit (suc k) (suc c) h =
      let d = digit c in
      let u = unit_at one other (p + 4 * c + j) in
      let l = lowest k (differing one other p (4 * c) / 2 ^ i) in
      let last : (l * 16 + u) % 16 ≡ u = omega (arith, unit-small (p + 4 * c + j)) in
      let rest : (l * 16 + u) / 16 ≡ l = omega (arith, unit-small (p + 4 * c + j)) in
      rw (d.0, d.1, last, rest, lane-columns p j i digit k c (omega arith)) refl

  -- the digits of one column
  pub column-digits : (p x : ℕ) → x ≡ differing one other p 4
      → (x / 8 % 2 ≡ columns_of one other p 0 1) × (x / 4 % 2 ≡ columns_of one other p 1 1) × (x / 2 % 2 ≡ columns_of one other p 2 1) × (x % 2 ≡ columns_of one other p 3 1)
  unfolding sum_to
  column-digits p x is =
      let a = (digit-first p 0).1 in
      let b = (digit-second p 0).1 in
      let d = (digit-third p 0).1 in
      let e = (digit-fourth p 0).1 in
      rw is (omega (arith, a), omega (arith, b), omega (arith, d), omega (arith, e))

  -- as many ones as there are digits, at most
  pub ones-few : (p n x : ℕ) → x ≡ differing one other p n → (ones x ≡ all_from one other p n) × (ones x ≤ n)
  ones-few p n x is =
      let e : ones x ≡ all_from one other p n = ap ones is ∙ differing-ones p n in
      (e, omega (arith, e, sum-most n 1 (λ (i : ℕ). unit_at one other (p + i)) (λ i _. unit-small (p + i))))

  -- columns, and then more of them
  columns-cat : (p j c n : ℕ) → columns_of one other p j (c + n) ≡ columns_of one other p j c + columns_of one other (p + 4 * c) j n
  unfolding sum_to
  columns-cat p j c zero = let e : c + 0 ≡ c = omega arith in rw e (omega arith)
  columns-cat p j c (suc n) =
      let e : c + suc n ≡ suc (c + n) = omega arith in
      let at : p + 4 * (c + n) + j ≡ p + 4 * c + 4 * n + j = omega arith in
      rw (e, columns-cat p j c n, at) (omega arith)

  -- ---- what is held

  pub held_none : (p : ℕ) → Held one other p 0 0 (record { first = 0; second = 0; third = 0; fourth = 0; columns = 0 })
  unfolding sum_to
  held_none p = record { first = none 0; second = none 1; third = none 2; fourth = none 3 }
    where
      none : (j : ℕ) → Lane one other p 0 0 j 0
      none j = record { small = within-zero 14; sum = nibbles-zero 14 }

  lane-more : (p c t j i y n : ℕ) → Digit (p + 4 * c) j i → n ≤ 14 → t < 15 → Lane one other p c t j y
      → Lane one other p (c + n) (t + 1) j (y + bit_and (differing one other (p + 4 * c) (4 * n) / 2 ^ i) EVERY)
  lane-more p c t j i y n digit few room l =
      let x = differing one other (p + 4 * c) (4 * n) / 2 ^ i in
      let s = side_by_side 14 t 1 y (lowest 14 x) (omega arith) l.small (within-lowest 14 x) in
      rw (and-ones x)
      (record {
        small = s.within;
        sum = s.sum ∙ rw (l.sum, lane-columns (p + 4 * c) j i digit 14 n few) (sym (columns-cat p j c n));
      })

  pub held_more : (p t n : ℕ) (l : Lanes) → n ≤ 14 → t < 15 → Held one other p l.columns t l → (x : ℕ) → x ≡ differing one other (p + 4 * l.columns) (4 * n)
      → (r : Lanes)
      → r
      ≡ record {
        first = l.first + bit_and (x / 2 ^ 3) EVERY;
        second = l.second + bit_and (x / 2 ^ 2) EVERY;
        third = l.third + bit_and (x / 2 ^ 1) EVERY;
        fourth = l.fourth + bit_and (x / 2 ^ 0) EVERY;
        columns = l.columns + n;
      }
      → Held one other p r.columns (t + 1) r
  held_more p t n l few room h x is r e =
      let q = p + 4 * l.columns in
      rw (e, is)
      (record {
        first = lane-more p l.columns t 0 3 l.first n (digit-first q) few room h.first;
        second = lane-more p l.columns t 1 2 l.second n (digit-second q) few room h.second;
        third = lane-more p l.columns t 2 1 l.third n (digit-third q) few room h.third;
        fourth = lane-more p l.columns t 3 0 l.fourth n (digit-fourth q) few room h.fourth;
      })

  lane-later : (p c t u j y : ℕ) → t ≤ u → Lane one other p c t j y → Lane one other p c u j y
  lane-later p c t u j y h l = record { small = within_more 14 t u y h l.small; sum = l.sum }

  pub held-later : (p c t u : ℕ) (l : Lanes) → t ≤ u → Held one other p c t l → Held one other p c u l
  held-later p c t u l h held =
      record {
        first = lane-later p c t u 0 l.first h held.first;
        second = lane-later p c t u 1 l.second h held.second;
        third = lane-later p c t u 2 l.third h held.third;
        fourth = lane-later p c t u 3 l.fourth h held.fourth;
      }

  lane-lt : (p c t j y : ℕ) → t ≤ 15 → Lane one other p c t j y → y < 2 ^ 60
  lane-lt p c t j y h l = let e = within-lt 14 y (within_more 14 t 15 y h l.small) in omega (arith, e)

  pub held-lt : (p c t : ℕ) (l : Lanes) → t ≤ 15 → Held one other p c t l
      → (l.first < 2 ^ 60) × (l.second < 2 ^ 60) × (l.third < 2 ^ 60) × (l.fourth < 2 ^ 60)
  held-lt p c t l h held = (
    lane-lt p c t 0 l.first h held.first,
    lane-lt p c t 1 l.second h held.second,
    lane-lt p c t 2 l.third h held.third,
    lane-lt p c t 3 l.fourth h held.fourth,
  )
