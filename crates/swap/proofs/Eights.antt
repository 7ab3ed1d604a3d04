-- Columns of one tributary by whole bytes: the 32 places of eight columns once other digits are mixed in, the four bytes that they are stored as, and
-- columns after columns.
use mathlib.Core.Path.{◌≡◌, refl, sym, ◌∙◌, ap}
use mathlib.Core.Bool.{Bool, cond, true, false, ◌&&◌}
use mathlib.Core.List.{List, ◌++◌}
use Prim.Native.Nat.{ℕ, zero, suc, ◌+◌, ◌*◌, ◌-◌, ◌/◌, ◌%◌, ◌^◌, ◌≤◌, ◌<◌}
use native.Mathlib.Omega.{arith}
use native.Mathlib.Decide.{dec_lt, ℕ_discrete}
use native.Mathlib.Nat.{mul_assoc}
use lib.Dec.{eqb}
use lib.ListN.{length, get_or, take, drop, length-append, get_or-append}
use lib.Seq.{sets, sets-eq, length-sets, length-take-le, get_or-append-add, get_or-take, get_or-drop}
use lib.Pow.{pow-add, shr-shr, shl-shr, high, low}
use lib.Bits.{bit_and, bit_or, and_shr, and_mod, and_mask, and_zero_r, or_shr, or_mod, or_zero_l, or_zero_r, shifted_even}
use borrow.Author.Tests.{eqb-true, lt-ltb, le-ltb, le-leb, lt-leb, eq-eqb, ne_eqb}
use Rattle.digits.specs.Digits.{digits_of, Binary, Bytes, window_at, written}
use Rattle.digits.proofs.Below.{all, all-at}
use Rattle.digits.proofs.Laws.{digits_append, digits-drop, digits-length, digits-take, digits-binary}
use Rattle.digits.proofs.Lists.{of_four}
use Rattle.digits.proofs.Windows.{window-first}
use Rattle.digits.proofs.Written.{written-length, written-digit}
use Rattle.words.specs.Words.{four}
use Rattle.words.proofs.Writing.{four-written}
use Rattle.weave.specs.Weave.{spread_of}
use Rattle.swap.specs.Filling.{own_places, among, Ran}

-- ---- eight columns as a number: the digit that is worth 2 to the m

-- of spread digits, the first of four is a digit and the others are 0
spread-digit : (k x m : ℕ) → m < 4 * k → spread_of k x / 2 ^ m % 2 ≡ cond (eqb (m % 4) 0) (x / 2 ^ (m / 4) % 2) 0
unfolding spread_of
spread-digit zero x m h = absurd (nothing h)
  where
    nothing : m < 4 * 0 → ⊥
    nothing g = omega arith
spread-digit (suc k) x m h =
    elim (dec_lt m 4) [
      | yes l ↦ of_four (λ (n : ℕ). (s * 16 + x % 2) / 2 ^ n % 2 ≡ cond (eqb (n % 4) 0) (x / 2 ^ (n / 4) % 2) 0) (omega arith) (omega arith) (omega arith) (omega arith) m l
      | no l ↦ later (omega arith) (spread-digit k (x / 2) (m - 4) (omega arith))
    ]
  where
    s : ℕ
    s = spread_of k (x / 2)

    later : 4 ≤ m → s / 2 ^ (m - 4) % 2 ≡ cond (eqb ((m - 4) % 4) 0) (x / 2 / 2 ^ ((m - 4) / 4) % 2) 0
        → (s * 16 + x % 2) / 2 ^ m % 2 ≡ cond (eqb (m % 4) 0) (x / 2 ^ (m / 4) % 2) 0
    later g rest =
        let n = m - 4 in
        let e : m ≡ 4 + n = omega arith in
        let up : (s * 16 + x % 2) / 2 ^ (4 + n) ≡ s / 2 ^ n = sym (shr-shr (s * 16 + x % 2) 4 n) ∙ ap (λ (t : ℕ). t / 2 ^ n) (high s 4 {lo = x % 2} (omega arith)) in
        let place : m % 4 ≡ n % 4 = omega arith in
        let column : m / 4 ≡ 1 + n / 4 = omega arith in
        ap (λ (t : ℕ). (s * 16 + x % 2) / 2 ^ t % 2) e
        ∙ ap (λ (t : ℕ). t % 2) up
        ∙ rest
        ∙ rw (place, column, ← shr-shr x 1 (n / 4)) refl

-- moved up to tributary j's places, e = 3 - j
moved-digit : (e x m : ℕ) → e < 4 → m < 32 → spread_of 8 x * 2 ^ e / 2 ^ m % 2 ≡ cond (eqb (m % 4) e) (x / 2 ^ (m / 4) % 2) 0
moved-digit e x m he hm =
    elim (dec_lt m e) [
      | yes l ↦ below l
      | no l ↦ above (omega arith)
    ]
  where
    s : ℕ
    s = spread_of 8 x

    below : m < e → s * 2 ^ e / 2 ^ m % 2 ≡ cond (eqb (m % 4) e) (x / 2 ^ (m / 4) % 2) 0
    below l =
        let t = e - m - 1 in
        let sum : e ≡ suc t + m = omega arith in
        let apart : s * 2 ^ e ≡ s * 2 ^ suc t * 2 ^ m =
        ap (λ (n : ℕ). s * 2 ^ n) sum ∙ ap (λ (n : ℕ). s * n) (pow-add 2 (suc t) m) ∙ sym (mul_assoc s (2 ^ suc t) (2 ^ m)) in
        rw (ne_eqb (m % 4) e (λ q. omega arith), apart, shl-shr (s * 2 ^ suc t) m) (shifted_even s t)

    above : e ≤ m → s * 2 ^ e / 2 ^ m % 2 ≡ cond (eqb (m % 4) e) (x / 2 ^ (m / 4) % 2) 0
    above l =
        let n = m - e in
        let sum : m ≡ e + n = omega arith in
        let down : s * 2 ^ e / 2 ^ (e + n) ≡ s / 2 ^ n = sym (shr-shr (s * 2 ^ e) e n) ∙ ap (λ (t : ℕ). t / 2 ^ n) (shl-shr s e) in
        ap (λ (t : ℕ). s * 2 ^ e / 2 ^ t % 2) sum ∙ ap (λ (t : ℕ). t % 2) down ∙ spread-digit 8 x n (omega arith) ∙ same n refl
      where
        same : (n : ℕ) → n ≡ m - e → cond (eqb (n % 4) 0) (x / 2 ^ (n / 4) % 2) 0 ≡ cond (eqb (m % 4) e) (x / 2 ^ (m / 4) % 2) 0
        same n d =
            elim (ℕ_discrete (m % 4) e) [
              | yes q ↦
                  let column : n / 4 ≡ m / 4 = omega arith in
                  rw (eq-eqb (m % 4) e q, eq-eqb (n % 4) 0 (omega arith), column)
              | no q ↦ rw (ne_eqb (m % 4) e q, ne_eqb (n % 4) 0 (λ z. q (omega arith)))
            ]

-- every place but tributary j's
others : (e m : ℕ) → e < 4 → m < 32 → (2 ^ 32 - 1 - 286331153 * 2 ^ e) / 2 ^ m % 2 ≡ cond (eqb (m % 4) e) 0 1
unfolding all
others e m he hm =
    of_four (λ (k : ℕ). (n : ℕ) → n < 32 → (2 ^ 32 - 1 - 286331153 * 2 ^ k) / 2 ^ n % 2 ≡ cond (eqb (n % 4) k) 0 1)
    (of 0 refl) (of 1 refl) (of 2 refl) (of 3 refl) e he m hm
  where
    of : (k : ℕ) → all 32 (λ (n : ℕ). eqb ((2 ^ 32 - 1 - 286331153 * 2 ^ k) / 2 ^ n % 2) (cond (eqb (n % 4) k) 0 1)) ≡ true
        → (n : ℕ) → n < 32 → (2 ^ 32 - 1 - 286331153 * 2 ^ k) / 2 ^ n % 2 ≡ cond (eqb (n % 4) k) 0 1
    of k t n h = eqb-true _ _ (all-at 32 (λ (q : ℕ). eqb ((2 ^ 32 - 1 - 286331153 * 2 ^ k) / 2 ^ q % 2) (cond (eqb (q % 4) k) 0 1)) t n h)

-- so the digit of the mixed number is the tributary's at its places and the old one at every other
mixed : (t : Bool) (d y : ℕ) → d < 2 → bit_or (bit_and d (cond t 0 1)) (cond t y 0) ≡ cond t y d
mixed true d y h = rw (and_zero_r d) (or_zero_l y)
mixed false d y h = or_zero_r (bit_and d 1) ∙ and_mask d 1 ∙ small
  where
    small : d % 2 ≡ d
    small = omega arith

mixed-digit : (c x e m : ℕ) → e < 4 → m < 32
    → bit_or (bit_and c (2 ^ 32 - 1 - 286331153 * 2 ^ e)) (spread_of 8 x * 2 ^ e) / 2 ^ m % 2 ≡ cond (eqb (m % 4) e) (x / 2 ^ (m / 4) % 2) (c / 2 ^ m % 2)
mixed-digit c x e m he hm =
    let keep = 2 ^ 32 - 1 - 286331153 * 2 ^ e in
    let up = spread_of 8 x * 2 ^ e in
    let one : bit_or (bit_and c keep) up / 2 ^ m ≡ bit_or (bit_and (c / 2 ^ m) (keep / 2 ^ m)) (up / 2 ^ m) =
    or_shr (bit_and c keep) up m ∙ ap (λ (n : ℕ). bit_or n (up / 2 ^ m)) (and_shr c keep m) in
    let two : bit_or (bit_and (c / 2 ^ m) (keep / 2 ^ m)) (up / 2 ^ m) % 2 ≡ bit_or (bit_and (c / 2 ^ m % 2) (keep / 2 ^ m % 2)) (up / 2 ^ m % 2) =
    or_mod (bit_and (c / 2 ^ m) (keep / 2 ^ m)) (up / 2 ^ m) 1 ∙ ap (λ (n : ℕ). bit_or n (up / 2 ^ m % 2)) (and_mod (c / 2 ^ m) (keep / 2 ^ m) 1) in
    ap (λ (n : ℕ). n % 2) one ∙ two ∙ rw (others e m he hm, moved-digit e x m he hm) (mixed (eqb (m % 4) e) (c / 2 ^ m % 2) (x / 2 ^ (m / 4) % 2) (omega arith))

-- ---- its places, first place first

-- digit c of a window
window-digit : (ds : List ℕ) → Binary ds → (p n c m : ℕ) → c + 1 + m ≡ n → window_at ds p n / 2 ^ m % 2 ≡ get_or ds (p + c) 0
unfolding window_at
window-digit ds bin p n c m e =
    let size : n ≡ suc c + m = omega arith in
    rw (size, window-first ds bin p (suc c) m) (low (window_at ds p c) 1 (bin (p + c)))

module _ (old ds : List ℕ) (bin : Binary ds) (at i j : ℕ) (jh : j < 4) where
  -- the columns with the tributary's digits from i on
  abbrev pub mix : ℕ
  mix = bit_or (bit_and (window_at (digits_of old) (8 * at) 32) (2 ^ 32 - 1 - own_places j)) (spread_of 8 (window_at ds i 8) * 2 ^ (3 - j))

  mix-digit : (q : ℕ) → q < 32 → get_or (written 32 mix) q 0 ≡ cond (eqb (q % 4) j) (get_or ds (i + q / 4) 0) (get_or (digits_of old) (8 * at + q) 0)
  mix-digit q h =
      let m = 31 - q in
      written-digit 32 mix q m (omega arith)
      ∙ mixed-digit (window_at (digits_of old) (8 * at) 32) (window_at ds i 8) (3 - j) m (omega arith) (omega arith)
      ∙ rw (window-digit (digits_of old) (digits-binary old) (8 * at) 32 q m (omega arith), window-digit ds bin i 8 (q / 4) (m / 4) (omega arith), turned (31 - q) refl)
    where
      turned : (m : ℕ) → m ≡ 31 - q → eqb (m % 4) (3 - j) ≡ eqb (q % 4) j
      turned m d =
          elim (ℕ_discrete (q % 4) j) [
            | yes s ↦ eq-eqb (m % 4) (3 - j) (omega arith) ∙ sym (eq-eqb (q % 4) j s)
            | no s ↦ ne_eqb (m % 4) (3 - j) (λ z. s (omega arith)) ∙ sym (ne_eqb (q % 4) j s)
          ]

-- ---- four bytes of a line stored anew: the digits of them, before them and after them

module _ (old : List ℕ) (at out : ℕ) (room : at + 4 ≤ length old) where
  abbrev front : List ℕ
  front = digits_of (take at old)

  abbrev back : List ℕ
  back = digits_of (drop (at + 4) old)

  stored-digits : digits_of (sets old at (four out)) ≡ front ++ written 32 out ++ back
  stored-digits =
      ap digits_of (sets-eq (four out) old at room)
      ∙ digits_append (take at old ++ four out) (drop (at + 4) old)
      ∙ ap (λ (ds : List ℕ). ds ++ back) (digits_append (take at old) (four out) ∙ ap (λ (ds : List ℕ). front ++ ds) (four-written out))

  front_length : length front ≡ 8 * at
  front_length = digits-length (take at old) ∙ ap (λ (n : ℕ). 8 * n) (length-take-le at old (omega arith))

  through-length : length (front ++ written 32 out) ≡ 8 * at + 32
  through-length = length-append front (written 32 out) ∙ rw (front_length, written-length 32 out)

  digit-before : (p : ℕ) → p < 8 * at → get_or (digits_of (sets old at (four out))) p 0 ≡ get_or (digits_of old) p 0
  digit-before p h =
      rw stored-digits
      (get_or-append (front ++ written 32 out) back 0 p (omega (arith, through-length))
      ∙ get_or-append front (written 32 out) 0 p (omega (arith, front_length))
      ∙ rw (digits-take at old) (get_or-take (8 * at) (digits_of old) p 0 h))

  digit-stored : (q : ℕ) → q < 32 → get_or (digits_of (sets old at (four out))) (8 * at + q) 0 ≡ get_or (written 32 out) q 0
  digit-stored q h =
      rw stored-digits
      (get_or-append (front ++ written 32 out) back 0 (8 * at + q) (omega (arith, through-length))
      ∙ ap (λ (n : ℕ). get_or (front ++ written 32 out) (n + q) 0) (sym front_length)
      ∙ get_or-append-add front (written 32 out) q 0)

  digit-after : (q : ℕ) → get_or (digits_of (sets old at (four out))) (8 * at + 32 + q) 0 ≡ get_or (digits_of old) (8 * at + 32 + q) 0
  digit-after q =
      let e : 8 * (at + 4) ≡ 8 * at + 32 = omega arith in
      rw stored-digits
      (ap (λ (n : ℕ). get_or (front ++ written 32 out ++ back) (n + q) 0) (sym through-length)
      ∙ get_or-append-add (front ++ written 32 out) back q 0
      ∙ rw (digits-drop (at + 4) old, e) (get_or-drop (8 * at + 32) (digits_of old) q 0))

-- ---- columns after columns

among_in : (x k p : ℕ) → x ≤ p / 4 → p / 4 < x + k → among x k p ≡ true
among_in x k p a b = rw (le-leb x (p / 4) a, lt-ltb (p / 4) (x + k) b)

among-before : (x k p : ℕ) → p / 4 < x → among x k p ≡ false
among-before x k p h = rw (lt-leb x (p / 4) h)

among-after : (x k p : ℕ) → x + k ≤ p / 4 → among x k p ≡ false
among-after x k p h = rw (le-leb x (p / 4) (omega arith), le-ltb (p / 4) (x + k) h)

pub among_none : (x p : ℕ) → among x 0 p ≡ false
among_none x p =
    elim (dec_lt (p / 4) x) [
      | yes h ↦ among-before x 0 p h
      | no h ↦ among-after x 0 p (omega arith)
    ]

-- where place p stands to k columns from x on
pub by-columns : {A : Type 0} (x k p : ℕ) → (p / 4 < x → among x k p ≡ false → A) → (x ≤ p / 4 → p / 4 < x + k → among x k p ≡ true → A)
    → (x + k ≤ p / 4 → among x k p ≡ false → A) → A
by-columns x k p before inside after =
    elim (dec_lt (p / 4) x) [
      | yes h ↦ before h (among-before x k p h)
      | no h ↦
          elim (dec_lt (p / 4) (x + k)) [
            | yes g ↦ inside (omega arith) g (among_in x k p (omega arith) g)
            | no g ↦ after (omega arith) (among-after x k p (omega arith))
          ]
    ]

module _ (ds : List ℕ) (i j : ℕ) where
  pub ran-none : (old : List ℕ) (x : ℕ) → Bytes old → Ran old x 0 ds i j old
  ran-none old x bytes = record { digits = λ p. rw (among_none x p); kept = refl; bytes = bytes }

  -- columns and more, of which some may have been among those before: they get the same digits once more
  pub ran-more : (old mid new : List ℕ) (x k c y i' n : ℕ) → Ran old x k ds i j mid → c ≤ k → k ≤ c + n → y ≡ x + c → i' ≡ i + c → Ran mid y n ds i' j new
      → Ran old x (c + n) ds i j new
  ran-more old mid new x k c y i' n one low over ey ei two =
      record {
        digits = λ p. two.digits p ∙ joined p;
        kept = two.kept ∙ one.kept;
        bytes = two.bytes;
      }
    where
      neither : (t : Bool) (a b : ℕ) → cond (t && false) a b ≡ b
      neither true a b = refl
      neither false a b = refl

      joined : (p : ℕ) → cond (among y n p && eqb (p % 4) j) (get_or ds (i' + (p / 4 - y)) 0) (get_or (digits_of mid) p 0)
          ≡ cond (among x (c + n) p && eqb (p % 4) j) (get_or ds (i + (p / 4 - x)) 0) (get_or (digits_of old) p 0)
      joined p =
          by-columns y n p
          (λ h e. rw e (one.digits p ∙ by-columns x k p (λ g f. rw (f, among-before x (c + n) p g)) (λ g l f. rw (f, among_in x (c + n) p g (omega arith))) (λ g f. absurd (omega arith))))
          (λ h l e. inside h l e (ℕ_discrete (p % 4) j))
          (λ h e. rw (e, one.digits p, among-after x k p (omega arith), among-after x (c + n) p (omega arith)))
        where
          inside : y ≤ p / 4 → p / 4 < y + n → among y n p ≡ true → Dec (p % 4 ≡ j)
              → cond (among y n p && eqb (p % 4) j) (get_or ds (i' + (p / 4 - y)) 0) (get_or (digits_of mid) p 0)
              ≡ cond (among x (c + n) p && eqb (p % 4) j) (get_or ds (i + (p / 4 - x)) 0) (get_or (digits_of old) p 0)
          inside h l e (yes m) =
              let at : i' + (p / 4 - y) ≡ i + (p / 4 - x) = omega arith in
              rw (e, at, among_in x (c + n) p (omega arith) (omega arith), eq-eqb (p % 4) j m)
          inside h l e (no m) =
              rw (e, among_in x (c + n) p (omega arith) (omega arith), ne_eqb (p % 4) j m)
              (one.digits p ∙ rw (ne_eqb (p % 4) j m) (neither (among x k p) _ _))

-- eight columns
pub ran-eight : (old ds : List ℕ) → Binary ds → (at i j : ℕ) → j < 4 → at + 4 ≤ length old → (out : ℕ)
    → out ≡ bit_or (bit_and (window_at (digits_of old) (8 * at) 32) (2 ^ 32 - 1 - own_places j)) (spread_of 8 (window_at ds i 8) * 2 ^ (3 - j))
    → (new : List ℕ) → new ≡ sets old at (four out) → Bytes new → Ran old (2 * at) 8 ds i j new
ran-eight old ds bin at i j jh room out mixes new stores bytes =
    record { digits = λ p. rw stores (digits p); kept = rw stores (length-sets old at (four out)); bytes = bytes }
  where
    digits : (p : ℕ) → get_or (digits_of (sets old at (four out))) p 0 ≡ cond (among (2 * at) 8 p && eqb (p % 4) j) (get_or ds (i + (p / 4 - 2 * at)) 0) (get_or (digits_of old) p 0)
    digits p =
        by-columns (2 * at) 8 p
        (λ h e. rw e (digit-before old at out room p (omega arith)))
        (λ h l e.
        let q = p - 8 * at in
        let place : p ≡ 8 * at + q = omega arith in
        let mine : q % 4 ≡ p % 4 = omega arith in
        let column : q / 4 ≡ p / 4 - 2 * at = omega arith in
        rw e
        (ap (λ (n : ℕ). get_or (digits_of (sets old at (four out))) n 0) place
        ∙ digit-stored old at out room q (omega arith)
        ∙ ap (λ (n : ℕ). get_or (written 32 n) q 0) mixes
        ∙ mix-digit old ds bin at i j jh q (omega arith)
        ∙ rw (mine, column, ← place)))
        (λ h e.
        let q = p - (8 * at + 32) in
        let place : p ≡ 8 * at + 32 + q = omega arith in
        rw e
        (ap (λ (n : ℕ). get_or (digits_of (sets old at (four out))) n 0) place
        ∙ digit-after old at out room q
        ∙ ap (λ (n : ℕ). get_or (digits_of old) n 0) (sym place)))
