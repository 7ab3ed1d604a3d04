-- Laws of zeros: of lists in turn, of parts of a slice in turn, of a byte.
use mathlib.Core.Path.{◌≡◌, refl, sym, ◌∙◌}
use mathlib.Core.List.{List, [], ◌∷◌, ◌++◌}
use Prim.Native.Nat.{ℕ, zero, suc, ◌+◌, ◌-◌, ◌*◌, ◌/◌, ◌%◌, ◌≤◌, ◌<◌}
use native.Mathlib.Omega.{arith}
use lib.Count.{ones, ones_step, ones-le}
use lib.ListN.{length, get_or, drop, replicate, length-drop}
use lib.Seq.{take-add, drop-drop, drop-cons, length-take-le}
use Rattle.digits.specs.Digits.{digits_of, eight, between, zeros_in, Binary}
use Rattle.digits.proofs.Laws.{digits-length, digits-drop, digits-binary}

pub zeros-append : (xs ys : List ℕ) → zeros_in (xs ++ ys) ≡ zeros_in xs + zeros_in ys
unfolding zeros_in
zeros-append [] ys = omega arith
zeros-append (x ∷ xs) ys = omega (arith, zeros-append xs ys)

pub zeros-le : (xs : List ℕ) → zeros_in xs ≤ length xs
unfolding zeros_in
zeros-le [] = omega arith
zeros-le (x ∷ xs) = omega (arith, zeros-le xs)

-- ones have no zeros
pub zeros-ones : (n : ℕ) → zeros_in (replicate n 1) ≡ 0
unfolding zeros_in
zeros-ones zero = refl
zeros-ones (suc n) = omega (arith, zeros-ones n)

-- ---- parts in turn

pub between_none : (bs : List ℕ) (p : ℕ) → between bs p p ≡ []
between_none bs p = let e : p - p ≡ 0 = omega arith in rw e

pub between_join : (bs : List ℕ) (first p q : ℕ) → first ≤ p → p ≤ q → between bs first q ≡ between bs first p ++ between bs p q
between_join bs first p q h h' =
    let e : q - first ≡ p - first + (q - p) = omega arith in
    let f : first + (p - first) ≡ p = omega arith in
    rw e (take-add (p - first) (q - p) (drop first (digits_of bs)) ∙ rw (drop-drop (p - first) first (digits_of bs), f))

pub between-one : (bs : List ℕ) (p : ℕ) → p < 8 * length bs → between bs p (p + 1) ≡ get_or (digits_of bs) p 0 ∷ []
between-one bs p h =
    let e : p + 1 - p ≡ 1 = omega arith in
    rw (e, drop-cons (digits_of bs) p 0 (omega (arith, digits-length bs)))

pub between-length : (bs : List ℕ) (p q : ℕ) → q ≤ 8 * length bs → length (between bs p q) ≡ q - p
between-length bs p q h = length-take-le (q - p) (drop p (digits_of bs)) (omega (arith, length-drop p (digits_of bs), digits-length bs))

pub zeros-none : (bs : List ℕ) (p : ℕ) → 0 ≡ zeros_in (between bs p p)
unfolding zeros_in
zeros-none bs p = rw (between_none bs p)

pub zeros-join : (bs : List ℕ) (first p q z z' : ℕ) → first ≤ p → p ≤ q → z ≡ zeros_in (between bs first p) → z' ≡ zeros_in (between bs p q)
    → z + z' ≡ zeros_in (between bs first q)
zeros-join bs first p q z z' h h' e e' = rw (e, e', between_join bs first p q h h') (sym (zeros-append (between bs first p) (between bs p q)))

pub zeros-one : (bs : List ℕ) (p d : ℕ) → p < 8 * length bs → d ≡ get_or (digits_of bs) p 0 → 1 - d ≡ zeros_in (between bs p (p + 1))
unfolding zeros_in
zeros-one bs p d h e = rw (e, between-one bs p h) (omega arith)

-- ---- a byte

sum_of : List ℕ → ℕ
sum_of [] = 0
sum_of (d ∷ ds) = d + sum_of ds

zeros-sum : (ds : List ℕ) → Binary ds → zeros_in ds + sum_of ds ≡ length ds
unfolding zeros_in sum_of
zeros-sum [] bin = refl
zeros-sum (d ∷ ds) bin = omega (arith, bin 0, zeros-sum ds (λ i. bin (suc i)))

eight-binary : (b : ℕ) → Binary (eight b)
unfolding digits_of
eight-binary b = digits-binary (b ∷ [])

ones-down : (x y : ℕ) → y ≡ x / 2 → ones x ≡ x % 2 + ones y
ones-down x y e = ones_step x ∙ rw (← e)

-- the ones of a byte are the sum of its eight digits
ones-eight : (b : ℕ) → b < 256 → ones b ≡ sum_of (eight b)
unfolding sum_of
ones-eight b h =
    sums (b / 128 % 2) (b / 64 % 2) (b / 32 % 2) (b / 16 % 2) (b / 8 % 2) (b / 4 % 2) (b / 2 % 2) (b % 2) (ones b) (ones (b / 2)) (ones (b / 4)) (ones (b / 8))
    (ones (b / 16)) (ones (b / 32)) (ones (b / 64)) (ones (b / 128)) (ones 0) (ones-down b (b / 2) refl) (ones-down (b / 2) (b / 4) (omega arith))
    (ones-down (b / 4) (b / 8) (omega arith)) (ones-down (b / 8) (b / 16) (omega arith)) (ones-down (b / 16) (b / 32) (omega arith))
    (ones-down (b / 32) (b / 64) (omega arith)) (ones-down (b / 64) (b / 128) (omega arith)) (ones-down (b / 128) 0 (omega arith)) (ones-le 0 0 (omega arith))
  where
    sums : (d7 d6 d5 d4 d3 d2 d1 d0 o0 o1 o2 o3 o4 o5 o6 o7 o8 : ℕ) → o0 ≡ d0 + o1 → o1 ≡ d1 + o2 → o2 ≡ d2 + o3 → o3 ≡ d3 + o4 → o4 ≡ d4 + o5
        → o5 ≡ d5 + o6 → o6 ≡ d6 + o7 → o7 ≡ d7 + o8 → o8 ≤ 0 → o0 ≡ d7 + (d6 + (d5 + (d4 + (d3 + (d2 + (d1 + (d0 + 0)))))))
    sums d7 d6 d5 d4 d3 d2 d1 d0 o0 o1 o2 o3 o4 o5 o6 o7 o8 a0 a1 a2 a3 a4 a5 a6 a7 a8 = omega arith

byte-digits : (bs : List ℕ) (k : ℕ) → k < length bs → between bs (8 * k) (8 * (k + 1)) ≡ eight (get_or bs k 0)
unfolding digits_of
byte-digits bs k h =
    let e : 8 * (k + 1) - 8 * k ≡ 8 = omega arith in
    rw (e, ← digits-drop k bs, drop-cons bs k 0 h)

zeros-byte : (bs : List ℕ) (k : ℕ) → k < length bs → get_or bs k 0 < 256 → zeros_in (between bs (8 * k) (8 * (k + 1))) + ones (get_or bs k 0) ≡ 8
zeros-byte bs k h small = rw (byte-digits bs k h, ones-eight (get_or bs k 0) small) (zeros-sum (eight (get_or bs k 0)) (eight-binary (get_or bs k 0)))

-- ---- whole bytes so far: the ones and the zeros of so many bytes from a first one on

pub ones_none : (bs : List ℕ) (from : ℕ) → 0 + zeros_in (between bs (8 * from) (8 * (from + 0))) ≡ 8 * 0
ones_none bs from = let e : from + 0 ≡ from = omega arith in rw e (omega (arith, zeros-none bs (8 * from)))

pub ones-more : (bs : List ℕ) (from i n k : ℕ) → from + i < length bs → get_or bs (from + i) 0 < 256 → k ≡ ones (get_or bs (from + i) 0)
    → n + zeros_in (between bs (8 * from) (8 * (from + i))) ≡ 8 * i
    → n + k + zeros_in (between bs (8 * from) (8 * (from + (i + 1)))) ≡ 8 * (i + 1)
ones-more bs from i n k room small e inv =
    let up : from + (i + 1) ≡ from + i + 1 = omega arith in
    rw up
    (last n k (zeros_in (between bs (8 * from) (8 * (from + i)))) (zeros_in (between bs (8 * (from + i)) (8 * (from + i + 1))))
    (zeros_in (between bs (8 * from) (8 * (from + i + 1)))) i (rw (← e) at (zeros-byte bs (from + i) room small))
    (zeros-join bs (8 * from) (8 * (from + i)) (8 * (from + i + 1)) _ _ (omega arith) (omega arith) refl refl) inv)
  where
    last : (n k z b z' i : ℕ) → b + k ≡ 8 → z + b ≡ z' → n + z ≡ 8 * i → n + k + z' ≡ 8 * (i + 1)
    last n k z b z' i e s inv = omega arith
