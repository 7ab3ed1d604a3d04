-- Laws of lists of digits: their length and values, a digit by its place, a digit written, parts, zeros, and the way back to
-- bytes. The crates above cite these and speak of bytes no more.
use mathlib.Core.Path.{◌≡◌, refl, sym, ap, ap₂, ◌∙◌}
use mathlib.Core.Logic.{◌≢◌}
use mathlib.Core.List.{List, [], ◌∷◌, ◌++◌, map}
use Prim.Native.Nat.{ℕ, zero, suc, ◌+◌, ◌-◌, ◌*◌, ◌/◌, ◌%◌, ◌^◌, ◌<◌}
use native.Mathlib.Nat.{zero-div, add-zero, zero-add, not-suc-le-zero}
use native.Mathlib.Omega.{arith}
use native.Mathlib.Decide.{dec_lt, ℕ_discrete}
use lib.Dec.{lit<}
use lib.ListN.{length, get_or, set, take, drop, replicate, length-set, length-drop, take-append-drop, drop_of_length-le, get_or-append, replicate-append-replicate}
use lib.Seq.{ext_get_or, get_or-set_same, get_or-set_other, get_or-append-add, get_or-take, get_or-drop, take-append-add, drop-append-add, take-nil, drop-nil}
use Rattle.digits.specs.Digits.{eight, digits_of, bytes_of, tab, Bytes, Binary, with_digit}
use Rattle.digits.proofs.Bits.{eight-at, digit-same, digit-other, byte_fits, eight-byte, byte-is}

pub digits-length : (bs : List ℕ) → length (digits_of bs) ≡ 8 * length bs
unfolding digits_of
digits-length [] = refl
digits-length (b ∷ bs) = omega (arith, digits-length bs)

-- the digit at place p is the one of byte p / 8 that is worth 2 to the 7 - p % 8
pub digit_at : (bs : List ℕ) (p : ℕ) → get_or (digits_of bs) p 0 ≡ get_or bs (p / 8) 0 / 2 ^ (7 - p % 8) % 2
unfolding digits_of
digit_at [] p = rw zero-div
digit_at (b ∷ bs) p =
    elim (dec_lt p 8) [
      | yes h ↦
          let at : p / 8 ≡ 0 = omega arith in
          let place : p % 8 ≡ p = omega arith in
          rw (at, place) (get_or-append (eight b) (digits_of bs) 0 p h ∙ eight-at b p h)
      | no h ↦
          let later : p ≡ 8 + (p - 8) = omega arith in
          let at : p / 8 ≡ suc ((p - 8) / 8) = omega arith in
          let place : p % 8 ≡ (p - 8) % 8 = omega arith in
          rw (at, place)
          (ap (λ (k : ℕ). get_or (digits_of (b ∷ bs)) k 0) later ∙ get_or-append-add (eight b) (digits_of bs) (p - 8) 0 ∙ digit_at bs (p - 8))
    ]

pub digits-binary : (bs : List ℕ) → Binary (digits_of bs)
digits-binary bs i = rw digit_at (omega arith)

pub put_same : (bs : List ℕ) (p d : ℕ) → p < 8 * length bs → get_or (set (digits_of bs) p d) p 0 ≡ d
put_same bs p d h = get_or-set_same (digits_of bs) p d 0 (omega (arith, digits-length bs))

pub put_other : (bs : List ℕ) (p d q : ℕ) → q ≢ p → get_or (set (digits_of bs) p d) q 0 ≡ get_or (digits_of bs) q 0
put_other bs p d q n = get_or-set_other (digits_of bs) p q d 0 n

-- to change one digit of one byte is to change that digit of the list
pub digits-put : (bs : List ℕ) (p d : ℕ) → p < 8 * length bs → d < 2 → digits_of (set bs (p / 8) (with_digit (get_or bs (p / 8) 0) (7 - p % 8) d)) ≡ set (digits_of bs) p d
digits-put bs p d h bin =
    ext_get_or 0 (digits_of after) (set (digits_of bs) p d) (simp (digits-length, length-set)) (λ q _. same q)
  where
    old : ℕ
    old = get_or bs (p / 8) 0

    new : ℕ
    new = with_digit old (7 - p % 8) d

    after : List ℕ
    after = set bs (p / 8) new

    there : get_or after (p / 8) 0 ≡ new
    there = get_or-set_same bs (p / 8) new 0 (omega arith)

    kept : (q : ℕ) → q ≢ p → get_or after (q / 8) 0 / 2 ^ (7 - q % 8) % 2 ≡ get_or bs (q / 8) 0 / 2 ^ (7 - q % 8) % 2
    kept q n =
        elim (ℕ_discrete (q / 8) (p / 8)) [
          | yes e ↦ rw (e, there) (digit-other old (7 - p % 8) d bin (7 - q % 8) (λ s. n (omega arith)))
          | no far ↦ rw (get_or-set_other bs (p / 8) (q / 8) new 0 far)
        ]

    same : (q : ℕ) → get_or (digits_of after) q 0 ≡ get_or (set (digits_of bs) p d) q 0
    same q =
        elim (ℕ_discrete q p) [
          | yes e ↦ rw (e, digit_at after p, there, digit-same old (7 - p % 8) d bin) (sym (put_same bs p d h))
          | no n ↦ digit_at after q ∙ kept q n ∙ sym (put_other bs p d q n ∙ digit_at bs q)
        ]

pub digits_append : (xs ys : List ℕ) → digits_of (xs ++ ys) ≡ digits_of xs ++ digits_of ys
unfolding digits_of
digits_append [] ys = refl
digits_append (x ∷ xs) ys = rw (digits_append xs ys)

one-byte-more : (n : ℕ) → 8 * suc n ≡ 8 + 8 * n
one-byte-more n = omega arith

-- the first n bytes are the first 8 * n digits
pub digits-take : (n : ℕ) (bs : List ℕ) → digits_of (take n bs) ≡ take (8 * n) (digits_of bs)
unfolding digits_of
digits-take zero bs = refl
digits-take (suc n) [] = sym (take-nil (8 * suc n))
digits-take (suc n) (b ∷ bs) =
    rw (one-byte-more n, digits-take n bs) (sym (take-append-add (eight b) (digits_of bs) (8 * n)))

pub digits-drop : (n : ℕ) (bs : List ℕ) → digits_of (drop n bs) ≡ drop (8 * n) (digits_of bs)
unfolding digits_of
digits-drop zero bs = refl
digits-drop (suc n) [] = sym (drop-nil (8 * suc n))
digits-drop (suc n) (b ∷ bs) =
    rw (one-byte-more n, digits-drop n bs) (sym (drop-append-add (eight b) (digits_of bs) (8 * n)))

pub digits-part : (a n : ℕ) (bs : List ℕ) → digits_of (take n (drop a bs)) ≡ take (8 * n) (drop (8 * a) (digits_of bs))
digits-part a n bs = rw (digits-take, digits-drop)

pub part-digit : (a n : ℕ) (bs : List ℕ) (i : ℕ) → i < 8 * n → get_or (digits_of (take n (drop a bs))) i 0 ≡ get_or (digits_of bs) (8 * a + i) 0
part-digit a n bs i h = rw (digits-part, get_or-take, get_or-drop)

pub digits-zeros : (n : ℕ) → digits_of (replicate {A = ℕ} n 0) ≡ replicate (8 * n) 0
unfolding digits_of
digits-zeros zero = refl
digits-zeros (suc n) =
    rw (one-byte-more n, digits-zeros n) (replicate-append-replicate 8 (8 * n) 0)

-- ---- from digits back to bytes

pub bytes-length : (n : ℕ) (ds : List ℕ) → length (bytes_of n ds) ≡ n
unfolding bytes_of
bytes-length zero ds = refl
bytes-length (suc n) ds = ap suc (bytes-length n (drop 8 ds))

binary-drop : (ds : List ℕ) → Binary ds → Binary (drop 8 ds)
binary-drop ds bin i = rw get_or-drop (bin (8 + i))

pub bytes-are-bytes : (n : ℕ) (ds : List ℕ) → Binary ds → Bytes (bytes_of n ds)
unfolding bytes_of
bytes-are-bytes zero ds bin i = omega arith
bytes-are-bytes (suc n) ds bin zero = byte_fits ds bin
bytes-are-bytes (suc n) ds bin (suc i) = bytes-are-bytes n (drop 8 ds) (binary-drop ds bin) i

pub bytes-of-digits : (bs : List ℕ) → Bytes bs → bytes_of (length bs) (digits_of bs) ≡ bs
unfolding digits_of bytes_of
bytes-of-digits [] bytes = refl
bytes-of-digits (b ∷ bs) bytes =
    rw (byte-is (eight b) (digits-binary (b ∷ [])) b (bytes 0) (eight-at b), bytes-of-digits bs (λ i. bytes (suc i)))

pub digits-of-bytes : (n : ℕ) (ds : List ℕ) → Binary ds → length ds ≡ 8 * n → digits_of (bytes_of n ds) ≡ ds
unfolding digits_of bytes_of
digits-of-bytes zero ds bin l = sym (drop_of_length-le ds {i = 0} (omega arith))
digits-of-bytes (suc n) ds bin l =
    ap₂ (λ (xs ys : List ℕ). xs ++ ys) (eight-byte ds bin (omega arith))
    (digits-of-bytes n (drop 8 ds) (binary-drop ds bin) (omega (arith, length-drop 8 ds)))
    ∙ take-append-drop 8 ds

-- equal digits are equal bytes
pub digits-inj : (xs ys : List ℕ) → Bytes xs → Bytes ys → digits_of xs ≡ digits_of ys → xs ≡ ys
digits-inj xs ys bx by e =
    let l : length xs ≡ length ys = omega (arith, digits-length xs, digits-length ys, ap length e) in
    sym (bytes-of-digits xs bx) ∙ rw (l, e) (bytes-of-digits ys by)

-- a digit is 0 or 1
pub by-digit : (P : ℕ → Type 0) → P 0 → P 1 → (d : ℕ) → d < 2 → P d
by-digit P z o zero h = z
by-digit P z o (suc zero) h = o
by-digit P z o (suc (suc d)) h = absurd (over h)
  where
    over : suc (suc d) < 2 → ⊥
    over h = omega arith

-- a list given by its places
pub tab-length : (n p : ℕ) (f : ℕ → ℕ) → length (tab n p f) ≡ n
unfolding tab
tab-length zero p f = refl
tab-length (suc n) p f = ap suc (tab-length n (suc p) f)

pub tab-at : (n p : ℕ) (f : ℕ → ℕ) (i : ℕ) → i < n → get_or (tab n p f) i 0 ≡ f (p + i)
unfolding tab
tab-at zero p f i h = absurd (not-suc-le-zero h)
tab-at (suc n) p f zero h = rw (add-zero p)
tab-at (suc n) p f (suc i) h = let e : p + suc i ≡ suc p + i = omega arith in rw e (tab-at n (suc p) f i (omega arith))

-- a list of digits that agrees with f at each place is the list that f gives
pub tab-of : (ds : List ℕ) (n : ℕ) (f : ℕ → ℕ) → length ds ≡ n → ((i : ℕ) → i < n → get_or ds i 0 ≡ f i) → ds ≡ tab n 0 f
tab-of ds n f e h =
    ext_get_or 0 ds (tab n 0 f) (e ∙ sym (tab-length n 0 f))
    (λ i hi. let hn : i < n = omega arith in h i hn ∙ sym (tab-at n 0 f i hn ∙ ap f (zero-add i)))

-- bytes are those that their digits make
pub bytes-by-place : (bs : List ℕ) (f : ℕ → ℕ) → Bytes bs → ((p : ℕ) → p < 8 * length bs → get_or (digits_of bs) p 0 ≡ f p)
    → bs ≡ bytes_of (length bs) (tab (8 * length bs) 0 f)
bytes-by-place bs f b h =
    sym (bytes-of-digits bs b) ∙ ap (λ (ds : List ℕ). bytes_of (length bs) ds) (tab-of (digits_of bs) (8 * length bs) f (digits-length bs) h)

-- digits after digits, a list given by its places, a list picked out, and zeros are digits
pub binary-append : (xs ys : List ℕ) → Binary xs → Binary ys → Binary (xs ++ ys)
binary-append [] ys a b i = b i
binary-append (x ∷ xs) ys a b zero = a 0
binary-append (x ∷ xs) ys a b (suc i) = binary-append xs ys (λ i. a (suc i)) b i

pub tab-binary : (n p : ℕ) (f : ℕ → ℕ) → ((i : ℕ) → f i < 2) → Binary (tab n p f)
unfolding tab
tab-binary zero p f h i = lit< tt
tab-binary (suc n) p f h zero = h p
tab-binary (suc n) p f h (suc i) = tab-binary n (suc p) f h i

pub map-binary : (f : ℕ → ℕ) (xs : List ℕ) → ((i : ℕ) → f i < 2) → Binary (map f xs)
map-binary f [] h i = lit< tt
map-binary f (x ∷ xs) h zero = h x
map-binary f (x ∷ xs) h (suc i) = map-binary f xs h i

pub zeros-at : (n i : ℕ) → get_or (replicate {A = ℕ} n 0) i 0 ≡ 0
zeros-at zero i = refl
zeros-at (suc n) zero = refl
zeros-at (suc n) (suc i) = zeros-at n i

pub zeros-binary : (n : ℕ) → Binary (replicate n 0)
zeros-binary n i = rw zeros-at (lit< tt)

pub map-append : (f : ℕ → ℕ) (xs ys : List ℕ) → map f (xs ++ ys) ≡ map f xs ++ map f ys
map-append f [] ys = refl
map-append f (x ∷ xs) ys = ap (λ (l : List ℕ). f x ∷ l) (map-append f xs ys)

-- a place of a list of which each is made from another's
pub map_at : (f : ℕ → ℕ) (xs : List ℕ) (i : ℕ) → i < length xs → get_or (map f xs) i 0 ≡ f (get_or xs i 0)
map_at f [] i h = absurd (none h)
  where
    none : i < 0 → ⊥
    none h = omega arith
map_at f (x ∷ xs) zero h = refl
map_at f (x ∷ xs) (suc i) h = map_at f xs i (omega arith)
