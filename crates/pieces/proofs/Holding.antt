-- Laws of the frame in hand: what `begin` writes is `begun`, and what `put_digit` leaves is `put`.
use mathlib.Core.Path.{◌≡◌, sym, ap, ap₂, ◌∙◌}
use mathlib.Core.List.{List, ◌∷◌, ◌++◌, append_assoc}
use Prim.Native.Nat.{ℕ, zero, suc, ◌+◌, ◌-◌, ◌*◌, ◌/◌, ◌%◌, ◌^◌, ◌≤◌, ◌<◌}
use native.Mathlib.Omega.{arith}
use native.Mathlib.Nat.{div-one}
use lib.ListN.{length, set, replicate, length-append, length-set, length-replicate, replicate-append-replicate}
use lib.Pow.{shl_lt}
use Rattle.digits.specs.Digits.{digits_of, eight, Bytes, Binary, written}
use Rattle.digits.proofs.Laws.{digits-length, bytes-of-digits, digits-of-bytes, bytes-length}
use Rattle.digits.proofs.Lists.{binary-zeros, binary-append}
use Rattle.table.specs.declared.Row.{Row}
use Rattle.levels.specs.Table.{Shared}
use Rattle.pieces.specs.Frame.{holding, begun, put}
use Rattle.digits.proofs.Written.{written-length, written-split, written-shift, written-mod}

-- a frame has room for its word: with `Shared`'s `word_some`, that the word has two digits, all that the receiver asks of its length
pub word-within : (row : Row) → Shared row → row.len ≤ row.digits
word-within row sh = omega (arith, sh.counted)

module _ (ds : List ℕ) (bin : Binary ds) (fits : length ds ≤ 2928) where
  -- the array that holds digits has them, and zeros after
  pub holding-digits : digits_of (holding ds) ≡ ds ++ replicate (2928 - length ds) 0
  unfolding holding
  holding-digits =
      digits-of-bytes 366 (ds ++ replicate (2928 - length ds) 0)
      (binary-append ds (replicate (2928 - length ds) 0) bin (binary-zeros (2928 - length ds)))
      (length-append ds (replicate (2928 - length ds) 0) ∙ omega (arith, length-replicate {A = ℕ} (2928 - length ds) 0))

pub holding-length : (ds : List ℕ) → length (holding ds) ≡ 366
unfolding holding
holding-length ds = bytes-length 366 (ds ++ replicate (2928 - length ds) 0)

-- ---- what `begin` writes

-- a byte's digits, and those of two bytes
eight-written : (b : ℕ) → eight b ≡ written 8 b
unfolding written
eight-written b = rw (div-one b)

two_bytes : (h : ℕ) → eight (h / 256) ++ eight (h % 256) ≡ written 16 h
two_bytes h =
    ap₂ (λ (xs ys : List ℕ). xs ++ ys) (eight-written (h / 256)) (eight-written (h % 256))
    ∙ ap (λ (ds : List ℕ). written 8 (h / 256) ++ ds) (written-mod 8 8 h (omega arith)) ∙ sym (written-split 8 8 h)

head-digits : (h : ℕ) → digits_of (h / 256 ∷ h % 256 ∷ replicate 364 0) ≡ written 16 h ++ replicate 2912 0
unfolding digits_of
head-digits h = ap (λ (ds : List ℕ). ds ++ replicate 2912 0) (two_bytes h)

pub head-fits : (row : Row) (w s : ℕ) → w < 2 ^ row.len → s + row.len ≡ 16 → w * 2 ^ s < 65536
head-fits row w s hw hs =
    let e : row.len + s ≡ 16 = omega arith in
    rw e at (shl_lt {a = w} row.len s hw)

pub begun-is : (row : Row) (w s : ℕ) → w < 2 ^ row.len → s + row.len ≡ 16
    → w * 2 ^ s / 256 ∷ w * 2 ^ s % 256 ∷ replicate 364 0 ≡ begun row w
unfolding begun holding
begun-is row w s hw hs =
    let e : 16 ≡ row.len + s = omega arith in
    let n : 2928 - row.len ≡ s + 2912 = omega arith in
    let zeros : replicate {A = ℕ} s 0 ++ replicate 2912 0 ≡ replicate (s + 2912) 0 = replicate-append-replicate {A = ℕ} s 2912 0 in
    sym (bytes-of-digits (w * 2 ^ s / 256 ∷ w * 2 ^ s % 256 ∷ replicate 364 0) bytes)
    ∙ rw (head-digits (w * 2 ^ s), e, written-shift row.len s w, append_assoc (written row.len w) (replicate s 0) (replicate 2912 0), zeros, ← n, written-length row.len w)
  where
    bytes : Bytes (w * 2 ^ s / 256 ∷ w * 2 ^ s % 256 ∷ replicate 364 0)
    bytes zero = omega (arith, head-fits row w s hw hs)
    bytes (suc zero) = omega arith
    bytes (suc (suc i)) = omega (arith, binary-zeros 364 i)

-- ---- what `put_digit` leaves

pub put_is : (f f' : List ℕ) (p d : ℕ) → digits_of f' ≡ set (digits_of f) p d → Bytes f' → f' ≡ put f p d
unfolding put
put_is f f' p d e bytes =
    let l : length f' ≡ length f =
    omega (arith, digits-length f', digits-length f, length-set (digits_of f) p d, ap length e) in
    sym (bytes-of-digits f' bytes) ∙ rw (l, e)
