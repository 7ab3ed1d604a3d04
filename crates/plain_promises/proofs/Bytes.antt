-- The plain engine's digits are the digits of the quick one: a digit of a slice, a digit of a quarter, a slice that digits make.
use mathlib.Core.Path.{◌≡◌, sym, ◌∙◌, ap}
use mathlib.Core.List.{List}
use Prim.Native.Nat.{ℕ, ◌+◌, ◌*◌, ◌/◌, ◌<◌}
use native.Mathlib.Omega.{arith}
use native.Mathlib.Nat.{zero-add}
use native.Mathlib.Decide.{dec_lt}
use lib.ListN.{length, get_or, get_or-eq_default}
use borrow.Author.Tests.{lt-ltb, le-ltb}
use Rattle.digits.specs.Digits.{digits_of, bytes_of, tab}
use Rattle.digits.proofs.Laws.{digit_at as digit_at_lem, digits-length, digits-of-bytes, bytes-are-bytes, bytes-length, tab-binary, tab-length, tab-at, part-digit}
use Rattle.levels.specs.Sizes.{quarter_of}
use Rattle.levels.proofs.Buffers.{quarter-length}
use Rattle.engine.specs.Engine.{digit_at, packed, quarter_digit}
use Rattle.engine.proofs.Packing.{packed-is}

pub digit-same : (bs : List ℕ) (p : ℕ) → digit_at bs p ≡ get_or (digits_of bs) p 0
unfolding digit_at
digit-same bs p = sym (digit_at_lem bs p)

pub quarter-same : (buffer : List ℕ) (j : ℕ) → j < 4 → (i : ℕ) → quarter_digit buffer j i ≡ get_or (digits_of (quarter_of buffer j)) i 0
unfolding quarter_digit
quarter-same buffer j h i =
    let q = length buffer / 4 in
    elim (dec_lt i (8 * q)) [
      | yes l ↦ rw (lt-ltb i (8 * q) l) (digit-same buffer (8 * (j * q) + i) ∙ sym (part-digit (j * q) q buffer i l))
      | no l ↦
          rw (le-ltb i (8 * q) (omega arith))
          (sym (get_or-eq_default (digits_of (quarter_of buffer j)) 0 (omega (arith, digits-length (quarter_of buffer j), quarter-length buffer j h))))
    ]

pub packed-same : (n : ℕ) (f : ℕ → ℕ) → ((p : ℕ) → f p < 2) → bytes_of n (tab (8 * n) 0 f) ≡ packed n f
packed-same n f bin =
    packed-is made f (bytes-are-bytes n ds binary) (λ p h. digit p (omega (arith, bytes-length n ds))) ∙ ap (λ (m : ℕ). packed m f) (bytes-length n ds)
  where
    ds : List ℕ
    ds = tab (8 * n) 0 f

    made : List ℕ
    made = bytes_of n ds

    binary : (i : ℕ) → get_or ds i 0 < 2
    binary = tab-binary (8 * n) 0 f bin

    digit : (p : ℕ) → p < 8 * n → digit_at made p ≡ f p
    digit p h =
        digit-same made p
        ∙ ap (λ (l : List ℕ). get_or l p 0) (digits-of-bytes n ds binary (tab-length (8 * n) 0 f))
        ∙ tab-at (8 * n) 0 f p h
        ∙ ap f (zero-add p)
