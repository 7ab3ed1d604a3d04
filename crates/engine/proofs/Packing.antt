-- Digits of a slice: one read from a byte on, one written, and the slice that its digits make.
use mathlib.Core.Path.{◌≡◌, refl, ap, ap₂}
use mathlib.Core.Logic.{◌≢◌}
use mathlib.Core.Bool.{cond}
use mathlib.Core.List.{List, [], ◌∷◌}
use Prim.Native.Nat.{ℕ, suc, ◌+◌, ◌-◌, ◌*◌, ◌/◌, ◌%◌, ◌^◌, ◌<◌}
use native.Mathlib.Nat.{div-one}
use native.Mathlib.Omega.{arith}
use native.Mathlib.Decide.{ℕ_discrete}
use lib.Dec.{eqb}
use lib.ListN.{length, get_or, set}
use lib.Seq.{get_or-set_same, get_or-set_other}
use borrow.Author.Tests.{eq-eqb, ne_eqb}
use Rattle.engine.specs.Engine.{digit_at, packed}
use Rattle.engine.specs.Walk.{Bytes}
use Rattle.engine.specs.Change.{changed}
use Rattle.engine.proofs.Bits.{digit-same, digit-other}

-- digit i from byte a on
pub digit-from : (bs : List ℕ) (a i : ℕ) → digit_at bs (8 * a + i) ≡ get_or bs (a + i / 8) 0 / 2 ^ (7 - i % 8) % 2
unfolding digit_at
digit-from bs a i =
    let at : (8 * a + i) / 8 ≡ a + i / 8 = omega arith in
    let place : (8 * a + i) % 8 ≡ i % 8 = omega arith in
    rw (at, place)

-- one digit written
pub digit-put : (bs : List ℕ) (a i d : ℕ) → a + i / 8 < length bs → d < 2
    → (k : ℕ) → digit_at (set bs (a + i / 8) (changed (get_or bs (a + i / 8) 0) (7 - i % 8) d)) k ≡ cond (eqb k (8 * a + i)) d (digit_at bs k)
unfolding digit_at
digit-put bs a i d h bin k =
    elim (ℕ_discrete k (8 * a + i)) [
      | yes e ↦
          let at : k / 8 ≡ a + i / 8 = omega arith in
          let place : k % 8 ≡ i % 8 = omega arith in
          rw (eq-eqb k (8 * a + i) e, at, place, get_or-set_same bs (a + i / 8) new 0 h) (digit-same old (7 - i % 8) d bin)
      | no n ↦ rw (ne_eqb k (8 * a + i) n) (kept n)
    ]
  where
    old : ℕ
    old = get_or bs (a + i / 8) 0

    new : ℕ
    new = changed old (7 - i % 8) d

    kept : k ≢ 8 * a + i → get_or (set bs (a + i / 8) new) (k / 8) 0 / 2 ^ (7 - k % 8) % 2 ≡ get_or bs (k / 8) 0 / 2 ^ (7 - k % 8) % 2
    kept n =
        elim (ℕ_discrete (k / 8) (a + i / 8)) [
          | yes e ↦ rw (e, get_or-set_same bs (a + i / 8) new 0 h) (digit-other old (7 - i % 8) d bin (7 - k % 8) (λ s. n (omega arith)))
          | no far ↦ rw (get_or-set_other bs (a + i / 8) (k / 8) new 0 far)
        ]

pub still-bytes : (bs : List ℕ) (i b : ℕ) → i < length bs → Bytes bs → b < 256 → Bytes (set bs i b)
still-bytes bs i b h bytes byte j =
    elim (ℕ_discrete j i) [
      | yes e ↦ rw (e, get_or-set_same bs i b 0 h) byte
      | no n ↦ rw (get_or-set_other bs i j b 0 n) (bytes j)
    ]

-- a byte is its digits, each with its worth
byte-is : (b : ℕ) → b < 256
    → b ≡ 128 * (b / 128 % 2) + 64 * (b / 64 % 2) + 32 * (b / 32 % 2) + 16 * (b / 16 % 2) + 8 * (b / 8 % 2) + 4 * (b / 4 % 2) + 2 * (b / 2 % 2) + b % 2
byte-is b h =
    added b (b / 2) (b / 4) (b / 8) (b / 16) (b / 32) (b / 64) (b / 128) (b % 2) (b / 2 % 2) (b / 4 % 2) (b / 8 % 2) (b / 16 % 2) (b / 32 % 2) (b / 64 % 2) (b / 128 % 2)
    (omega arith) (omega arith) (omega arith) (omega arith) (omega arith) (omega arith) (omega arith) (omega arith)
  where
    added : (b b1 b2 b3 b4 b5 b6 b7 d0 d1 d2 d3 d4 d5 d6 d7 : ℕ) → b ≡ 2 * b1 + d0 → b1 ≡ 2 * b2 + d1 → b2 ≡ 2 * b3 + d2 → b3 ≡ 2 * b4 + d3 → b4 ≡ 2 * b5 + d4
        → b5 ≡ 2 * b6 + d5 → b6 ≡ 2 * b7 + d6 → b7 ≡ d7 → b ≡ 128 * d7 + 64 * d6 + 32 * d5 + 16 * d4 + 8 * d3 + 4 * d2 + 2 * d1 + d0
    added b b1 b2 b3 b4 b5 b6 b7 d0 d1 d2 d3 d4 d5 d6 d7 e0 e1 e2 e3 e4 e5 e6 e7 = omega arith

-- bytes are those that their digits make
pub packed-is : (bs : List ℕ) (f : ℕ → ℕ) → Bytes bs → ((p : ℕ) → p < 8 * length bs → digit_at bs p ≡ f p) → bs ≡ packed (length bs) f
unfolding digit_at packed
packed-is [] f bytes same = refl
packed-is (b ∷ bs) f bytes same = ap₂ (λ (x : ℕ) (xs : List ℕ). x ∷ xs) byte (packed-is bs (λ (p : ℕ). f (8 + p)) (λ i. bytes (suc i)) rest)
  where
    byte : b ≡ 128 * f 0 + 64 * f 1 + 32 * f 2 + 16 * f 3 + 8 * f 4 + 4 * f 5 + 2 * f 6 + f 7
    byte =
        rw (← same 0 (omega arith), ← same 1 (omega arith), ← same 2 (omega arith), ← same 3 (omega arith))
        (rw (← same 4 (omega arith), ← same 5 (omega arith), ← same 6 (omega arith), ← same 7 (omega arith), div-one b) (byte-is b (bytes 0)))

    rest : (p : ℕ) → p < 8 * length bs → digit_at bs p ≡ f (8 + p)
    rest p h =
        let at : (8 + p) / 8 ≡ suc (p / 8) = omega arith in
        let place : (8 + p) % 8 ≡ p % 8 = omega arith in
        rw (at, place) at (same (8 + p) (omega arith))

-- counted from the first byte on
pub from_start : (bs : List ℕ) (p : ℕ) → digit_at bs (8 * 0 + p) ≡ digit_at bs p
from_start bs p = let e : 8 * 0 + p ≡ p = omega arith in ap (λ (k : ℕ). digit_at bs k) e
