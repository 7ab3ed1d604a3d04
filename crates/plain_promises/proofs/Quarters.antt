-- Extraction: both engines leave the same buffer. The plain engine says it digit by digit, the quick one quarter by quarter.
use mathlib.Core.Path.{◌≡◌, refl, sym, ◌∙◌, ap, ap₂}
use mathlib.Core.Bool.{Bool, cond, true, false}
use mathlib.Core.List.{List, [], ◌∷◌, ◌++◌, map, append-nil}
use Prim.Native.Nat.{ℕ, zero, suc, ◌+◌, ◌*◌, ◌-◌, ◌/◌, ◌%◌, ◌≤◌, ◌<◌}
use native.Mathlib.Omega.{arith}
use native.Mathlib.Nat.{zero-add, mul_left_comm, zero-mul}
use native.Mathlib.Decide.{dec_lt}
use lib.Arith.{digits_div, digits_mod}
use lib.ListN.{length, get_or, replicate, length-append, length-replicate, get_or-append, get_or-eq_default}
use lib.Seq.{get_or-append-add}
use Rattle.digits.specs.Digits.{digits_of, bytes_of, Binary}
use Rattle.digits.proofs.Laws.{digits-of-bytes, bytes-are-bytes, bytes-length, map-append, map-binary, zeros-binary, zeros-at, binary-append, digits-binary}
use Rattle.table.specs.declared.Row.{Row}
use Rattle.levels.specs.Table.{Shared}
use Rattle.levels.specs.Order.{actions, carries, places_of}
use Rattle.levels.proofs.Counts.{count-of, count_room}
use Rattle.extraction.specs.Quarters as quick
use Rattle.extraction.proofs.Taking as taking
use Rattle.engine.specs.Engine.{digit_at, packed, taken_to, handed_at}
use Rattle.engine.proofs.Packing.{packed-is}
use Rattle.plain.proofs.Handing as plain
use Rattle.plain_promises.proofs.Bytes.{digit-same}
use Rattle.plain_promises.proofs.Order.{column}

-- equal digits make equal slices
packed-same : (n : ℕ) (f g : ℕ → ℕ) → ((p : ℕ) → p < 8 * n → f p ≡ g p) → packed n f ≡ packed n g
unfolding packed
packed-same zero f g e = refl
packed-same (suc n) f g e =
    rw (e 0 (omega arith), e 1 (omega arith), e 2 (omega arith), e 3 (omega arith), e 4 (omega arith), e 5 (omega arith), e 6 (omega arith), e 7 (omega arith))
    (rw (packed-same n (λ (p : ℕ). f (8 + p)) (λ (p : ℕ). g (8 + p)) (λ p h. e (8 + p) (omega arith))))

-- a slice in two parts
packed-cut : (a b : ℕ) (f : ℕ → ℕ) → packed (a + b) f ≡ packed a f ++ packed b (λ (p : ℕ). f (8 * a + p))
unfolding packed
packed-cut zero b f =
    rw (zero-add b) (packed-same b f (λ (p : ℕ). f (8 * 0 + p)) (λ p h. let e : p ≡ 8 * 0 + p = omega arith in ap f e))
packed-cut (suc a) b f =
    let s : suc a + b ≡ suc (a + b) = omega arith in
    rw (s, packed-cut a b (λ (p : ℕ). f (8 + p)))
    (ap (λ (xs : List ℕ). byte ∷ (packed a (λ (p : ℕ). f (8 + p)) ++ xs))
    (packed-same b (λ (p : ℕ). f (8 + (8 * a + p))) (λ (p : ℕ). f (8 * suc a + p)) (λ p h. let e : 8 + (8 * a + p) ≡ 8 * suc a + p = omega arith in ap f e)))
  where
    byte : ℕ
    byte = 128 * f 0 + 64 * f 1 + 32 * f 2 + 16 * f 3 + 8 * f 4 + 4 * f 5 + 2 * f 6 + f 7

-- zeros after a list change none of its digits
padded : (xs : List ℕ) (n i : ℕ) → get_or (xs ++ replicate n 0) i 0 ≡ get_or xs i 0
padded xs n i =
    elim (dec_lt i (length xs)) [
      | yes l ↦ get_or-append xs (replicate n 0) 0 i l
      | no l ↦
          let at : i ≡ length xs + (i - length xs) = omega arith in
          ap (λ (k : ℕ). get_or (xs ++ replicate n 0) k 0) at
          ∙ get_or-append-add xs (replicate n 0) (i - length xs) 0
          ∙ zeros-at n (i - length xs)
          ∙ sym (get_or-eq_default xs 0 (omega arith))
    ]

module _ (row : Row) (sh : Shared row) (earlier : ℕ) (notes line : List ℕ) where
  abbrev theirs : ℕ → List ℕ
  theirs j = quick.taken_to row earlier notes (digits_of line) j (2 * length line)

  -- the same digits of a tributary
  pub taken-columns : (j : ℕ) → j < 4 → (x : ℕ) → taken_to row earlier notes line j (4 * x) ≡ quick.taken_to row earlier notes (digits_of line) j x
  unfolding taken_to quick.taken_to places_of
  taken-columns j jh zero = refl
  taken-columns j jh (suc x) =
      let more = plain.taken_more row earlier notes line j in
      column row sh earlier notes j jh (λ (a b : List ℕ). a ++ b) [] append-nil (λ (p : ℕ). digit_at line p ∷ []) (taken_to row earlier notes line j) more x
      ∙ rw (taken-columns j jh x, digit-same line (4 * x + j)) (sym (grown (carries row (actions row earlier notes j) (4 * x + j)) (4 * x + j)))
    where
      digit : ℕ → ℕ
      digit p = get_or (digits_of line) p 0

      grown : (t : Bool) (p : ℕ)
          → map digit (places_of row (actions row earlier notes j) j x ++ cond t (p ∷ []) []) ≡ map digit (places_of row (actions row earlier notes j) j x) ++ cond t (digit p ∷ []) []
      grown true p = map-append digit (places_of row (actions row earlier notes j) j x) (p ∷ [])
      grown false p = map-append digit (places_of row (actions row earlier notes j) j x) []

  taken-same : (j : ℕ) → j < 4 → taken_to row earlier notes line j (8 * length line) ≡ theirs j
  taken-same j h =
      let e : 8 * length line ≡ 4 * (2 * length line) = omega arith in
      ap (taken_to row earlier notes line j) e ∙ taken-columns j h (2 * length line)

  module _ (q : ℕ) (whole : length line ≡ length notes * row.bytes) (room : length notes * row.room ≤ 8 * q) where
    -- the digits of a quarter fit it
    fits : (j : ℕ) → j < 4 → length (theirs j) ≤ 8 * q
    fits j h =
        let taken = taking.taken-length row earlier notes (digits_of line) j (2 * length line) in
        let counted = count-of row sh j h (actions row earlier notes j) (length notes) (length line) whole in
        omega (arith, taken, counted, count_room row sh j h (actions row earlier notes j) (length notes), room)

    quarter-same : (j : ℕ) → j < 4 → quick.quarter_from row earlier notes line q j ≡ packed q (λ (i : ℕ). handed_at row earlier notes line (8 * q) (8 * (j * q) + i))
    unfolding quick.quarter_from quick.taken_to handed_at
    quarter-same j h =
        packed-is made digit (bytes-are-bytes q padding binary) (λ i hi. at i (omega (arith, hi, bytes-length q padding)))
        ∙ ap (λ (n : ℕ). packed n digit) (bytes-length q padding)
      where
        padding : List ℕ
        padding = theirs j ++ replicate (8 * q - length (theirs j)) 0

        made : List ℕ
        made = bytes_of q padding

        digit : ℕ → ℕ
        digit i = get_or (taken_to row earlier notes line ((8 * (j * q) + i) / (8 * q)) (8 * length line)) ((8 * (j * q) + i) % (8 * q)) 0

        binary : Binary padding
        binary =
            binary-append (theirs j) (replicate (8 * q - length (theirs j)) 0)
            (map-binary (λ (p : ℕ). get_or (digits_of line) p 0) (places_of row (actions row earlier notes j) j (2 * length line)) (λ p. digits-binary line p))
            (zeros-binary (8 * q - length (theirs j)))

        size : length padding ≡ 8 * q
        size =
            length-append (theirs j) (replicate (8 * q - length (theirs j)) 0)
            ∙ omega (arith, length-replicate {A = ℕ} (8 * q - length (theirs j)) 0, fits j h)

        at : (i : ℕ) → i < 8 * q → digit_at made i ≡ digit i
        at i hi =
            let place : 8 * (j * q) + i ≡ j * (8 * q) + i = omega (arith, mul_left_comm j 8 q) in
            digit-same made i
            ∙ ap (λ (l : List ℕ). get_or l i 0) (digits-of-bytes q padding binary size)
            ∙ padded (theirs j) (8 * q - length (theirs j)) i
            ∙ rw (place, digits_div j hi, digits_mod j hi, taken-same j h)

    pub quarters-same : quick.quarters_from row earlier notes line q ≡ packed (4 * q) (handed_at row earlier notes line (8 * q))
    unfolding quick.quarters_from
    quarters-same = sym (ap (λ (n : ℕ). packed n handed) four ∙ packed-cut q (q + (q + q)) handed ∙ ap₂ ◌++◌ (part 0 handed (omega arith) (λ p. ap handed (first p))) second)
      where
        handed : ℕ → ℕ
        handed = handed_at row earlier notes line (8 * q)

        four : 4 * q ≡ q + (q + (q + q))
        four = omega arith

        first : (p : ℕ) → p ≡ 8 * (0 * q) + p
        first p = omega (arith, zero-mul q)

        part : (j : ℕ) (f : ℕ → ℕ) → j < 4 → ((p : ℕ) → f p ≡ handed (8 * (j * q) + p)) → packed q f ≡ quick.quarter_from row earlier notes line q j
        part j f h e = packed-same q f (λ (i : ℕ). handed (8 * (j * q) + i)) (λ p _. e p) ∙ sym (quarter-same j h)

        third : packed (q + q) (λ (p : ℕ). handed (8 * q + (8 * q + p))) ≡ quick.quarter_from row earlier notes line q 2 ++ quick.quarter_from row earlier notes line q 3
        third =
            packed-cut q q (λ (p : ℕ). handed (8 * q + (8 * q + p)))
            ∙ ap₂ ◌++◌
            (part 2 (λ (p : ℕ). handed (8 * q + (8 * q + p))) (omega arith) (λ p. let e : 8 * q + (8 * q + p) ≡ 8 * (2 * q) + p = omega arith in ap handed e))
            (part 3 (λ (p : ℕ). handed (8 * q + (8 * q + (8 * q + p)))) (omega arith) (λ p. let e : 8 * q + (8 * q + (8 * q + p)) ≡ 8 * (3 * q) + p = omega arith in ap handed e))

        second : packed (q + (q + q)) (λ (p : ℕ). handed (8 * q + p))
            ≡ quick.quarter_from row earlier notes line q 1 ++ (quick.quarter_from row earlier notes line q 2 ++ quick.quarter_from row earlier notes line q 3)
        second =
            packed-cut q (q + q) (λ (p : ℕ). handed (8 * q + p))
            ∙ ap₂ ◌++◌ (part 1 (λ (p : ℕ). handed (8 * q + p)) (omega arith) (λ p. let e : 8 * q + p ≡ 8 * (1 * q) + p = omega arith in ap handed e)) third
