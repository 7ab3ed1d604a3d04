-- The list of differing places, of any test: as long as there are differing places, one place more, and how the frames and places of the first 64 are
-- put behind one another.
use mathlib.Core.Path.{◌≡◌, refl, sym, ◌∙◌, ap}
use mathlib.Core.Bool.{Bool, cond, true, false}
use mathlib.Core.List.{List, [], ◌∷◌, ◌++◌, append_assoc, append-nil}
use Prim.Native.Nat.{ℕ, zero, suc, ◌+◌, ◌-◌, ◌*◌, ◌/◌, ◌%◌}
use native.Mathlib.Omega.{arith}
use native.Mathlib.Decide.{dec_lt}
use native.Mathlib.Numerals.{add-one}
use lib.ListN.{length, set, replicate, length-append}
use lib.Seq.{take_all, take-append-le, append_snoc, set_at}
use borrow.Author.Tests.{lt-ltb, le-ltb}
use Rattle.digits.specs.Sums.{sum_to}
use Rattle.table.specs.declared.Row.{Row}
use Rattle.tally.specs.Tally.{all_of}
use Rattle.differing.specs.Differing.{places_to, pairs_of, list_of}
use Rattle.differing.specs.Counting.{put_place}

module _ (test : ℕ → Bool) where
  one-length : (n : ℕ) (t : Bool) → length (cond t (n ∷ []) []) ≡ cond t 1 0
  one-length n true = refl
  one-length n false = refl

  pub places-length : (n : ℕ) → length (places_to test n) ≡ all_of test n
  unfolding places_to sum_to
  places-length zero = refl
  places-length (suc n) =
      length-append (places_to test n) (cond (test n) (n ∷ []) []) ∙ rw (places-length n) (ap (λ (k : ℕ). all_of test n + k) (one-length n (test n)))

  pub places_same : (p : ℕ) → test p ≡ false → places_to test (p + 1) ≡ places_to test p
  unfolding places_to
  places_same p e = rw (add-one p, e) (append-nil (places_to test p))

  pub places-more : (p : ℕ) → test p ≡ true → places_to test (p + 1) ≡ places_to test p ++ (p ∷ [])
  unfolding places_to
  places-more p e = rw (add-one p, e) refl

module _ (row : Row) where
  pub pairs-length : (ps : List ℕ) → length (pairs_of row ps) ≡ 2 * length ps
  unfolding pairs_of
  pairs-length [] = refl
  pairs-length (p ∷ ps) = omega (arith, pairs-length ps)

  pairs-more : (ps : List ℕ) (p : ℕ) → pairs_of row (ps ++ (p ∷ [])) ≡ pairs_of row ps ++ (p / row.digits ∷ p % row.digits ∷ [])
  unfolding pairs_of
  pairs-more [] p = refl
  pairs-more (q ∷ ps) p = ap (λ (l : List ℕ). q / row.digits ∷ q % row.digits ∷ l) (pairs-more ps p)

  pub list-none : list_of row [] ≡ replicate 128 0
  unfolding list_of pairs_of
  list-none = refl

  -- two zeros behind a front become a frame and a place
  put_two : (front rest : List ℕ) (n f r : ℕ) → length front ≡ n → set (set (front ++ 0 ∷ 0 ∷ rest) n f) (n + 1) r ≡ front ++ (f ∷ r ∷ []) ++ rest
  put_two front rest n f r e =
      let long : length (front ++ (f ∷ [])) ≡ n + 1 = omega (arith, length-append front (f ∷ [])) in
      ap (λ (l : List ℕ). set l (n + 1) r) (set_at front 0 (0 ∷ rest) f n e ∙ sym (append_snoc front f (0 ∷ rest)))
      ∙ set_at (front ++ (f ∷ [])) 0 rest r (n + 1) long
      ∙ append_snoc front f (r ∷ rest)
      ∙ sym (append_assoc front (f ∷ r ∷ []) rest)

  -- one differing place more
  pub list_put : (ps : List ℕ) (p : ℕ) → list_of row (ps ++ (p ∷ [])) ≡ put_place row p (length ps) (list_of row ps)
  unfolding list_of
  list_put ps p =
      elim (dec_lt (length ps) 64) [
        | yes h ↦
            let longer : length (ps ++ (p ∷ [])) ≡ length ps + 1 = length-append ps (p ∷ []) in
            let m = 128 - 2 * (length ps + 1) in
            let room : 128 - 2 * length ps ≡ suc (suc m) = omega arith in
            rw (lt-ltb (length ps) 64 h, take_all 64 ps (omega arith), take_all 64 (ps ++ (p ∷ [])) (omega arith), longer, room, pairs-more ps p)
            (sym (put_two (pairs_of row ps) (replicate m 0) (2 * length ps) (p / row.digits) (p % row.digits) (pairs-length ps)))
        | no h ↦ rw (le-ltb (length ps) 64 (omega arith), take-append-le 64 ps (p ∷ []) (omega arith)) refl
      ]
