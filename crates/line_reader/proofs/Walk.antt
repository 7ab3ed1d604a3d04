-- The walk over a line: a reader at place 0 of a line of at most 65,536 bytes gives the line's digits, all of them, in
-- order and once, and then says that the line has ended; one at which the line has ended stays where it is.
use mathlib.Core.Path.{◌≡◌, refl, sym, ap, ◌∙◌}
use mathlib.Core.List.{List, [], ◌∷◌}
use Prim.Native.Nat.{ℕ, zero, suc, ◌+◌, ◌*◌, ◌≤◌, ◌<◌}
use native.Mathlib.Numerals.{add-one}
use native.Mathlib.Omega.{arith}
use native.Mathlib.Decide.{dec_lt}
use lib.ListN.{length, get_or, take, drop, drop_of_length-le}
use lib.Seq.{take_all, take-nil, drop-cons}
use denote.Ref.{Bor}
use Rattle.digits.specs.Digits.{digits_of}
use Rattle.digits.proofs.Laws.{digits-length}
use Rattle.line_reader.specs.Step.{step_at, ending, giving, reader_at, next_of, moved_on}
use Rattle.line_reader.specs.Walk.{reader_after, steps_of, digits_given}
use Rattle.line_reader.proofs.Ways.{gives, past-last, over-long}

-- ---- where the line has ended, nothing moves and no digit is given, however often one steps

module _ (line : Bor (List ℕ)) (place : ℕ) (end : step_at line.now place ≡ ending place) where
  stays : moved_on (reader_at line place) ≡ reader_at line place
  stays = rw end

  pub ended-stays : (n : ℕ) → reader_after n (reader_at line place) ≡ reader_at line place
  unfolding reader_after
  ended-stays zero = refl
  ended-stays (suc n) = rw stays (ended-stays n)

  pub ended-gives-none : (n : ℕ) → digits_given (steps_of n (reader_at line place)) ≡ []
  unfolding steps_of digits_given
  ended-gives-none zero = refl
  ended-gives-none (suc n) = rw end (ended-gives-none n)

-- ---- a line of at most 65,536 bytes

module _ (line : Bor (List ℕ)) (fits : length line.now ≤ 65536) where
  abbrev ds : List ℕ
  ds = digits_of line.now

  -- n steps that find a digit each go n places on
  pub goes_on : (n place : ℕ) → place + n ≤ 8 * length line.now → reader_after n (reader_at line place) ≡ reader_at line (place + n)
  unfolding reader_after
  goes_on zero place h =
      let none : place ≡ place + 0 = omega arith in
      ap (reader_at line) none
  goes_on (suc n) place h =
      let on : place + 1 + n ≡ place + suc n = omega arith in
      rw (gives line.now place fits (omega arith)) (goes_on n (place + 1) (omega arith) ∙ ap (reader_at line) on)

  -- steps enough reach the place behind the last digit, and stay there
  pub goes-to-the-end : (n place : ℕ) → place ≤ 8 * length line.now → 8 * length line.now ≤ place + n → reader_after n (reader_at line place) ≡ reader_at line (8 * length line.now)
  unfolding reader_after
  goes-to-the-end zero place low high =
      let there : place ≡ 8 * length line.now = omega arith in
      ap (reader_at line) there
  goes-to-the-end (suc n) place low high =
      elim (dec_lt place (8 * length line.now)) [
        | yes h ↦ rw (gives line.now place fits h) (goes-to-the-end n (place + 1) (omega arith) (omega arith))
        | no h ↦
            let there : place ≡ 8 * length line.now = omega arith in
            ended-stays line place (past-last line.now place (omega arith)) (suc n) ∙ ap (reader_at line) there
      ]

  -- n steps from any place give the next n digits, or as many as the line has left
  pub gives_in_order : (n place : ℕ) → digits_given (steps_of n (reader_at line place)) ≡ take n (drop place ds)
  unfolding steps_of digits_given
  gives_in_order zero place = refl
  gives_in_order (suc n) place =
      elim (dec_lt place (8 * length line.now)) [
        | yes h ↦
            let more : place < length ds = omega (arith, digits-length line.now) in
            rw (gives line.now place fits h, drop-cons ds place 0, ← add-one place) (ap (λ (rest : List ℕ). get_or ds place 0 ∷ rest) (gives_in_order n (place + 1)))
        | no h ↦
            let none : length ds ≤ place = omega (arith, digits-length line.now) in
            ended-gives-none line place (past-last line.now place (omega arith)) (suc n) ∙ sym (rw (drop_of_length-le ds none) (take-nil (suc n)))
      ]

  -- step i of the walk from the line's start gives digit i
  pub walk_step : (i : ℕ) → i < 8 * length line.now → next_of (reader_after i (reader_at line 0)) ≡ giving line.now i
  walk_step i h =
      let start : 0 + i ≡ i = omega arith in
      rw (goes_on i 0 (omega arith), start) (gives line.now i fits h)

  -- the walk from the line's start gives exactly the line's digits
  pub walk-gives : digits_given (steps_of (8 * length line.now) (reader_at line 0)) ≡ digits_of line.now
  walk-gives = gives_in_order (8 * length line.now) 0 ∙ take_all (8 * length line.now) ds (omega (arith, digits-length line.now))

  -- and then it ends, behind the last digit, for good
  pub walk_ends : (n : ℕ) → 8 * length line.now ≤ n → next_of (reader_after n (reader_at line 0)) ≡ ending (8 * length line.now)
  walk_ends n h = rw (goes-to-the-end n 0 (omega arith) (omega arith)) (past-last line.now (8 * length line.now) (omega arith))

-- ---- a line over 65,536 bytes has ended at every place

pub long-line-ends : (line : Bor (List ℕ)) (n place : ℕ) → 65536 < length line.now → digits_given (steps_of n (reader_at line place)) ≡ []
long-line-ends line n place long = ended-gives-none line place (over-long line.now place long) n
