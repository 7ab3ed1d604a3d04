-- A channel from 1 to 15 is silent exactly where its byte of the signalling is under 16.
use mathlib.Core.Path.{◌≡◌, refl, sym, ap, ◌∙◌}
use mathlib.Core.Bool.{Bool}
use mathlib.Core.Logic.{◌≢◌}
use mathlib.Core.List.{List}
use Prim.Native.Nat.{ℕ, zero, suc, ◌+◌, ◌-◌, ◌*◌, ◌/◌, ◌%◌, ◌^◌, ◌≤◌, ◌<◌}
use native.Mathlib.Numerals.{add-one}
use native.Mathlib.Omega.{arith}
use native.Mathlib.Decide.{dec_lt}
use lib.Dec.{ltb}
use lib.ListN.{length, get_or}
use borrow.Author.Tests.{eq-eqb, ne_eqb, le-leb, lt-ltb, le-ltb, ltb-true, ltb-false}
use Rattle.std.specs.Prelude.{Some, None}
use Rattle.std.specs.List.{position, position_or_len}
use Rattle.std.proofs.lemmas.List.Sums.{fails_before_first, passes_at_first}
use Rattle.digits.specs.Digits.{digits_of}
use Rattle.digits.proofs.Laws.{digit_at}
use Rattle.multiframe.specs.Calls.{ones_of, silent_from}

-- a byte has no 1 in its first four digits exactly where it is under 16
none : (b : ℕ) → b < 16 → b / 128 % 2 + b / 64 % 2 + b / 32 % 2 + b / 16 % 2 ≡ 0
none b h =
    let one : b / 128 ≡ 0 = omega arith in
    let two : b / 64 ≡ 0 = omega arith in
    let three : b / 32 ≡ 0 = omega arith in
    let four : b / 16 ≡ 0 = omega arith in
    rw (one, two, three, four) refl

under128 : (b : ℕ) → b < 256 → b / 128 % 2 ≡ 0 → b < 128
under128 b h e = omega arith

under64 : (b : ℕ) → b < 128 → b / 64 % 2 ≡ 0 → b < 64
under64 b h e = omega arith

under32 : (b : ℕ) → b < 64 → b / 32 % 2 ≡ 0 → b < 32
under32 b h e = omega arith

last16 : (b : ℕ) → b < 32 → b / 16 % 2 ≡ 0 → b < 16
last16 b h e = omega arith

each-zero : (w x y z : ℕ) → w + x + y + z ≡ 0 → (w ≡ 0) × (x ≡ 0) × (y ≡ 0) × (z ≡ 0)
each-zero w x y z e = (omega arith, omega arith, omega arith, omega arith)

under16 : (b : ℕ) → b < 256 → b / 128 % 2 + b / 64 % 2 + b / 32 % 2 + b / 16 % 2 ≡ 0 → b < 16
under16 b h e =
    let z = each-zero (b / 128 % 2) (b / 64 % 2) (b / 32 % 2) (b / 16 % 2) e in
    last16 b (under32 b (under64 b (under128 b h z.0) z.1) z.2) z.3

module _ (signalling : List ℕ) (c : ℕ) (lo : 1 ≤ c) (hi : c < 16) (byte : get_or signalling (c - 1) 0 < 256) where
  abbrev b : ℕ
  b = get_or signalling (c - 1) 0

  at : (i : ℕ) → i < 4 → get_or (digits_of signalling) (8 * (c - 1) + i) 0 ≡ b / 2 ^ (7 - i) % 2
  at i h =
      let k : (8 * (c - 1) + i) / 8 ≡ c - 1 = omega arith in
      let d : (8 * (c - 1) + i) % 8 ≡ i = omega arith in
      digit_at signalling (8 * (c - 1) + i) ∙ rw (k, d) refl

  ones : ones_of signalling c ≡ b / 128 % 2 + b / 64 % 2 + b / 32 % 2 + b / 16 % 2
  ones =
      let z : 8 * (c - 1) + 0 ≡ 8 * (c - 1) = omega arith in
      let first : get_or (digits_of signalling) (8 * (c - 1)) 0 ≡ b / 128 % 2 = rw z at (at 0 (omega arith)) in
      rw (le-leb c 15 (omega arith)) (omega (arith, first, at 1 (omega arith), at 2 (omega arith), at 3 (omega arith)))

  pub silent-here : b < 16 → ones_of signalling c ≡ 0
  silent-here h = ones ∙ none b h

  pub not-silent : 16 ≤ b → ones_of signalling c ≢ 0
  not-silent h e = over (under16 b byte (sym ones ∙ e)) h
    where
      over : b < 16 → 16 ≤ b → ⊥
      over l g = omega arith

  -- so the search from channel c on stops here, or goes on
  pub stops : (n : ℕ) → b < 16 → silent_from signalling c (suc n) ≡ c
  unfolding silent_from
  stops n h = rw (eq-eqb (ones_of signalling c) 0 (silent-here h))

  pub goes_on : (n : ℕ) → 16 ≤ b → silent_from signalling c (suc n) ≡ silent_from signalling (c + 1) n
  unfolding silent_from
  goes_on n h = rw (ne_eqb (ones_of signalling c) 0 (not-silent h), add-one c)

-- ---- the first silent channel, by where std's search stops

module _ (signalling : List ℕ) (byte : (i : ℕ) → get_or signalling i 0 < 256) where
  -- channels 1 to i are not silent: the search goes on from channel i + 1
  passed : (i : ℕ) → i ≤ 15 → ((k : ℕ) → k < i → 16 ≤ get_or signalling k 0) → silent_from signalling 1 15 ≡ silent_from signalling (i + 1) (15 - i)
  passed zero h over = refl
  passed (suc i) h over =
      let e : i + 1 - 1 ≡ i = omega arith in
      let n : 15 - i ≡ suc (15 - suc i) = omega arith in
      let m : i + 1 + 1 ≡ suc i + 1 = omega arith in
      let on = goes_on signalling (i + 1) (omega arith) (omega arith) (byte (i + 1 - 1)) (15 - suc i) (rw e (over i (omega arith))) in
      passed i (omega arith) (λ k l. over k (omega arith))
      ∙ ap (λ (k : ℕ). silent_from signalling (i + 1) k) n
      ∙ on
      ∙ ap (λ (k : ℕ). silent_from signalling k (15 - suc i)) m

  abbrev under : ℕ → Bool
  under byte = ltb byte 16

  abbrev first : ℕ
  first = position_or_len under signalling

  before : (k : ℕ) → k < first → 16 ≤ get_or signalling k 0
  before k h = ltb-false (get_or signalling k 0) 16 (fails_before_first under signalling k 0 h)

  at_first : length signalling ≡ 15 → first < 15 → silent_from signalling 1 15 ≡ first + 1
  at_first l h =
      let e : first + 1 - 1 ≡ first = omega arith in
      let n : 15 - first ≡ suc (14 - first) = omega arith in
      let low : get_or signalling first 0 < 16 = ltb-true (get_or signalling first 0) 16 (passes_at_first under signalling 0 (omega arith)) in
      passed first (omega arith) before
      ∙ ap (λ (k : ℕ). silent_from signalling (first + 1) k) n
      ∙ stops signalling (first + 1) (omega arith) (omega arith) (byte (first + 1 - 1)) (14 - first) (rw e low)

  nowhere : 15 ≤ first → silent_from signalling 1 15 ≡ 0
  unfolding silent_from
  nowhere h = passed 15 (omega arith) (λ k l. before k (omega arith))

  pub named : (i : ℕ) → length signalling ≡ 15 → Some i ≡ position under signalling → silent_from signalling 1 15 ≡ i + 1
  named i l e =
      elim (dec_lt first 15) [
        | yes h ↦
            let is : i ≡ first = some (rw (l, lt-ltb first 15 h) at e) in
            at_first l h ∙ ap (λ (k : ℕ). k + 1) (sym is)
        | no h ↦ absurd (none-some (rw (l, le-ltb first 15 (omega arith)) at e))
      ]
    where
      some : {x : ℕ} → Some i ≡ Some x → i ≡ x
      some e = cc

      none-some : Some i ≡ None → ⊥
      none-some e = cc

  pub unnamed : length signalling ≡ 15 → None ≡ position under signalling → silent_from signalling 1 15 ≡ 0
  unnamed l e =
      elim (dec_lt first 15) [
        | yes h ↦ absurd (some-none (rw (l, lt-ltb first 15 h) at e))
        | no h ↦ nowhere (omega arith)
      ]
    where
      some-none : {x : ℕ} → None ≡ Some x → ⊥
      some-none e = cc
