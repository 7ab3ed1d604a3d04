-- There are such lines (specs/Line.antt), of any length and begun anywhere: the words, and 1 at every other place.
use mathlib.Core.Path.{◌≡◌, refl, sym, ap, ◌∙◌}
use mathlib.Core.List.{List}
use Prim.Native.Nat.{ℕ, zero, suc, ◌+◌, ◌-◌, ◌≤◌, ◌<◌}
use native.Mathlib.Omega.{arith}
use borrow.Author.Tests.{eqb-true}
use lib.Dec.{eqb}
use lib.ListN.{length, get_or, take, drop}
use lib.Seq.{get_or-take, get_or-drop}
use Rattle.digits.proofs.Tests.{cond-told}
use Rattle.digits.proofs.Laws.{tab-length, tab-at, tab-binary}
use Rattle.finder_2048.specs.Modes.{word}
use Rattle.finder_2048_promises.specs.Line.{in_frames, Line, ones_at, ones_line}

zero-at : (p : ℕ) (P : Type 0) → ones_at p ≡ 0 → (p ≡ 1 → P) → (p ≡ 2 → P) → (p ≡ 5 → P) → P
zero-at p P =
    cond-told (λ (d : ℕ). d ≡ 0 → (p ≡ 1 → P) → (p ≡ 2 → P) → (p ≡ 5 → P) → P) (eqb p 1) (λ e _ a b c. a (eqb-true p 1 e))
    (λ _. cond-told (λ (d : ℕ). d ≡ 0 → (p ≡ 1 → P) → (p ≡ 2 → P) → (p ≡ 5 → P) → P) (eqb p 2) (λ e _ a b c. b (eqb-true p 2 e))
    (λ _. cond-told (λ (d : ℕ). d ≡ 0 → (p ≡ 1 → P) → (p ≡ 2 → P) → (p ≡ 5 → P) → P) (eqb p 5) (λ e _ a b c. c (eqb-true p 5 e))
    (λ _ z a b c. absurd (omega arith))))

ones_small : (p : ℕ) → ones_at p < 2
ones_small p =
    cond-told (λ (d : ℕ). d < 2) (eqb p 1) (λ _. omega arith)
    (λ _. cond-told (λ (d : ℕ). d < 2) (eqb p 2) (λ _. omega arith)
    (λ _. cond-told (λ (d : ℕ). d < 2) (eqb p 5) (λ _. omega arith) (λ _. omega arith)))

-- the first two digits of the word are 0, and only places 1 and 2 of the frames have two zeros in a row
pub ones-line : (o n : ℕ) → Line o (ones_line o n)
ones-line o n =
    record {
      binary = tab-binary n 0 (λ i. ones_at (in_frames o i)) (λ i. ones_small (in_frames o i));
      words = λ i h lo hi. at i (rw size at h) ∙ by_place (in_frames o i) lo hi;
      second_digits = λ i h e. at i (rw size at h) ∙ ap ones_at e;
      no_others = no_others;
    }
  where
    ds : List ℕ
    ds = ones_line o n

    size : length ds ≡ n
    size = tab-length n 0 (λ i. ones_at (in_frames o i))

    at : (i : ℕ) → i < n → get_or ds i 0 ≡ ones_at (in_frames o i)
    at i h = let e : 0 + i ≡ i = omega arith in rw e at (tab-at n 0 (λ i. ones_at (in_frames o i)) i h)

    by_place : (p : ℕ) → 1 ≤ p → p < 8 → ones_at p ≡ get_or word (p - 1) 0
    by_place zero lo hi = absurd (omega arith)
    by_place (suc zero) lo hi = refl
    by_place (suc (suc zero)) lo hi = refl
    by_place (suc (suc (suc zero))) lo hi = refl
    by_place (suc (suc (suc (suc zero)))) lo hi = refl
    by_place (suc (suc (suc (suc (suc zero))))) lo hi = refl
    by_place (suc (suc (suc (suc (suc (suc zero)))))) lo hi = refl
    by_place (suc (suc (suc (suc (suc (suc (suc zero))))))) lo hi = refl
    by_place (suc (suc (suc (suc (suc (suc (suc (suc p)))))))) lo hi = absurd (omega arith)

    digit : (i j : ℕ) → j < 7 → i + 7 ≤ length ds → take 7 (drop i ds) ≡ word → ones_at (in_frames o (i + j)) ≡ get_or word j 0
    digit i j h room e =
        sym (at (i + j) (omega (arith, size)))
        ∙ sym (get_or-drop i ds j 0)
        ∙ sym (get_or-take 7 (drop i ds) j 0 h)
        ∙ ap (λ (xs : List ℕ). get_or xs j 0) e

    no_others : (i : ℕ) → i + 7 ≤ length ds → take 7 (drop i ds) ≡ word → in_frames o i ≡ 1
    no_others i room e =
        let here : i + 0 ≡ i = omega arith in
        let one : ones_at (in_frames o i) ≡ 0 = rw here at (digit i 0 (omega arith) room e) in
        let two : ones_at (in_frames o (i + 1)) ≡ 0 = digit i 1 (omega arith) room e in
        zero-at (in_frames o i) (in_frames o i ≡ 1) one (λ p. p)
        (λ p. zero-at (in_frames o (i + 1)) (in_frames o i ≡ 1) two (λ q. omega arith) (λ q. omega arith) (λ q. omega arith))
        (λ p. zero-at (in_frames o (i + 1)) (in_frames o i ≡ 1) two (λ q. omega arith) (λ q. omega arith) (λ q. omega arith))
