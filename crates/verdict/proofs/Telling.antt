-- The answer, number after number.
use mathlib.Core.Path.{◌≡◌, refl, sym, ◌∙◌, ap}
use mathlib.Core.List.{List, [], ◌∷◌, ◌++◌, append_assoc}
use Prim.Native.Nat.{ℕ, zero, suc, ◌+◌, ◌-◌, ◌*◌, ◌/◌, ◌%◌, ◌≤◌, ◌<◌}
use native.Mathlib.Omega.{arith}
use native.Mathlib.Numerals.{add-one}
use lib.Dec.{eqb}
use lib.ListN.{length, get_or, take, drop, set, length-set, length-append}
use lib.Seq.{get_or-take, get_or-drop}
use borrow.Author.Tests.{eq-eqb}
use Rattle.digits.proofs.Tests.{cond-told}
use Rattle.slips.specs.Slips.{least_of, best_of}
use Rattle.slips.proofs.Relaid.{best-least}
use Rattle.verdict_blocks.specs.Blocks.{Block, better_of}
use Rattle.verdict_blocks.specs.Keeping.{block_from, block_at}
use Rattle.verdict.specs.Feed.{signed_shift, told_of, tributary_told, answer_of}
use Rattle.verdict_states.specs.States.{state_from}
use Rattle.verdict_blocks.proofs.Kept.{take_all}
use Rattle.verdict_states.proofs.Cutting.{part-more, part_length, first-set}

-- in the code's terms
pub told-best : (l : List ℕ) → get_or l 2 0 ≡ 1 → (v : List ℕ) → v ≡ take 17 (drop 8 l) → (c : ℕ) → c ≡ best_of v → c ≤ 16 → (wrong : ℕ)
    → wrong ≡ get_or v c 0 / 4294967296 - 16 * (get_or v c 0 % 4294967296) → (shift : ℕ) → shift ≡ signed_shift (get_or l 4 0 + c)
    → (get_or l 0 0 ∷ get_or l 1 0 ∷ get_or l 3 0 ∷ wrong ∷ get_or v c 0 % 4294967296 ∷ shift ∷ get_or l (25 + c) 0 ∷ []) ≡ told_of (block_from l)
unfolding told_of block_from
told-best l known v ev c ec hc wrong ew shift es =
    let lanes = take 17 (drop 8 l) in
    let same : c ≡ best_of lanes = ec ∙ ap best_of ev in
    let number : get_or v c 0 ≡ least_of lanes = rw (ev, same) (best-least lanes) in
    let mark : get_or l (25 + c) 0 ≡ get_or (take 17 (drop 25 l)) (best_of lanes) 0 =
    sym (get_or-take 17 (drop 25 l) c 0 (omega (arith, hc)) ∙ get_or-drop 25 l c 0) ∙ ap (λ (k : ℕ). get_or (take 17 (drop 25 l)) k 0) same in
    rw (eq-eqb (get_or l 2 0) 1 known, ew, es, number, mark, same)

pub told-length : (b : Block) → length (told_of b) ≡ 7
unfolding told_of
told-length b = cond-told (λ (x : List ℕ). length x ≡ 7) (eqb b.standing.taken 1) (λ t. refl) (λ f. refl)

-- ---- a tributary

module _ (ns : List ℕ) (j : ℕ) where
  abbrev told : ℕ → List ℕ
  told b = told_of (block_at ns b)

  abbrev first : ℕ
  first = get_or ns (7 + j) 0

  pub tributary-parts : (out : List ℕ) → length out ≡ 22 → (one : List ℕ)
      → one ≡ take 1 (set out 0 first) ++ (told j ++ drop 7 (drop 1 (set out 0 first))) → (r : ℕ)
      → block_at ns r ≡ better_of (block_at ns (4 + j)) (block_at ns (8 + j)) → (two : List ℕ) → two ≡ take 8 one ++ (told r ++ drop 7 (drop 8 one)) → (three : List ℕ)
      → three ≡ take 15 two ++ (told (12 + j) ++ drop 7 (drop 15 two)) → three ≡ tributary_told (state_from ns) j
  unfolding state_from
  tributary-parts out size one e1 r er two e2 three e3 =
      let start = set out 0 first in
      let long0 : length start ≡ 22 = length-set out 0 first ∙ size in
      let long1 : length one ≡ 22 = ap length e1 ∙ (part_length 1 7 start (told j) (omega (arith, long0)) (told-length (block_at ns j)) ∙ long0) in
      let long2 : length two ≡ 22 = ap length e2 ∙ (part_length 8 7 one (told r) (omega (arith, long1)) (told-length (block_at ns r)) ∙ long1) in
      let long3 : length three ≡ 22 =
      ap length e3 ∙ (part_length 15 7 two (told (12 + j)) (omega (arith, long2)) (told-length (block_at ns (12 + j))) ∙ long2) in
      let done0 : take 1 start ≡ (first ∷ []) = first-set out first (omega (arith, size)) in
      let done1 : take 8 one ≡ (first ∷ []) ++ told j =
      ap (take 8) e1 ∙ part-more 1 7 start (told j) (first ∷ []) (omega (arith, long0)) (told-length (block_at ns j)) done0 (drop 7 (drop 1 start)) in
      let done2 : take 15 two ≡ ((first ∷ []) ++ told j) ++ told r =
      ap (take 15) e2 ∙ part-more 8 7 one (told r) ((first ∷ []) ++ told j) (omega (arith, long1)) (told-length (block_at ns r)) done1 (drop 7 (drop 8 one)) in
      let done3 : take 22 three ≡ (((first ∷ []) ++ told j) ++ told r) ++ told (12 + j) =
      ap (take 22) e3
      ∙ part-more 15 7 two (told (12 + j)) (((first ∷ []) ++ told j) ++ told r) (omega (arith, long2)) (told-length (block_at ns (12 + j))) done2
      (drop 7 (drop 15 two)) in
      sym (take_all three 22 long3)
      ∙ done3
      ∙ append_assoc ((first ∷ []) ++ told j) (told r) (told (12 + j))
      ∙ append_assoc (first ∷ []) (told j) (told r ++ told (12 + j))
      ∙ ap (λ (b : Block). (first ∷ []) ++ (told j ++ (told_of b ++ told (12 + j)))) er

  pub tributary-length : length (tributary_told (state_from ns) j) ≡ 22
  unfolding state_from
  tributary-length =
      let better = better_of (block_at ns (4 + j)) (block_at ns (8 + j)) in
      let l0 = told-length (block_at ns j) in
      let l1 = told-length better in
      let l2 = told-length (block_at ns (12 + j)) in
      let last = length-append (told_of better) (told (12 + j)) in
      let both = length-append (told j) (told_of better ++ told (12 + j)) in
      omega (arith, both, last, l0, l1, l2)

-- ---- all four

unfoldable pub told_to : List ℕ → ℕ → List ℕ
told_to ns zero = []
told_to ns (suc n) = told_to ns n ++ tributary_told (state_from ns) n

pub told_none : (ns out : List ℕ) → take 0 out ≡ told_to ns 0
unfolding told_to
told_none ns out = refl

pub told-next : (ns : List ℕ) (j : ℕ) (out ys : List ℕ) → j < 4 → length out ≡ 88 → take (22 * j) out ≡ told_to ns j → ys ≡ tributary_told (state_from ns) j
    → (j + 1 ≤ 4) × (length (take (22 * j) out ++ (ys ++ drop 22 (drop (22 * j) out))) ≡ 88)
    × (take (22 * (j + 1)) (take (22 * j) out ++ (ys ++ drop 22 (drop (22 * j) out))) ≡ told_to ns (j + 1))
unfolding told_to
told-next ns j out ys h size done e =
    let long : length ys ≡ 22 = ap length e ∙ tributary-length ns j in
    let at : 22 * (j + 1) ≡ 22 * j + 22 = omega arith in
    let more : take (22 * j + 22) (take (22 * j) out ++ (ys ++ drop 22 (drop (22 * j) out))) ≡ told_to ns j ++ tributary_told (state_from ns) j =
    part-more (22 * j) 22 out ys (told_to ns j) (omega (arith, size)) long done (drop 22 (drop (22 * j) out)) ∙ ap (λ (zs : List ℕ). told_to ns j ++ zs) e in
    (omega arith, part_length (22 * j) 22 out ys (omega (arith, size)) long ∙ size, rw (at, add-one j) more)

pub told-all : (ns : List ℕ) → told_to ns 4 ≡ answer_of (state_from ns)
unfolding told_to answer_of
told-all ns =
    let t = tributary_told (state_from ns) in
    append_assoc (t 0 ++ t 1) (t 2) (t 3) ∙ append_assoc (t 0) (t 1) (t 2 ++ t 3)
