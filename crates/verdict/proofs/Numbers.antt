-- A state and its numbers: 683 numbers are those of the state that they are taken for.
use mathlib.Core.Path.{◌≡◌, refl, sym, ◌∙◌, ap, ap₂}
use mathlib.Core.List.{List, [], ◌∷◌, ◌++◌, append-nil, append_assoc}
use Prim.Native.Nat.{ℕ, zero, suc, ◌+◌, ◌*◌, ◌≤◌, ◌<◌}
use native.Mathlib.Omega.{arith}
use native.Mathlib.Decide.{ℕ_discrete}
use lib.ListN.{length, get_or, take, drop, length-drop, length-append, take-append-drop}
use lib.Seq.{length-take-le, get_or-take, take-add, drop-drop, drop_at, drop-append-le, take-append-le}
use Rattle.digits.specs.Digits.{tab}
use Rattle.digits.proofs.Laws.{tab-of}
use Rattle.verdict_blocks.specs.Blocks.{Block}
use Rattle.verdict_blocks.specs.Keeping.{block_numbers, block_from, block_at}
use Rattle.verdict.specs.Feed.{tributary_told, answer_of}
use Rattle.verdict_states.specs.States.{head_of, State, blocks_numbers, numbers_of, state_from}
use Rattle.verdict_blocks.proofs.Kept.{take_all, numbers-length}
use Rattle.verdict_blocks.proofs.Several.{part_of}
use Rattle.verdict_blocks.proofs.Parts.{numbers-back, block_back, next-part}

first-of : (ns : List ℕ) (n : ℕ) → n ≤ length ns → tab n 0 (λ (i : ℕ). get_or ns i 0) ≡ take n ns
first-of ns n h = sym (tab-of (take n ns) n (λ (i : ℕ). get_or ns i 0) (length-take-le n ns h) (λ i hi. get_or-take n ns i 0 hi))

-- 683
module _ (ns : List ℕ) (size : length ns ≡ 683) where
  head-kept
      : (get_or ns 0 0
      ∷ get_or ns 1 0
      ∷ get_or ns 2 0
      ∷ get_or ns 3 0
      ∷ get_or ns 4 0
      ∷ get_or ns 5 0
      ∷ get_or ns 6 0
      ∷ get_or ns 7 0
      ∷ get_or ns 8 0
      ∷ get_or ns 9 0
      ∷ get_or ns 10 0
      ∷ [])
      ≡ take 11 ns
  unfolding tab
  head-kept = first-of ns 11 (omega (arith, size))

  blocks-kept : (n : ℕ) → n ≤ 16 → blocks_numbers n (block_at ns) ≡ take (42 * n) (drop 11 ns)
  unfolding blocks_numbers
  blocks-kept zero h = refl
  blocks-kept (suc n) h =
      let part = take 42 (drop (11 + 42 * n) ns) in
      let long : length part ≡ 42 = length-take-le 42 (drop (11 + 42 * n) ns) (omega (arith, size, length-drop (11 + 42 * n) ns)) in
      let there : part ≡ take 42 (drop (42 * n) (drop 11 ns)) = ap (take 42) (sym (drop-drop (42 * n) 11 ns)) in
      let more : 42 * suc n ≡ 42 * n + 42 = omega arith in
      rw more (ap₂ (λ (x y : List ℕ). x ++ y) (blocks-kept n (omega arith)) (numbers-back part long ∙ there) ∙ sym (take-add (42 * n) 42 (drop 11 ns)))

  pub numbers-kept : numbers_of (state_from ns) ≡ ns
  unfolding numbers_of state_from
  numbers-kept =
      let rest : blocks_numbers 16 (block_at ns) ≡ drop 11 ns = blocks-kept 16 (omega arith) ∙ take_all (drop 11 ns) 672 (length-drop 11 ns ∙ omega (arith, size)) in
      ap₂ (λ (x y : List ℕ). x ++ y) head-kept rest ∙ take-append-drop 11 ns

-- ---- a state whose blocks have seventeen lanes and marks is taken from its numbers again

pub record Whole (b : Block) : Type 0 where
  pub lanes : length b.lanes ≡ 17
  pub marks : length b.marks ≡ 17

module _ (b : Block) (whole : Whole b) where
  pub block-again : block_from (block_numbers b) ≡ b
  block-again = block_back b whole.lanes whole.marks

module _ (g : ℕ → Block) (whole : (b : ℕ) → b < 16 → Whole (g b)) where
  long : (b : ℕ) → b < 16 → length (block_numbers (g b)) ≡ 42
  long b h = numbers-length (g b) (whole b h).lanes (whole b h).marks

  blocks-long : (n : ℕ) → n ≤ 16 → length (blocks_numbers n g) ≡ 42 * n
  unfolding blocks_numbers
  blocks-long zero h = refl
  blocks-long (suc n) h = length-append (blocks_numbers n g) (block_numbers (g n)) ∙ omega (arith, blocks-long n (omega arith), long n (omega arith))

  part-again : (n b : ℕ) → n ≤ 16 → b < n → take 42 (drop (42 * b) (blocks_numbers n g)) ≡ block_numbers (g b)
  unfolding blocks_numbers
  part-again zero b h hb = absurd (none hb)
    where
      none : b < 0 → ⊥
      none l = omega arith
  part-again (suc n) b h hb =
      let size = blocks-long n (omega arith) in
      elim (ℕ_discrete b n) [
        | yes e ↦
            rw e
            (ap (take 42) (drop_at (blocks_numbers n g) (block_numbers (g n)) (42 * n) size)
            ∙ take_all (block_numbers (g n)) 42 (long n (omega arith)))
        | no far ↦
            let before : b < n = omega (arith, far) in
            let left = drop (42 * b) (blocks_numbers n g) in
            let enough : 42 ≤ length left = omega (arith, length-drop (42 * b) (blocks_numbers n g), size) in
            ap (take 42) (drop-append-le (42 * b) (blocks_numbers n g) (block_numbers (g n)) (omega (arith, size)))
            ∙ take-append-le 42 left (block_numbers (g n)) enough
            ∙ part-again n b (omega arith) before
      ]

module _ (s : State) (whole : (b : ℕ) → b < 16 → Whole (s.blocks b)) where
  pub blocks-again : (b : ℕ) → b < 16 → block_at (numbers_of s) b ≡ s.blocks b
  unfolding numbers_of
  blocks-again b h =
      ap block_from (ap (take 42) (sym (drop-drop (42 * b) 11 (numbers_of s))) ∙ part-again s.blocks whole 16 b (omega arith) h)
      ∙ block-again (s.blocks b) (whole b h)

  tributary-again : (j : ℕ) → j < 4 → get_or (numbers_of s) (7 + j) 0 ≡ s.changes j → tributary_told (state_from (numbers_of s)) j ≡ tributary_told s j
  unfolding state_from
  tributary-again j h e =
      rw (e, blocks-again j (omega arith), blocks-again (4 + j) (omega arith), blocks-again (8 + j) (omega arith), blocks-again (12 + j) (omega arith))

  changes-again : (get_or (numbers_of s) 7 0 ≡ s.changes 0)
      × (get_or (numbers_of s) 8 0 ≡ s.changes 1)
      × (get_or (numbers_of s) 9 0 ≡ s.changes 2)
      × (get_or (numbers_of s) 10 0 ≡ s.changes 3)
  unfolding numbers_of
  changes-again = (refl, refl, refl, refl)

  -- so that what is told by its numbers is told by it
  pub answer-again : answer_of (state_from (numbers_of s)) ≡ answer_of s
  unfolding answer_of
  answer-again =
      ap₂ (λ (x y : List ℕ). x ++ y) (tributary-again 0 (omega arith) changes-again.0)
      (ap₂ (λ (x y : List ℕ). x ++ y) (tributary-again 1 (omega arith) changes-again.1)
      (ap₂ (λ (x y : List ℕ). x ++ y) (tributary-again 2 (omega arith) changes-again.2) (tributary-again 3 (omega arith) changes-again.3)))

-- ---- and a state is told by its first numbers and its blocks'

module _ (ns : List ℕ) (s : State) (size : length ns ≡ 683) (head : take 11 ns ≡ head_of s) (parts : (b : ℕ) → b < 16 → part_of ns b ≡ block_numbers (s.blocks b)) where
  numbers-to : (n : ℕ) → n ≤ 16 → take (11 + 42 * n) ns ≡ head_of s ++ blocks_numbers n s.blocks
  unfolding blocks_numbers
  numbers-to zero h = head ∙ sym (append-nil (head_of s))
  numbers-to (suc n) h =
      next-part ns n
      ∙ ap₂ (λ (u v : List ℕ). u ++ v) (numbers-to n (omega arith)) (parts n (omega arith))
      ∙ append_assoc (head_of s) (blocks_numbers n s.blocks) (block_numbers (s.blocks n))

  pub state-numbers : ns ≡ numbers_of s
  unfolding numbers_of
  state-numbers = sym (take_all ns 683 size) ∙ numbers-to 16 (omega arith)
