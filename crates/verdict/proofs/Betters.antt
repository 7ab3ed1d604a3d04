-- A state fed two ways, of which the better is kept.
use mathlib.Core.Path.{◌≡◌, sym, ◌∙◌, ap, ap₂}
use mathlib.Core.Bool.{Bool, cond, true, false}
use mathlib.Core.List.{List, ◌++◌, append-nil}
use Prim.Native.Nat.{ℕ, ◌+◌, ◌-◌, ◌*◌, ◌≤◌, ◌<◌}
use native.Mathlib.Omega.{arith}
use native.Mathlib.Decide.{dec_lt}
use lib.ListN.{length, get_or, take, drop, drop_of_length-le}
use borrow.Rule.Slice.PartMut.{put_mid}
use Rattle.table.specs.declared.Row.{Row}
use Rattle.levels.specs.Table.{Shared}
use Rattle.levels.specs.Sizes.{frames_of}
use Rattle.levels.specs.Order.{actions}
use Rattle.verdict_blocks.specs.Blocks.{Block, is_better, better_of}
use Rattle.verdict_blocks.specs.Keeping.{block_numbers, block_from, block_at, with_blocks}
use Rattle.verdict_blocks.specs.Readings.{ran_by, counts_by, read_by}
use Rattle.verdict_blocks.specs.Going.{Sound, Ready}
use Rattle.verdict_blocks.proofs.Carried.{sound-less, sound-frames}
use Rattle.verdict_blocks.proofs.Sizes.{few-carried}
use Rattle.verdict_blocks.proofs.Kept.{take_all, numbers-length}
use Rattle.verdict_blocks.proofs.Several.{part_of, carried-most, several-length, several-others, several-there, several-head, several-same}
use Rattle.verdict_blocks.proofs.Parts.{block_back, state-same}

pub sound-whole : (pattern : ℕ) (b : Block) → Sound pattern 0 b → length (block_numbers b) ≡ 42
sound-whole pattern b w = numbers-length b w.room.lanes w.marked

pub by-sound : (row : Row) → Shared row → (pattern : ℕ) (lent : ℕ → ℕ) (line votes : List ℕ) (j : ℕ) (b : Block) → frames_of row (length line) ≤ 64
    → Ready pattern (frames_of row (length line)) b → Sound pattern 0 (ran_by row pattern lent line votes j b)
unfolding ran_by counts_by
by-sound row sh pattern lent line votes j b few w =
    let F = frames_of row (length line) in
    sound-frames pattern lent (read_by row line votes j) (counts_by row votes j) b
    (λ f. omega (arith, carried-most row sh (actions row (get_or votes 0 0) (drop 1 votes) j f), few-carried row sh)) F 0 (omega arith)
    (sound-less pattern (F * 1000) (F * 1000 + 0) b (omega arith) w.sound)

pub better-sound : (pattern : ℕ) (a b : Block) → Sound pattern 0 a → Sound pattern 0 b → Sound pattern 0 (better_of a b)
better-sound pattern a b wa wb = pick (is_better a b)
  where
    pick : (t : Bool) → Sound pattern 0 (cond t b a)
    pick true = wb
    pick false = wa

-- blocks put over blocks
module _ (ns : List ℕ) (a n : ℕ) (g h : ℕ → Block) (size : length ns ≡ 683) (in-state : a + n ≤ 16) (gs : (j : ℕ) → j < n → length (block_numbers (g j)) ≡ 42) (hs : (j : ℕ) → j < n → length (block_numbers (h j)) ≡ 42) where
  abbrev over : List ℕ
  over = with_blocks ns a g n

  over-long : length over ≡ 683
  over-long = several-length ns a g size n in-state gs

  pub put-over : with_blocks over a h n ≡ with_blocks ns a h n
  put-over =
      state-same (with_blocks over a h n) (with_blocks ns a h n) (several-length over a h over-long n in-state hs) (several-length ns a h size n in-state hs)
      (several-head over a h over-long n in-state hs ∙ several-head ns a g size n in-state gs ∙ sym (several-head ns a h size n in-state hs)) each
    where
      apart : (b : ℕ) → b < 16 → (a ≤ b → a + n ≤ b) → part_of (with_blocks over a h n) b ≡ part_of (with_blocks ns a h n) b
      apart b hb far =
          several-others over a h over-long n in-state hs b hb far
          ∙ several-others ns a g size n in-state gs b hb far
          ∙ sym (several-others ns a h size n in-state hs b hb far)

      there : (j : ℕ) → j < n → part_of (with_blocks over a h n) (a + j) ≡ part_of (with_blocks ns a h n) (a + j)
      there j hj = several-there over a h over-long n in-state hs j hj ∙ sym (several-there ns a h size n in-state hs j hj)

      each : (b : ℕ) → b < 16 → part_of (with_blocks over a h n) b ≡ part_of (with_blocks ns a h n) b
      each b hb =
          elim (dec_lt b a) [
            | yes l ↦ apart b hb (λ g. omega arith)
            | no l ↦
                elim (dec_lt b (a + n)) [
                  | yes m ↦ let e : a + (b - a) ≡ b = omega arith in rw e at (there (b - a) (omega arith))
                  | no m ↦ apart b hb (λ g. omega arith)
                ]
          ]

-- fed both ways from the same state
pub both-kept : (pattern : ℕ) (ns one two new : List ℕ) (g h : ℕ → Block) → length ns ≡ 683 → ((j : ℕ) → j < 4 → Sound pattern 0 (g j))
    → ((j : ℕ) → j < 4 → Sound pattern 0 (h j)) → one ≡ with_blocks ns 12 g 4 → two ≡ with_blocks ns 12 h 4
    → new ≡ with_blocks one 12 (λ (j : ℕ). better_of (block_at one (12 + j)) (block_at two (12 + j))) 4
    → new ≡ with_blocks ns 12 (λ (j : ℕ). better_of (g j) (h j)) 4
both-kept pattern ns one two new g h size gs hs e1 e2 en =
    en
    ∙ several-same one 12 (λ (j : ℕ). better_of (block_at one (12 + j)) (block_at two (12 + j))) (λ (j : ℕ). better_of (g j) (h j)) 4
    (λ j hj. ap₂ better_of (back one g gs e1 j hj) (back two h hs e2 j hj))
    ∙ ap (λ (l : List ℕ). with_blocks l 12 (λ (j : ℕ). better_of (g j) (h j)) 4) e1
    ∙ put-over ns 12 4 g (λ (j : ℕ). better_of (g j) (h j)) size (omega arith) (λ j hj. sound-whole pattern (g j) (gs j hj))
    (λ j hj. sound-whole pattern (better_of (g j) (h j)) (better-sound pattern (g j) (h j) (gs j hj) (hs j hj)))
  where
    back : (xs : List ℕ) (k : ℕ → Block) → ((j : ℕ) → j < 4 → Sound pattern 0 (k j)) → xs ≡ with_blocks ns 12 k 4 → (j : ℕ) → j < 4 → block_at xs (12 + j) ≡ k j
    back xs k ks e j hj =
        ap (λ (l : List ℕ). block_at l (12 + j)) e
        ∙ ap block_from (several-there ns 12 k size 4 (omega arith) (λ i hi. sound-whole pattern (k i) (ks i hi)) j hj)
        ∙ block_back (k j) (ks j hj).room.lanes (ks j hj).marked

-- ---- a state's copy, lent whole

pub ready_at : (pattern F : ℕ) (xs ys : List ℕ) (b : ℕ) → xs ≡ ys → Ready pattern F (block_at ys b) → Ready pattern F (block_at xs b)
ready_at pattern F xs ys b e w = rw e w

pub lent-whole : (xs : List ℕ) → length xs ≡ 683 → take 683 (drop 0 xs) ≡ xs
lent-whole xs h = take_all xs 683 h

pub put_whole : (xs ys : List ℕ) → length xs ≡ 683 → length ys ≡ 683 → put_mid 0 683 xs ys ≡ ys
put_whole xs ys hx hy = ap (λ (l : List ℕ). ys ++ l) (drop_of_length-le xs {i = 683} (omega (arith, hx))) ∙ append-nil ys
