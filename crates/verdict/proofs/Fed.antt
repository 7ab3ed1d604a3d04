-- The four ways of reading fed one after the other: the sixteen blocks of a state.
use mathlib.Core.Path.{◌≡◌, refl, ◌∙◌, ap}
use mathlib.Core.Bool.{Bool, cond, true, false}
use mathlib.Core.List.{List}
use Prim.Native.Nat.{ℕ, suc, ◌+◌, ◌-◌, ◌*◌, ◌/◌, ◌%◌, ◌≤◌, ◌<◌}
use native.Mathlib.Omega.{arith}
use native.Mathlib.Decide.{dec_lt}
use lib.Dec.{eqb}
use lib.ListN.{length, get_or, take}
use Rattle.table.specs.declared.Row.{Row}
use Rattle.levels.specs.Table.{Shared}
use Rattle.levels.specs.Sizes.{frames_of}
use Rattle.verdict_blocks.specs.Blocks.{Block}
use Rattle.verdict_blocks.specs.Keeping.{block_numbers, block_from, block_at, with_four}
use Rattle.verdict_blocks.specs.Readings.{majorities, own_votes, before_votes, after_votes, ran_by, ran_after}
use Rattle.verdict.specs.Feed.{fed_block}
use Rattle.verdict_states.specs.States.{state_from}
use Rattle.verdict_blocks.specs.Going.{Sound, Ready}
use Rattle.verdict.specs.Going.{FedTo}
use Rattle.verdict_blocks.proofs.Several.{part_of, several-length, several-others, several-there, several-head}
use Rattle.verdict.proofs.Betters.{sound-whole, by-sound, better-sound}

-- ---- way after way

pub fed-none : (ns : List ℕ) (g : ℕ → Block) → length ns ≡ 683 → FedTo ns g 0 ns
fed-none ns g size =
    record {
      size = size;
      head = refl;
      done = λ b hb. absurd (none b hb);
      left = λ b h hb. refl;
    }
  where
    none : (b : ℕ) → b < 4 * 0 → ⊥
    none b l = omega arith

module _ (ns : List ℕ) (g : ℕ → Block) (w : ℕ) (hw : w < 4) (xs ys : List ℕ) (h : ℕ → Block) (fed : FedTo ns g w xs) (put : ys ≡ with_four xs w h) (same : (j : ℕ) → j < 4 → h j ≡ g (4 * w + j)) (whole : (b : ℕ) → b < 16 → length (block_numbers (g b)) ≡ 42) where
  each : (j : ℕ) → j < 4 → length (block_numbers (h j)) ≡ 42
  each j hj = rw (same j hj) (whole (4 * w + j) (omega arith))

  inside : 4 * w + 4 ≤ 16
  inside = omega arith

  others : (b : ℕ) → b < 16 → (4 * w ≤ b → 4 * w + 4 ≤ b) → part_of ys b ≡ part_of xs b
  others b hb far = ap (λ (l : List ℕ). part_of l b) put ∙ several-others xs (4 * w) h fed.size 4 inside each b hb far

  done-to : (b : ℕ) → b < 4 * suc w → part_of ys b ≡ block_numbers (g b)
  done-to b hb =
      elim (dec_lt b (4 * w)) [
        | yes l ↦ others b (omega arith) (λ g. omega arith) ∙ fed.done b l
        | no l ↦
            let j = b - 4 * w in
            let hj : b - 4 * w < 4 = omega arith in
            let at : 4 * w + (b - 4 * w) ≡ b = omega arith in
            let there : part_of ys (4 * w + j) ≡ block_numbers (g (4 * w + j)) =
            ap (λ (l : List ℕ). part_of l (4 * w + j)) put ∙ several-there xs (4 * w) h fed.size 4 inside each j hj ∙ ap block_numbers (same j hj) in
            rw at at there
      ]

  pub fed-way : FedTo ns g (suc w) ys
  fed-way =
      record {
        size = ap length put ∙ several-length xs (4 * w) h fed.size 4 inside each;
        head = ap (take 11) put ∙ several-head xs (4 * w) h fed.size 4 inside each ∙ fed.head;
        done = done-to;
        left = λ b l hb. others b hb (λ g. omega arith) ∙ fed.left b (omega arith) hb;
      }

-- ---- which blocks they are

quotient : (w j : ℕ) → j < 4 → (4 * w + j) / 4 ≡ w
quotient w j h = omega arith

rest : (w j : ℕ) → j < 4 → (4 * w + j) % 4 ≡ j
rest w j h = omega arith

pick : (P : Block → Type 0) (t u v : Bool) (a b c d : Block) → P a → P b → P c → P d → P (cond t a (cond u b (cond v c d)))
pick P true u v a b c d pa pb pc pd = pa
pick P false true v a b c d pa pb pc pd = pb
pick P false false true a b c d pa pb pc pd = pc
pick P false false false a b c d pa pb pc pd = pd

either : (P : Block → Type 0) (t : Bool) (a b : Block) → P a → P b → P (cond t a b)
either P true a b pa pb = pa
either P false a b pa pb = pb

module _ (row : Row) (ns line : List ℕ) (next : ℕ) (lent : ℕ → ℕ → ℕ) where
  abbrev pub fed_at : ℕ → Block
  fed_at b = fed_block row (state_from ns) line next lent (b / 4) (b % 4)

  abbrev notes : List ℕ
  notes = majorities row line

  abbrev pattern : ℕ
  pattern = get_or ns 1 0

  module _ (j : ℕ) (hj : j < 4) (xs : List ℕ) where
    pub own_is : part_of xs (4 * 0 + j) ≡ part_of ns (4 * 0 + j)
        → ran_by row pattern (lent j) line (own_votes (get_or ns 4 0) notes) j (block_at xs (4 * 0 + j)) ≡ fed_at (4 * 0 + j)
    unfolding fed_block state_from
    own_is e = rw (quotient 0 j hj, rest 0 j hj) (ap (λ (l : List ℕ). ran_by row pattern (lent j) line (own_votes (get_or ns 4 0) notes) j (block_from l)) e)

    pub none_is : part_of xs (4 * 1 + j) ≡ part_of ns (4 * 1 + j)
        → ran_by row pattern (lent j) line (before_votes (get_or ns 3 0) (get_or ns 4 0) notes) j (block_at xs (4 * 1 + j)) ≡ fed_at (4 * 1 + j)
    unfolding fed_block state_from
    none_is e =
        rw (quotient 1 j hj, rest 1 j hj)
        (ap (λ (l : List ℕ). ran_by row pattern (lent j) line (before_votes (get_or ns 3 0) (get_or ns 4 0) notes) j (block_from l)) e)

    pub all-is : part_of xs (4 * 2 + j) ≡ part_of ns (4 * 2 + j)
        → ran_by row pattern (lent j) line (before_votes (get_or ns 5 0) (get_or ns 6 0) notes) j (block_at xs (4 * 2 + j)) ≡ fed_at (4 * 2 + j)
    unfolding fed_block state_from
    all-is e =
        rw (quotient 2 j hj, rest 2 j hj)
        (ap (λ (l : List ℕ). ran_by row pattern (lent j) line (before_votes (get_or ns 5 0) (get_or ns 6 0) notes) j (block_from l)) e)

    pub after_is : part_of xs (4 * 3 + j) ≡ part_of ns (4 * 3 + j)
        → ran_after row pattern (lent j) line notes next j (block_at xs (4 * 3 + j)) ≡ fed_at (4 * 3 + j)
    unfolding fed_block state_from
    after_is e = rw (quotient 3 j hj, rest 3 j hj) (ap (λ (l : List ℕ). ran_after row pattern (lent j) line notes next j (block_from l)) e)

  module _ (sh : Shared row) (few : frames_of row (length line) ≤ 64) (ready : (b : ℕ) → b < 16 → Ready pattern (frames_of row (length line)) (block_at ns b)) where
    read-sound : (votes : List ℕ) (j b : ℕ) → b < 16 → Sound pattern 0 (ran_by row pattern (lent j) line votes j (block_at ns b))
    read-sound votes j b hb = by-sound row sh pattern (lent j) line votes j (block_at ns b) few (ready b hb)

    after-sound : (j b : ℕ) → b < 16 → Sound pattern 0 (ran_after row pattern (lent j) line notes next j (block_at ns b))
    unfolding ran_after
    after-sound j b hb =
        either (Sound pattern 0) (eqb next 16) _ _
        (better-sound pattern _ _ (read-sound (after_votes notes 0) j b hb) (read-sound (after_votes notes 15) j b hb))
        (read-sound (after_votes notes next) j b hb)

    fed-sound : (w j : ℕ) → 4 * w + j < 16 → Sound pattern 0 (fed_block row (state_from ns) line next lent w j)
    unfolding fed_block state_from
    fed-sound w j h =
        pick (Sound pattern 0) (eqb w 0) (eqb w 1) (eqb w 2) _ _ _ _ (read-sound (own_votes (get_or ns 4 0) notes) j (4 * w + j) h)
        (read-sound (before_votes (get_or ns 3 0) (get_or ns 4 0) notes) j (4 * w + j) h) (read-sound (before_votes (get_or ns 5 0) (get_or ns 6 0) notes) j (4 * w + j) h)
        (after-sound j (4 * w + j) h)

    pub blocks-sound : (b : ℕ) → b < 16 → Sound pattern 0 (fed_at b)
    blocks-sound b h = fed-sound (b / 4) (b % 4) (omega arith)

    pub blocks-whole : (b : ℕ) → b < 16 → length (block_numbers (fed_at b)) ≡ 42
    blocks-whole b h = sound-whole pattern (fed_at b) (blocks-sound b h)

    module _ (size : length ns ≡ 683) where
      pub one_way : (xs : List ℕ)
          → xs ≡ with_four ns 0 (λ (j : ℕ). ran_by row pattern (lent j) line (own_votes (get_or ns 4 0) notes) j (block_at ns (4 * 0 + j))) → FedTo ns fed_at 1 xs
      one_way xs e = fed-way ns fed_at 0 (omega arith) ns xs _ (fed-none ns fed_at size) e (λ j hj. own_is j hj ns refl) blocks-whole

      pub two_ways : (xs ys : List ℕ) → FedTo ns fed_at 1 xs
          → ys ≡ with_four xs 1 (λ (j : ℕ). ran_by row pattern (lent j) line (before_votes (get_or ns 3 0) (get_or ns 4 0) notes) j (block_at xs (4 * 1 + j)))
          → FedTo ns fed_at 2 ys
      two_ways xs ys fed e =
          fed-way ns fed_at 1 (omega arith) xs ys _ fed e (λ j hj. none_is j hj xs (fed.left (4 * 1 + j) (omega arith) (omega arith))) blocks-whole

      pub three_ways : (xs ys : List ℕ) → FedTo ns fed_at 2 xs
          → ys ≡ with_four xs 2 (λ (j : ℕ). ran_by row pattern (lent j) line (before_votes (get_or ns 5 0) (get_or ns 6 0) notes) j (block_at xs (4 * 2 + j)))
          → FedTo ns fed_at 3 ys
      three_ways xs ys fed e =
          fed-way ns fed_at 2 (omega arith) xs ys _ fed e (λ j hj. all-is j hj xs (fed.left (4 * 2 + j) (omega arith) (omega arith))) blocks-whole

      pub four-ways : (xs ys : List ℕ) → FedTo ns fed_at 3 xs
          → ys ≡ with_four xs 3 (λ (j : ℕ). ran_after row pattern (lent j) line notes next j (block_at xs (4 * 3 + j))) → FedTo ns fed_at 4 ys
      four-ways xs ys fed e =
          fed-way ns fed_at 3 (omega arith) xs ys _ fed e (λ j hj. after_is j hj xs (fed.left (4 * 3 + j) (omega arith) (omega arith))) blocks-whole

-- a way that is still to be fed is ready as before
pub still-ready : {ns xs : List ℕ} {g : ℕ → Block} {w : ℕ} → FedTo ns g w xs → (pattern F b : ℕ) → 4 * w ≤ b → b < 16 → Ready pattern F (block_at ns b)
    → Ready pattern F (block_at xs b)
still-ready {ns} {xs} fed pattern F b l h ready =
    let e : block_at xs b ≡ block_at ns b = ap block_from (fed.left b l h) in
    rw e ready
