-- Cannot tell: where a tributary's decision never changes, the other two readings are the reading by its own frames, but for the vote that nobody said; so neither costs more.
use mathlib.Core.Path.{◌≡◌, refl, sym, ◌∙◌, ap, subst}
use mathlib.Core.Logic.{◌≢◌}
use mathlib.Core.Bool.{Bool, cond, true, false}
use mathlib.Core.List.{List, [], ◌∷◌, ◌++◌}
use Prim.Native.Nat.{ℕ, zero, suc, ◌+◌, ◌*◌, ◌≤◌, ◌<◌}
use native.Mathlib.Omega.{arith}
use native.Mathlib.Decide.{dec_lt, ℕ_discrete}
use lib.Dec.{eqb, ltb}
use lib.ListN.{length, get_or, take, get_or-append}
use lib.Seq.{get_or-take, get_or-append-add}
use borrow.Author.Tests.{eq-eqb, ne_eqb, lt-ltb, le-ltb}
use Rattle.digits.specs.Digits.{digits_of}
use Rattle.digits.proofs.Laws.{tab-length}
use Rattle.digits.proofs.Lists.{of_four}
use Rattle.table.specs.declared.Row.{Row}
use Rattle.levels.specs.Table.{Shared}
use Rattle.levels.specs.Sizes.{frames_of}
use Rattle.levels.specs.Order.{stuffed, decisions, has_negative, action_of}
use Rattle.levels.proofs.Columns.{columns}
use Rattle.reading.specs.Notes.{note_of}
use Rattle.extraction.specs.Quarters.{taken_to}
use Rattle.promises.proofs.Order.{places_same}
use Rattle.slips.specs.Slips.{least_of}
use Rattle.verdict_blocks.specs.Blocks.{Block, fresh_block, is_better, better_of}
use Rattle.verdict_blocks.specs.Readings.{majorities, read_by, carried_in, counts_by, ran_by, ran_after, own_votes, before_votes, after_votes}
use Rattle.verdict_states.specs.States.{State, fresh_state}
use Rattle.verdict_promises.specs.Steady.{Steady, recorded, by_before, by_after, NoDearer}
use Rattle.verdict_promises.proofs.Frames.{frames-alike}
use Rattle.verdict_promises.proofs.Blocks.{own_block, none-block, all-block, after_block}
use Rattle.verdict_promises.proofs.Cuts.{bit_at, acts_of, acts-bits, in-columns, frames-of}

-- ---- readings by votes with the same bits; the first one counts only where a level looks at it

pub record Alike (row : Row) (j F : ℕ) (v w : List ℕ) : Type 0 where
  pub before : has_negative row ≡ true → bit_at v j 0 ≡ bit_at w j 0
  pub own : (f : ℕ) → f < F → bit_at v j (suc f) ≡ bit_at w j (suc f)

pub acts-alike : (row : Row) (j F : ℕ) (v w : List ℕ) → Alike row j F v w → (f : ℕ) → f < F → acts_of row v j f ≡ acts_of row w j f
unfolding action_of
acts-alike row j F v w alike f h = acts-bits row v j f ∙ go (has_negative row) refl ∙ sym (acts-bits row w j f)
  where
    earlier : has_negative row ≡ true → (f : ℕ) → f < F → bit_at v j f ≡ bit_at w j f
    earlier n zero h = alike.before n
    earlier n (suc f) h = alike.own f (omega arith)

    go : (t : Bool) → has_negative row ≡ t → action_of row (bit_at v j f) (bit_at v j (suc f)) ≡ action_of row (bit_at w j f) (bit_at w j (suc f))
    go true n = rw (earlier n f h, alike.own f h)
    go false n = rw (n, alike.own f h)

module _ (row : Row) (sh : Shared row) (j F : ℕ) (hj : j < 4) (line : List ℕ) (whole : length line ≡ F * row.bytes) where
  pub ran-alike : (pattern : ℕ) (lent : ℕ → ℕ) (v w : List ℕ) → Alike row j F v w → (b : Block) → ran_by row pattern lent line v j b ≡ ran_by row pattern lent line w j b
  unfolding ran_by read_by taken_to counts_by
  ran-alike pattern lent v w alike b =
      let frames = frames-of row sh (length line) F whole in
      let acts = acts-alike row j F v w alike in
      let places = places_same row sh F j hj (acts_of row v j) (acts_of row w j) acts (F * columns row) (omega arith) in
      rw (frames, in-columns row sh (length line) F whole, places)
      (frames-alike pattern lent _ _ (λ (f : ℕ). carried_in row (acts_of row v j f)) (λ (f : ℕ). carried_in row (acts_of row w j f)) b F (λ f h. ap (carried_in row) (acts f h)) (λ i h. refl))

-- ---- of two ways the better one costs no more than either

pub itself : (a : Block) → NoDearer a a
itself a = record { taken = omega arith; costs = λ e. omega arith }

module _ (a b : Block) where
  abbrev ta : ℕ
  ta = a.standing.taken

  abbrev tb : ℕ
  tb = b.standing.taken

  abbrev la : ℕ
  la = least_of a.lanes

  abbrev lb : ℕ
  lb = least_of b.lanes

  pub better-both : NoDearer a (better_of a b) × NoDearer b (better_of a b)
  unfolding is_better
  better-both =
      elim (ℕ_discrete ta tb) [
        | yes e ↦
            elim (dec_lt lb la) [
              | yes l ↦ rw (eq-eqb ta tb e, lt-ltb lb la l) (record { taken = omega (arith, e); costs = λ h. omega arith }, itself b)
              | no l ↦ rw (eq-eqb ta tb e, le-ltb lb la (omega arith)) (itself a, record { taken = omega (arith, e); costs = λ h. omega arith })
            ]
        | no e ↦
            elim (dec_lt ta tb) [
              | yes l ↦ rw (ne_eqb ta tb e, lt-ltb ta tb l) (record { taken = omega arith; costs = λ h. absurd (e h) }, itself b)
              | no l ↦ rw (ne_eqb ta tb e, le-ltb ta tb (omega arith)) (itself a, record { taken = omega arith; costs = λ h. absurd (e (sym h)) })
            ]
      ]

-- ---- the three readings

-- a vote for no tributary and one for all four
unfoldable pub tried : Bool → ℕ
tried t = cond t 15 0

module _ (row : Row) (sh : Shared row) (level earlier pattern F : ℕ) (line : List ℕ) (whole : length line ≡ F * row.bytes) (next : ℕ) (lent : ℕ → ℕ → ℕ) (j : ℕ) (hj : j < 4) (is : Bool)
    (steady : Steady row earlier line j is) where
  abbrev s0 : State
  s0 = fresh_state row level earlier pattern

  abbrev notes : List ℕ
  notes = majorities row line

  abbrev l : ℕ → ℕ
  l = lent j

  frames : frames_of row (length line) ≡ F
  frames = frames-of row sh (length line) F whole

  long : length notes ≡ F
  long = tab-length (frames_of row (length line)) 0 (note_of row (digits_of line)) ∙ frames

  in_line : (f : ℕ) → f < F → decisions notes j f ≡ is
  in_line f h = steady.in_the_line f (omega (arith, frames))

  -- votes that all decide as the tributary's decision stands
  pub record Stands (v : List ℕ) : Type 0 where
    pub before : has_negative row ≡ true → bit_at v j 0 ≡ is
    pub own : (f : ℕ) → f < F → bit_at v j (suc f) ≡ is

  stand-alike : (v w : List ℕ) → Stands v → Stands w → Alike row j F v w
  stand-alike v w a b = record { before = λ n. a.before n ∙ sym (b.before n); own = λ f h. a.own f h ∙ sym (b.own f h) }

  given : (u : ℕ) → has_negative row ≡ true → stuffed (cond (has_negative row) earlier u) j ≡ is
  given u n = rw n (steady.nor_before n)

  own-stands : (u : ℕ) → Stands (own_votes (cond (has_negative row) earlier u) notes)
  own-stands u = record { before = given u; own = in_line }

  before_stands : (u : ℕ) → stuffed u j ≡ is → Stands (before_votes u (cond (has_negative row) earlier u) notes)
  before_stands u bit = record { before = λ n. bit; own = λ f h. ap (λ (k : ℕ). stuffed k j) (get_or-take (length notes) (x ∷ notes) f 0 (omega (arith, long))) ∙ shifted f h }
    where
      x : ℕ
      x = cond (has_negative row) earlier u

      first : (t : Bool) → has_negative row ≡ t → stuffed (cond t earlier u) j ≡ is
      first true n = steady.nor_before n
      first false n = bit

      shifted : (f : ℕ) → f < F → bit_at (cond (has_negative row) earlier u ∷ notes) j f ≡ is
      shifted zero h = first (has_negative row) refl
      shifted (suc f) h = in_line f (omega arith)

  after-stands : (x : ℕ) → stuffed x j ≡ is → Stands (after_votes notes x)
  after-stands x bit = record { before = λ n. at 0 (omega arith); own = λ f h. at (suc f) h }
    where
      at : (i : ℕ) → i ≤ F → bit_at (notes ++ (x ∷ [])) j i ≡ is
      at i h =
          elim (dec_lt i F) [
            | yes less ↦ ap (λ (k : ℕ). stuffed k j) (get_or-append notes (x ∷ []) 0 i (omega (arith, long))) ∙ in_line i less
            | no end ↦
                let e : i ≡ length notes + 0 = omega (arith, long) in
                ap (bit_at (notes ++ (x ∷ [])) j) e ∙ ap (λ (k : ℕ). stuffed k j) (get_or-append-add notes (x ∷ []) 0 0) ∙ bit
          ]

  abbrev after-all : State
  after-all = recorded row level earlier pattern line next lent

  abbrev ran : List ℕ → Block
  ran v = ran_by row pattern l line v j (fresh_block pattern)

  as_own : (v : List ℕ) → Stands v → ran v ≡ after-all.blocks j
  as_own v stands =
      ran-alike row sh j F hj line whole pattern l v (own_votes (cond (has_negative row) earlier 0) notes) (stand-alike v (own_votes (cond (has_negative row) earlier 0) notes) stands (own-stands 0)) (fresh_block pattern)
      ∙ sym (own_block row level earlier pattern line next lent j hj)

  tried-bits : (t : Bool) → stuffed (tried t) j ≡ t
  unfolding tried
  tried-bits true = of_four (λ (j : ℕ). stuffed 15 j ≡ true) refl refl refl refl j hj
  tried-bits false = of_four (λ (j : ℕ). stuffed 0 j ≡ false) refl refl refl refl j hj

  -- one of the two ways of an unknown vote is the reading by its own frames: so the better one costs no more
  one_of : (a b c : Block) → (is ≡ false → a ≡ c) → (is ≡ true → b ≡ c) → NoDearer c (better_of a b)
  one_of a b c none all = go is refl
    where
      go : (t : Bool) → is ≡ t → NoDearer c (better_of a b)
      go true e = subst (λ (x : Block). NoDearer x (better_of a b)) (all e) (better-both a b).1
      go false e = subst (λ (x : Block). NoDearer x (better_of a b)) (none e) (better-both a b).0

  bit-none : is ≡ false → stuffed 0 j ≡ is
  unfolding tried
  bit-none e = tried-bits false ∙ sym e

  bit-all : is ≡ true → stuffed 15 j ≡ is
  unfolding tried
  bit-all e = tried-bits true ∙ sym e

  -- by the frames before, with the unknown vote taken as the decision stands, the reading is that by its own frames
  pub before-none : is ≡ false → after-all.blocks (4 + j) ≡ after-all.blocks j
  before-none e = none-block row level earlier pattern line next lent j hj ∙ as_own (before_votes 0 (cond (has_negative row) earlier 0) notes) (before_stands 0 (bit-none e))

  pub before-all : is ≡ true → after-all.blocks (8 + j) ≡ after-all.blocks j
  before-all e = all-block row level earlier pattern line next lent j hj ∙ as_own (before_votes 15 (cond (has_negative row) earlier 15) notes) (before_stands 15 (bit-all e))

  pub before-no-dearer : NoDearer (after-all.blocks j) (by_before after-all j)
  before-no-dearer = one_of (after-all.blocks (4 + j)) (after-all.blocks (8 + j)) (after-all.blocks j) before-none before-all

  -- by the frames after, with a vote behind all that decides the same, it is that too
  pub after-known : next ≢ 16 → stuffed next j ≡ is → by_after after-all j ≡ after-all.blocks j
  unfolding ran_after
  after-known known bit = after_block row level earlier pattern line next lent j hj ∙ rw (ne_eqb next 16 known) (as_own (after_votes notes next) (after-stands next bit))

  pub after-no-dearer : next ≡ 16 → NoDearer (after-all.blocks j) (by_after after-all j)
  unfolding ran_after
  after-no-dearer unknown =
      subst (λ (x : Block). NoDearer (after-all.blocks j) x) (sym both)
      (one_of (ran (after_votes notes 0)) (ran (after_votes notes 15)) (after-all.blocks j) (λ e. as_own (after_votes notes 0) (after-stands 0 (bit-none e))) (λ e. as_own (after_votes notes 15) (after-stands 15 (bit-all e))))
    where
      both : after-all.blocks (12 + j) ≡ better_of (ran (after_votes notes 0)) (ran (after_votes notes 15))
      both = after_block row level earlier pattern line next lent j hj ∙ rw (eq-eqb next 16 unknown) refl
