-- In turn: two feeds, each over whole frames, leave the state of one feed over both; the first is told the vote of the frame that the second begins with.
use mathlib.Core.Path.{◌≡◌, refl, sym, ◌∙◌, ap, subst}
use mathlib.Core.Bool.{Bool, cond, true, false, ◌&&◌}
use mathlib.Core.List.{List, [], ◌∷◌, ◌++◌, append-nil, append_assoc}
use Prim.Native.Nat.{ℕ, zero, suc, ◌+◌, ◌*◌, ◌-◌, ◌/◌, ◌%◌, ◌≤◌, ◌<◌}
use native.Mathlib.Omega.{arith}
use native.Mathlib.Decide.{dec_lt, ℕ_discrete}
use native.Mathlib.Nat.{add-zero, add-suc, zero-add}
use lib.Dec.{eqb}
use lib.ListN.{length, get_or, take, length-append, get_or-append}
use lib.Seq.{get_or-take, get_or-append-add}
use borrow.Author.Tests.{eq-eqb, ne_eqb}
use Rattle.digits.specs.Digits.{digits_of}
use Rattle.digits.specs.Sums.{sum_to}
use Rattle.digits.proofs.Laws.{tab-length}
use Rattle.digits.proofs.Lists.{of_four}
use Rattle.digits.proofs.Sums.{sum_same}
use Rattle.table.specs.declared.Row.{Row}
use Rattle.levels.specs.Table.{Shared}
use Rattle.levels.specs.Sizes.{frames_of}
use Rattle.levels.specs.Order.{stuffed}
use Rattle.reading.specs.Notes.{note_of}
use Rattle.verdict_blocks.specs.Blocks.{Block}
use Rattle.verdict_blocks.specs.Readings.{majorities, own_votes, before_votes, after_votes, ran_by, ran_after}
use Rattle.verdict.specs.Feed.{fed_block, fed_state}
use Rattle.verdict_states.specs.States.{State, decided, changes_in, vote_ago}
use Rattle.verdict_promises.specs.Turns.{Same, fed_in_turn, joined, Whole, AllWhole, no_more, one_more}
use Rattle.verdict_promises.proofs.Cuts.{bit_at, frames-of, line-long, majorities-cat, ran-cat}

-- ---- a vote of four bits

pub decided-low : (x j : ℕ) → j < 4 → decided (x % 16) j ≡ decided x j
decided-low x = of_four (λ (j : ℕ). decided (x % 16) j ≡ decided x j) (omega arith) (omega arith) (omega arith) (omega arith)

pub stuffed-low : (x j : ℕ) → j < 4 → stuffed (x % 16) j ≡ stuffed x j
stuffed-low x j hj = ap (λ (d : ℕ). eqb d 1) (decided-low x j hj)

-- ---- lists of votes put together of two runs'

module _ (j : ℕ) where
  bit-eq : (a b : List ℕ) (i k : ℕ) → get_or a i 0 ≡ get_or b k 0 → bit_at a j i ≡ bit_at b j k
  bit-eq a b i k e = ap (λ (n : ℕ). stuffed n j) e

  -- cut off where nobody looks
  taken-bit : (x n : ℕ) (xs : List ℕ) (i : ℕ) → i ≤ n → bit_at (x ∷ take n xs) j i ≡ bit_at (x ∷ xs) j i
  taken-bit x n xs zero h = refl
  taken-bit x n xs (suc i) h = ap (λ (k : ℕ). stuffed k j) (get_or-take n xs i 0 h)

  first_bit : (a b : List ℕ) (i : ℕ) → i < length a → bit_at a j i ≡ bit_at (a ++ b) j i
  first_bit a b i h = sym (bit-eq (a ++ b) a i i (get_or-append a b 0 i h))

  later-bit : (a b : List ℕ) (n i : ℕ) → n ≡ length a + i → bit_at b j i ≡ bit_at (a ++ b) j n
  later-bit a b n i e = sym (ap (bit_at (a ++ b) j) e ∙ bit-eq (a ++ b) b (length a + i) i (get_or-append-add a b i 0))

-- ---- sums over two runs

sum-cat : (F G : ℕ) (g : ℕ → ℕ) → sum_to (F + G) g ≡ sum_to F g + sum_to G (λ (i : ℕ). g (F + i))
unfolding sum_to
sum-cat F zero g = rw (add-zero F) (omega arith)
sum-cat F (suc G) g = rw (add-suc F G) (omega (arith, sum-cat F G g))

module _ (row : Row) (sh : Shared row) (s : State) (F G : ℕ) (one two : List ℕ) (first : length one ≡ F * row.bytes) (second : length two ≡ G * row.bytes) (some : 0 < G)
    (next : ℕ) (lent : ℕ → ℕ → ℕ) where
  abbrev line : List ℕ
  line = one ++ two

  abbrev n1 : List ℕ
  n1 = majorities row one

  abbrev n2 : List ℕ
  n2 = majorities row two

  -- the vote of the frame that the second run begins with
  abbrev pub coming : ℕ
  coming = get_or n2 0 0 % 16

  abbrev pub then : State
  then = fed_state row s one coming lent

  one-frames : frames_of row (length one) ≡ F
  one-frames = frames-of row sh (length one) F first

  two-frames : frames_of row (length two) ≡ G
  two-frames = frames-of row sh (length two) G second

  all-frames : frames_of row (length line) ≡ F + G
  all-frames = frames-of row sh (length line) (F + G) (line-long row sh F G one two first second)

  long1 : length n1 ≡ F
  long1 = tab-length (frames_of row (length one)) 0 (note_of row (digits_of one)) ∙ one-frames

  long2 : length n2 ≡ G
  long2 = tab-length (frames_of row (length two)) 0 (note_of row (digits_of two)) ∙ two-frames

  notes : majorities row line ≡ n1 ++ n2
  notes = majorities-cat row sh F G one two first second

  -- the votes behind the first run, with an unknown vote before all
  module _ (older last : ℕ) where
    abbrev B : List ℕ
    B = older ∷ last ∷ n1

    abbrev older' : ℕ
    older' = vote_ago older last n1 1

    abbrev last' : ℕ
    last' = vote_ago older last n1 0

    older-at : older' ≡ get_or B F 0 % 16
    older-at = let e : length n1 + 1 - 1 ≡ F = omega (arith, long1) in ap (λ (k : ℕ). get_or B k 0 % 16) e

    last-at : last' ≡ get_or B (suc F) 0 % 16
    last-at = let e : length n1 + 1 - 0 ≡ suc F = omega (arith, long1) in ap (λ (k : ℕ). get_or B k 0 % 16) e

    module _ (j : ℕ) (hj : j < 4) where
      older-bit : stuffed older' j ≡ bit_at B j F
      older-bit = ap (λ (n : ℕ). stuffed n j) older-at ∙ stuffed-low (get_or B F 0) j hj

      last_bit : stuffed last' j ≡ bit_at B j (suc F)
      last_bit = ap (λ (n : ℕ). stuffed n j) last-at ∙ stuffed-low (get_or B (suc F) 0) j hj

      -- by their own frames
      own_first : (i : ℕ) → i ≤ F → bit_at (own_votes last n1) j i ≡ bit_at (own_votes last (n1 ++ n2)) j i
      own_first i h = first_bit j (last ∷ n1) n2 i (omega (arith, long1))

      own-later : (i : ℕ) → i ≤ G → bit_at (own_votes last' n2) j i ≡ bit_at (own_votes last (n1 ++ n2)) j (F + i)
      own-later zero h = rw (add-zero F) (last_bit ∙ first_bit j (last ∷ n1) n2 F (omega (arith, long1)))
      own-later (suc i) h = later-bit j (last ∷ n1) n2 (F + suc i) i (omega (arith, long1))

      -- by the frames before
      whole_before : (i : ℕ) → i ≤ F + G → bit_at (before_votes older last (n1 ++ n2)) j i ≡ bit_at (B ++ n2) j i
      whole_before i h = taken-bit j older (length (n1 ++ n2)) (last ∷ n1 ++ n2) i (omega (arith, length-append n1 n2, long1, long2))

      before-first : (i : ℕ) → i ≤ F → bit_at (before_votes older last n1) j i ≡ bit_at (before_votes older last (n1 ++ n2)) j i
      before-first i h =
          taken-bit j older (length n1) (last ∷ n1) i (omega (arith, long1)) ∙ first_bit j B n2 i (omega (arith, long1)) ∙ sym (whole_before i (omega arith))

      behind : (i : ℕ) → i ≤ G → bit_at (older' ∷ last' ∷ n2) j i ≡ bit_at (B ++ n2) j (F + i)
      behind zero h = rw (add-zero F) (older-bit ∙ first_bit j B n2 F (omega (arith, long1)))
      behind (suc zero) h = let e : F + 1 ≡ suc F = omega arith in rw e (last_bit ∙ first_bit j B n2 (suc F) (omega (arith, long1)))
      behind (suc (suc i)) h = later-bit j B n2 (F + suc (suc i)) i (omega (arith, long1))

      before-later : (i : ℕ) → i ≤ G → bit_at (before_votes older' last' n2) j i ≡ bit_at (before_votes older last (n1 ++ n2)) j (F + i)
      before-later i h = taken-bit j older' (length n2) (last' ∷ n2) i (omega (arith, long2)) ∙ behind i h ∙ sym (whole_before (F + i) (omega arith))

  -- by the frames after; the vote behind all is x
  module _ (j : ℕ) (hj : j < 4) (x : ℕ) where
    abbrev tail : List ℕ
    tail = n2 ++ (x ∷ [])

    after-all : after_votes (n1 ++ n2) x ≡ n1 ++ tail
    after-all = append_assoc n1 n2 (x ∷ [])

    coming-bit : stuffed coming j ≡ bit_at tail j 0
    coming-bit = stuffed-low (get_or n2 0 0) j hj ∙ first_bit j n2 (x ∷ []) 0 (omega (arith, long2))

    after_first : (i : ℕ) → i ≤ F → bit_at (after_votes n1 coming) j i ≡ bit_at (after_votes (n1 ++ n2) x) j i
    after_first i h =
        rw after-all
        (elim (dec_lt i F) [
          | yes l ↦ sym (first_bit j n1 (coming ∷ []) i (omega (arith, long1))) ∙ first_bit j n1 tail i (omega (arith, long1))
          | no l ↦
              let e : i ≡ length n1 + 0 = omega (arith, long1) in
              sym (later-bit j n1 (coming ∷ []) i 0 e) ∙ coming-bit ∙ later-bit j n1 tail i 0 e
        ])

    after-later : (i : ℕ) → i ≤ G → bit_at (after_votes n2 x) j i ≡ bit_at (after_votes (n1 ++ n2) x) j (F + i)
    after-later i h = rw after-all (later-bit j n1 tail (F + i) i (omega (arith, long1)))

  -- ---- the blocks

  module _ (j : ℕ) (hj : j < 4) where
    abbrev P : ℕ
    P = s.pattern

    abbrev l : ℕ → ℕ
    l = lent j

    -- a reading of both runs
    cut : (votes v w : List ℕ) → ((i : ℕ) → i ≤ F → bit_at v j i ≡ bit_at votes j i) → ((i : ℕ) → i ≤ G → bit_at w j i ≡ bit_at votes j (F + i)) → (b : Block)
        → ran_by row P l line votes j b ≡ ran_by row P l two w j (ran_by row P l one v j b)
    cut votes v w begun gone b = ran-cat row sh j hj F G one two first second votes v w begun gone P l b

    at-four : (w : ℕ) → (4 * w + j) / 4 ≡ w
    at-four w = omega arith

    at_rest : (w : ℕ) → (4 * w + j) % 4 ≡ j
    at_rest w = omega arith

    then-block : (w : ℕ) → then.blocks (4 * w + j) ≡ fed_block row s one coming lent w j
    unfolding fed_state
    then-block w = rw (at-four w, at_rest w) refl

    module _ (w older last : ℕ) where
      abbrev b0 : Block
      b0 = s.blocks (4 * w + j)

      -- by the votes of each way, what the second run makes of what the first has made
      own-run : ran_by row P l two (own_votes (vote_ago older last n1 0) n2) j (ran_by row P l one (own_votes last n1) j b0) ≡ ran_by row P l line (own_votes last (majorities row line)) j b0
      own-run =
          sym (cut (own_votes last (n1 ++ n2)) (own_votes last n1) (own_votes (vote_ago older last n1 0) n2) (own_first older last j hj) (own-later older last j hj) b0)
          ∙ ap (λ (votes : List ℕ). ran_by row P l line (own_votes last votes) j b0) (sym notes)

      before-run : ran_by row P l two (before_votes (vote_ago older last n1 1) (vote_ago older last n1 0) n2) j (ran_by row P l one (before_votes older last n1) j b0)
          ≡ ran_by row P l line (before_votes older last (majorities row line)) j b0
      before-run =
          sym
          (cut (before_votes older last (n1 ++ n2)) (before_votes older last n1) (before_votes (vote_ago older last n1 1) (vote_ago older last n1 0) n2) (before-first older last j hj)
          (before-later older last j hj) b0)
          ∙ ap (λ (votes : List ℕ). ran_by row P l line (before_votes older last votes) j b0) (sym notes)

      after_run : (x : ℕ) → ran_by row P l two (after_votes n2 x) j (ran_by row P l one (after_votes n1 coming) j b0) ≡ ran_by row P l line (after_votes (majorities row line) x) j b0
      after_run x =
          sym (cut (after_votes (n1 ++ n2) x) (after_votes n1 coming) (after_votes n2 x) (after_first j hj x) (after-later j hj x) b0)
          ∙ ap (λ (votes : List ℕ). ran_by row P l line (after_votes votes x) j b0) (sym notes)

    -- the vote that comes is known
    known-after : ran_after row P l one n1 coming j (b0 3 0 0) ≡ ran_by row P l one (after_votes n1 coming) j (b0 3 0 0)
    unfolding ran_after
    known-after = rw (ne_eqb coming 16 (λ e. omega (arith, e))) refl

    after_both : ran_after row P l two n2 next j (ran_by row P l one (after_votes n1 coming) j (b0 3 0 0)) ≡ ran_after row P l line (majorities row line) next j (b0 3 0 0)
    unfolding ran_after
    after_both = rw (after_run 3 0 0 0, after_run 3 0 0 15, after_run 3 0 0 next) refl

    own-cat : fed_block row then two next lent 0 j ≡ fed_block row s line next lent 0 j
    unfolding fed_block fed_state
    own-cat = ap (ran_by row P l two (own_votes (vote_ago s.older s.last n1 0) n2) j) (then-block 0) ∙ own-run 0 s.older s.last

    none-cat : fed_block row then two next lent 1 j ≡ fed_block row s line next lent 1 j
    unfolding fed_block fed_state
    none-cat =
        ap (ran_by row P l two (before_votes (vote_ago s.older s.last n1 1) (vote_ago s.older s.last n1 0) n2) j) (then-block 1) ∙ before-run 1 s.older s.last

    all_cat : fed_block row then two next lent 2 j ≡ fed_block row s line next lent 2 j
    unfolding fed_block fed_state
    all_cat =
        ap (ran_by row P l two (before_votes (vote_ago s.older_all s.last_all n1 1) (vote_ago s.older_all s.last_all n1 0) n2) j) (then-block 2)
        ∙ before-run 2 s.older_all s.last_all

    after-cat : fed_block row then two next lent 3 j ≡ fed_block row s line next lent 3 j
    unfolding fed_block fed_state
    after-cat = ap (ran_after row P l two n2 next j) (then-block 3 ∙ known-after) ∙ after_both

    pub block-cat : (w : ℕ) → w < 4 → fed_block row then two next lent w j ≡ fed_block row s line next lent w j
    block-cat = of_four (λ (w : ℕ). fed_block row then two next lent w j ≡ fed_block row s line next lent w j) own-cat none-cat all_cat after-cat

  -- ---- the changes of decision

  module _ (j : ℕ) (hj : j < 4) where
    -- whether frame f of some votes counts: the first of all does not, and then one that differs from the vote before it
    abbrev term : ℕ → List ℕ → ℕ → ℕ
    term came votes f = cond (eqb came 0 && eqb f 0) 0 (cond (eqb (decided (get_or votes (suc f) 0) j) (decided (get_or votes f 0) j)) 0 1)

    abbrev all : List ℕ
    all = s.last ∷ (n1 ++ n2)

    abbrev rest : List ℕ
    rest = vote_ago s.older s.last n1 0 ∷ n2

    first-term : (f : ℕ) → f < F → term s.came (s.last ∷ n1) f ≡ term s.came all f
    first-term f h =
        rw (
          sym (get_or-append (s.last ∷ n1) n2 0 f (omega (arith, long1))),
          sym (get_or-append (s.last ∷ n1) n2 0 (suc f) (omega (arith, long1))),
        )

    same-vote : (g : ℕ) → decided (get_or rest g 0) j ≡ decided (get_or all (F + g) 0) j
    same-vote zero =
        let e : F + 0 ≡ F = add-zero F in
        ap (λ (n : ℕ). decided n j) (last-at s.older s.last)
        ∙ decided-low (get_or (s.last ∷ n1) F 0) j hj
        ∙ ap (λ (n : ℕ). decided n j) (sym (get_or-append (s.last ∷ n1) n2 0 F (omega (arith, long1))))
        ∙ ap (λ (k : ℕ). decided (get_or all k 0) j) (sym e)
    same-vote (suc g) =
        let e : F + suc g ≡ length (s.last ∷ n1) + g = omega (arith, long1) in
        ap (λ (n : ℕ). decided n j) (sym (get_or-append-add (s.last ∷ n1) n2 g 0)) ∙ ap (λ (k : ℕ). decided (get_or all k 0) j) (sym e)

    same_first : (g : ℕ) → (eqb (cond (eqb F 0) s.came 1) 0 && eqb g 0) ≡ (eqb s.came 0 && eqb (F + g) 0)
    same_first g =
        elim (ℕ_discrete F 0) [
          | yes z ↦ rw (eq-eqb F 0 z, z, zero-add g) refl
          | no z ↦ rw (ne_eqb F 0 z, ne_eqb (F + g) 0 (λ e. z (omega (arith, e)))) (none (eqb s.came 0))
        ]
      where
        none : (t : Bool) → false ≡ (t && false)
        none true = refl
        none false = refl

    later-term : (g : ℕ) → term (cond (eqb F 0) s.came 1) rest g ≡ term s.came all (F + g)
    later-term g =
        let e : F + suc g ≡ suc (F + g) = add-suc F g in
        let two : decided (get_or rest (suc g) 0) j ≡ decided (get_or all (suc (F + g)) 0) j = same-vote (suc g) ∙ ap (λ (k : ℕ). decided (get_or all k 0) j) e in
        ap (λ (t : Bool). cond t 0 (cond (eqb (decided (get_or rest (suc g) 0) j) (decided (get_or rest g 0) j)) 0 1)) (same_first g)
        ∙ rw (two, same-vote g) refl

    pub changes-cat : changes_in s.came (s.last ∷ n1) j F + changes_in (cond (eqb F 0) s.came 1) rest j G ≡ changes_in s.came all j (F + G)
    unfolding changes_in
    changes-cat =
        let a = sum_same F (term s.came (s.last ∷ n1)) (term s.came all) first-term in
        let b = sum_same G (term (cond (eqb F 0) s.came 1) rest) (λ (g : ℕ). term s.came all (F + g)) (λ g h. later-term g) in
        let c = sum-cat F G (term s.came all) in
        omega (arith, a, b, c)

    changes-at : (a b c : ℕ) (votes : List ℕ) → a ≡ F → b ≡ G → c ≡ F + G → votes ≡ n1 ++ n2
        → s.changes j + changes_in s.came (s.last ∷ n1) j a + changes_in (cond (eqb a 0) s.came 1) rest j b ≡ s.changes j + changes_in s.came (s.last ∷ votes) j c
    changes-at a b c votes ea eb ec ev = rw (ea, eb, ec, ev) (added (s.changes j) _ _ _ changes-cat)
      where
        added : (x a b c : ℕ) → a + b ≡ c → x + a + b ≡ x + c
        added x a b c e = omega arith

  -- ---- the last votes

  votes-cat : (older last n : ℕ) → n ≤ 1 → vote_ago (vote_ago older last n1 1) (vote_ago older last n1 0) n2 n ≡ vote_ago older last (n1 ++ n2) n
  votes-cat older last n h =
      let L = older ∷ last ∷ (n1 ++ n2) in
      let end : length (n1 ++ n2) + 1 - n ≡ F + (G + 1 - n) = omega (arith, length-append n1 n2, long1, long2) in
      let there : length n2 + 1 - n ≡ G + 1 - n = omega (arith, long2) in
      ap (λ (k : ℕ). get_or (vote_ago older last n1 1 ∷ vote_ago older last n1 0 ∷ n2) k 0 % 16) there
      ∙ at (G + 1 - n)
      ∙ ap (λ (k : ℕ). get_or L k 0 % 16) (sym end)
    where
      L : List ℕ
      L = older ∷ last ∷ (n1 ++ n2)

      at : (i : ℕ) → get_or (vote_ago older last n1 1 ∷ vote_ago older last n1 0 ∷ n2) i 0 % 16 ≡ get_or L (F + i) 0 % 16
      at zero =
          let e : F + 0 ≡ F = add-zero F in
          let it : get_or L F 0 ≡ get_or (older ∷ last ∷ n1) F 0 = get_or-append (older ∷ last ∷ n1) n2 0 F (omega (arith, long1)) in
          rw (e, it, older-at older last) (omega arith)
      at (suc zero) =
          let e : F + 1 ≡ suc F = omega arith in
          let it : get_or L (suc F) 0 ≡ get_or (older ∷ last ∷ n1) (suc F) 0 = get_or-append (older ∷ last ∷ n1) n2 0 (suc F) (omega (arith, long1)) in
          rw (e, it, last-at older last) (omega arith)
      at (suc (suc i)) =
          let e : F + suc (suc i) ≡ length (older ∷ last ∷ n1) + i = omega (arith, long1) in
          ap (λ (n : ℕ). n % 16) (sym (get_or-append-add (older ∷ last ∷ n1) n2 i 0)) ∙ ap (λ (k : ℕ). get_or L k 0 % 16) (sym e)

  -- ---- so two feeds are one
  pub in-turn : Same (fed_state row then two next lent) (fed_state row s line next lent)
  unfolding fed_state
  in-turn =
      record {
        level = refl;
        pattern = refl;
        came = rw (two-frames, all-frames, ne_eqb G 0 (λ e. omega arith), ne_eqb (F + G) 0 (λ e. omega arith)) refl;
        older = votes-cat s.older s.last 1 (omega arith) ∙ ap (λ (votes : List ℕ). vote_ago s.older s.last votes 1) (sym notes);
        last = votes-cat s.older s.last 0 (omega arith) ∙ ap (λ (votes : List ℕ). vote_ago s.older s.last votes 0) (sym notes);
        older_all = votes-cat s.older_all s.last_all 1 (omega arith) ∙ ap (λ (votes : List ℕ). vote_ago s.older_all s.last_all votes 1) (sym notes);
        last_all = votes-cat s.older_all s.last_all 0 (omega arith) ∙ ap (λ (votes : List ℕ). vote_ago s.older_all s.last_all votes 0) (sym notes);
        changes = λ j hj. changes-at j hj (frames_of row (length one)) (frames_of row (length two)) (frames_of row (length line)) (majorities row line) one-frames two-frames all-frames notes;
        blocks = λ b hb. block-cat (b % 4) (omega arith) (b / 4) (omega arith);
      }

-- ---- and so is any number of them

same-trans : (a b c : State) → Same a b → Same b c → Same a c
same-trans a b c x y =
    record {
      level = x.level ∙ y.level;
      pattern = x.pattern ∙ y.pattern;
      came = x.came ∙ y.came;
      older = x.older ∙ y.older;
      last = x.last ∙ y.last;
      older_all = x.older_all ∙ y.older_all;
      last_all = x.last_all ∙ y.last_all;
      changes = λ j h. x.changes j h ∙ y.changes j h;
      blocks = λ k h. x.blocks k h ∙ y.blocks k h;
    }

same_refl : (a : State) → Same a a
same_refl a =
    record {
      level = refl;
      pattern = refl;
      came = refl;
      older = refl;
      last = refl;
      older_all = refl;
      last_all = refl;
      changes = λ j h. refl;
      blocks = λ k h. refl;
    }

module _ (row : Row) (sh : Shared row) (next : ℕ) (lent : ℕ → ℕ → ℕ) where
  all-bytes : (run : List ℕ) (runs : List (List ℕ)) → Whole row run → AllWhole row runs → Whole row (joined (run ∷ runs))
  unfolding joined
  all-bytes run [] w no_more = record { frames = w.frames; some = w.some; bytes = ap length (append-nil run) ∙ w.bytes }
  all-bytes run (more ∷ runs) w (one_more m all) =
      let rest = all-bytes more runs m all in
      record { frames = w.frames + rest.frames; some = omega (arith, w.some); bytes = line-long row sh w.frames rest.frames run (joined (more ∷ runs)) w.bytes rest.bytes }

  -- the vote that comes is the first run's
  first-of : (run : List ℕ) (runs : List (List ℕ)) → Whole row run → AllWhole row runs → get_or (majorities row (joined (run ∷ runs))) 0 0 ≡ get_or (majorities row run) 0 0
  unfolding joined
  first-of run [] w no_more = ap (λ (l : List ℕ). get_or (majorities row l) 0 0) (append-nil run)
  first-of run (more ∷ runs) w (one_more m all) =
      let rest = all-bytes more runs m all in
      let long : length (majorities row run) ≡ w.frames = tab-length (frames_of row (length run)) 0 (note_of row (digits_of run)) ∙ frames-of row sh (length run) w.frames w.bytes in
      ap (λ (l : List ℕ). get_or l 0 0) (majorities-cat row sh w.frames rest.frames run (joined (more ∷ runs)) w.bytes rest.bytes)
      ∙ get_or-append (majorities row run) (majorities row (joined (more ∷ runs))) 0 0 (omega (arith, long, w.some))

  pub all-in-turn : (s : State) (run : List ℕ) (runs : List (List ℕ)) → Whole row run → AllWhole row runs
      → Same (fed_in_turn row s (run ∷ runs) next lent) (fed_state row s (joined (run ∷ runs)) next lent)
  unfolding fed_in_turn joined
  all-in-turn s run [] w no_more = subst (λ (l : List ℕ). Same (fed_state row s run next lent) (fed_state row s l next lent)) (sym (append-nil run)) (same_refl (fed_state row s run next lent))
  all-in-turn s run (more ∷ runs) w (one_more m all) =
      let rest = all-bytes more runs m all in
      let vote = get_or (majorities row more) 0 0 % 16 in
      let vote-is : get_or (majorities row (joined (more ∷ runs))) 0 0 % 16 ≡ vote = ap (λ (n : ℕ). n % 16) (first-of more runs m all) in
      let then_one = all-in-turn (fed_state row s run vote lent) more runs m all in
      let two = in-turn row sh s w.frames rest.frames run (joined (more ∷ runs)) w.bytes rest.bytes rest.some next lent in
      same-trans (fed_in_turn row (fed_state row s run vote lent) (more ∷ runs) next lent) (fed_state row (fed_state row s run vote lent) (joined (more ∷ runs)) next lent)
      (fed_state row s (run ++ joined (more ∷ runs)) next lent) then_one
      (subst (λ (v : ℕ). Same (fed_state row (fed_state row s run v lent) (joined (more ∷ runs)) next lent) (fed_state row s (run ++ joined (more ∷ runs)) next lent)) vote-is two)
