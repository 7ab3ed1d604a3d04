-- Reading the notes of a line, frame by frame: what is known after f frames, that it holds at the start, that one frame more keeps it, and
-- what it says at the end.
use mathlib.Core.Path.{◌≡◌, refl, sym, ◌∙◌, ap}
use mathlib.Core.List.{List, [], ◌∷◌}
use Prim.Native.Nat.{ℕ, zero, suc, ◌+◌, ◌*◌, ◌≤◌, ◌<◌, min}
use native.Mathlib.Omega.{arith}
use native.Mathlib.Numerals.{add-one}
use native.Mathlib.Nat.{mul-le-mul_right, add-mul, one-mul}
use native.Mathlib.Decide.{dec_lt}
use lib.ListN.{length, get_or, set, length-set, length-append, get_or-append}
use lib.Seq.{ext_get_or, get_or-set_same, get_or-set_other, get_or-append_seam}
use borrow.Author.Count.{below_none, below_more}
use Rattle.table.specs.declared.Row.{Row}
use Rattle.engine.specs.Engine.{sum_over, votes_to, wrong_to, note_in, notes_to, alignment_to, dissent_in, dissent_to, dissents_to}
use Rattle.engine.specs.Walk.{Regular, Fits}
use Rattle.plain.specs.Walk.{Within, four_sums}
use Rattle.engine.proofs.Counting.{line_short}
use Rattle.plain.proofs.Votes.{votes-most}

-- the list of notes by its frames
pub notes-length : (row : Row) (line : List ℕ) (F : ℕ) → length (notes_to row line F) ≡ F
unfolding notes_to
notes-length row line zero = refl
notes-length row line (suc F) = length-append (notes_to row line F) (note_in row line F ∷ []) ∙ omega (arith, notes-length row line F)

pub note-at : (row : Row) (line : List ℕ) (F f : ℕ) → f < F → get_or (notes_to row line F) f 0 ≡ note_in row line f
unfolding notes_to
note-at row line zero f h = absurd (omega arith)
note-at row line (suc F) f h =
    elim (dec_lt f F) [
      | yes l ↦
          get_or-append (notes_to row line F) (note_in row line F ∷ []) 0 f (omega (arith, notes-length row line F)) ∙ note-at row line F f l
      | no l ↦
          let e : f ≡ F = omega arith in
          let at : f ≡ length (notes_to row line F) = omega (arith, notes-length row line F) in
          rw at (get_or-append_seam (notes_to row line F) (note_in row line F) [] 0 ∙ ap (note_in row line) (sym (notes-length row line F ∙ refl)))
    ]

-- a minority is no more than the whole
min-most : (a b n : ℕ) → a ≤ n → min a b ≤ n
min-most a b n h = omega arith

sum-most : (n m : ℕ) (g : ℕ → ℕ) → ((i : ℕ) → g i ≤ m) → sum_over n g ≤ n * m
unfolding sum_over
sum-most zero m g few = omega arith
sum-most (suc n) m g few = omega (arith, add-mul n 1 m, one-mul m, add-one n, sum-most n m g few, few n)

pub record Noting (row : Row) (line : List ℕ) (F f : ℕ) (notes : List ℕ) (alignment : ℕ) (dissent : List ℕ) : Type 0 where
  pub regular : Regular row
  pub fits : Fits row (length line) F
  pub size : length notes ≡ F
  pub noted : (k : ℕ) → k < f → get_or notes k 0 ≡ note_in row line k
  pub small : alignment ≤ f * row.digits
  pub aligned : alignment ≡ alignment_to row line f
  pub dissenting : dissent ≡ dissents_to row line f

pub noting-none : (row : Row) (line notes : List ℕ) → Regular row → Fits row (length line) (length notes)
    → Noting row line (length notes) 0 notes 0 (0 ∷ 0 ∷ 0 ∷ 0 ∷ [])
unfolding sum_over
noting-none row line notes re fits =
    record {
      regular = re;
      fits = fits;
      size = refl;
      noted = below_none (λ (k : ℕ). get_or notes k 0 ≡ note_in row line k);
      small = omega arith;
      aligned = refl;
      dissenting = refl;
    }

module _ {row : Row} {line : List ℕ} {F f : ℕ} {notes : List ℕ} {alignment : ℕ} {dissent : List ℕ} (so_far : Noting row line F f notes alignment dissent) (h : f < F) where
  -- the frame lies in the line
  pub within : Within row (length line) f
  within =
      record {
        inside = omega (arith, so_far.fits.whole, mul-le-mul_right {m = f + 1} {n = F} row.digits (omega arith), add-mul f 1 row.digits, one-mul row.digits);
        short = line_short row so_far.regular (length line) F so_far.fits;
      }

  -- no count wraps
  pub alignment-small : alignment ≤ 262144
  alignment-small = omega (arith, so_far.small, within.inside, within.short)

  few : (j k : ℕ) → dissent_in row line k j ≤ 4096
  few j k = min-most (votes_to row line k j 0 row.digits) (votes_to row line k j 1 row.digits) 4096 (omega (arith, votes-most row line k j 0 row.digits, so_far.regular.short))

  small-sum : (j : ℕ) → dissent_to row line j f + dissent_in row line f j < 1000000
  small-sum j =
      omega (arith, sum-most f 4096 (λ (k : ℕ). dissent_in row line k j) (few j), few j f, mul-le-mul_right {m = f} {n = 64} 4096 (omega (arith, so_far.fits.few)))

  abbrev Here : List ℕ → Type 0
  Here here = here ≡ dissent_in row line f 0 ∷ dissent_in row line f 1 ∷ dissent_in row line f 2 ∷ dissent_in row line f 3 ∷ []

  pub sums-ask : (here : List ℕ) → Here here → (i : ℕ) → get_or dissent i 0 + get_or here i 0 < 1000000
  sums-ask here e i = rw (e, so_far.dissenting) (at i)
    where
      at : (i : ℕ) → get_or (dissents_to row line f) i 0
          + get_or (dissent_in row line f 0 ∷ dissent_in row line f 1 ∷ dissent_in row line f 2 ∷ dissent_in row line f 3 ∷ []) i 0 < 1000000
      at zero = small-sum 0
      at (suc zero) = small-sum 1
      at (suc (suc zero)) = small-sum 2
      at (suc (suc (suc zero))) = small-sum 3
      at (suc (suc (suc (suc i)))) = omega arith

  pub noting-more : (here : List ℕ) → Here here → (note wrong : ℕ) (sums : List ℕ) → note ≡ note_in row line f → wrong ≡ wrong_to row line f row.digits
      → wrong ≤ row.digits → sums ≡ four_sums dissent here → Noting row line F (f + 1) (set notes f note) (alignment + wrong) sums
  unfolding sum_over
  noting-more here e note wrong sums en ew few es =
      record {
        regular = so_far.regular;
        fits = so_far.fits;
        size = length-set notes f note ∙ so_far.size;
        noted = below_more (λ (k : ℕ). get_or (set notes f note) k 0 ≡ note_in row line k) f
            (λ k m. get_or-set_other notes f k note 0 (λ e. omega arith) ∙ so_far.noted k m)
            (get_or-set_same notes f note 0 (omega (arith, so_far.size)) ∙ en);
        small = omega (arith, so_far.small, add-mul f 1 row.digits, one-mul row.digits);
        aligned = rw (add-one f, ew, so_far.aligned);
        dissenting = rw (add-one f, es, e, so_far.dissenting);
      }

pub noting-all : {row : Row} {line : List ℕ} {F f : ℕ} {notes : List ℕ} {alignment : ℕ} {dissent : List ℕ} → Noting row line F f notes alignment dissent → f ≡ F
    → (alignment ≡ alignment_to row line F) × (dissent ≡ dissents_to row line F) × (notes ≡ notes_to row line F)
noting-all {row} {line} {F} {f} {notes} so_far e =
    rw (← e) (
      so_far.aligned,
      so_far.dissenting,
      ext_get_or 0 notes (notes_to row line f) (so_far.size ∙ sym e ∙ sym (notes-length row line f))
          (λ k m. let inside : k < f = omega (arith, so_far.size) in so_far.noted k inside ∙ sym (note-at row line f k inside)),
    )
