-- Reading the notes of a line, frame by frame: what is known after f frames, that it holds at the start, that one frame more keeps
-- it, and what it says at the end.
use mathlib.Core.Path.{◌≡◌, refl, sym, ◌∙◌}
use mathlib.Core.Bool.{cond}
use mathlib.Core.List.{List, [], ◌∷◌}
use Prim.Native.Nat.{ℕ, ◌+◌, ◌*◌, ◌≤◌, ◌<◌}
use native.Mathlib.Omega.{arith}
use native.Mathlib.Numerals.{add-one}
use lib.Dec.{eqb, lit≤}
use lib.ListN.{length, get_or, set, length-set}
use lib.Seq.{get_or-set_same, get_or-set_other}
use borrow.Author.Count.{below_none, below_more}
use Rattle.digits.specs.Digits.{digits_of}
use Rattle.digits.specs.Sums.{sum_to}
use Rattle.digits.proofs.Laws.{tab-of}
use Rattle.digits.proofs.Sums.{sum-most}
use Rattle.table.specs.declared.Row.{Row}
use Rattle.levels.specs.Table.{Shared}
use Rattle.levels.specs.Vote.{group_of}
use Rattle.levels.specs.Word.{word_digit, wrong_digits}
use Rattle.levels.proofs.Choice.{cond-by}
use Rattle.levels.proofs.Majority.{dissent-few, group-length}
use Rattle.levels.proofs.Judged.{short-line}
use Rattle.reading.specs.Notes.{vote_at, note_of, notes_of, alignment_to, dissent_to, dissents_of, dissents_in, four_sums}
use Rattle.reading.specs.Reading.{noted_from}
use Rattle.reading.proofs.Inside.{frame-whole, word-inside}

-- a word has no more wrong digits than digits, and at most half of a group dissents
pub wrong-few : (row : Row) (ds : List ℕ) (p : ℕ) → Shared row → wrong_digits row ds p ≤ 12
wrong-few row ds p sh =
    omega (
      arith,
      sum-most row.len 1 (λ (i : ℕ). cond (eqb (get_or ds (p + i) 0) (word_digit row i)) 0 1)
          (λ i hi. cond-by (λ (n : ℕ). n ≤ 1) (eqb (get_or ds (p + i) 0) (word_digit row i)) {a = 0} {b = 1} (lit≤ tt) (lit≤ tt)),
      sh.word_short,
    )

pub dissent-two : (row : Row) (ds : List ℕ) (f j : ℕ) → Shared row → (vote_at row ds f j).dissent ≤ 2
unfolding vote_at
dissent-two row ds f j sh =
    let p = f * row.digits + (row.set + j) in
    omega (arith, dissent-few (group_of ds p row.set row.control), group-length ds p row.set row.control, sh.group, sh.few_sets)

-- f of F frames are read
pub record Reading (row : Row) (line : List ℕ) (F f : ℕ) (notes : List ℕ) (alignment : ℕ) (dissent : List ℕ) : Type 0 where
  pub shared : Shared row
  pub whole : length line ≡ F * row.bytes
  pub few : F ≤ 64
  pub size : length notes ≡ F
  pub noted : (k : ℕ) → k < f → get_or notes k 0 ≡ note_of row (digits_of line) k
  pub aligned : alignment ≡ alignment_to row (digits_of line) f
  pub dissenting : dissent ≡ dissents_of row (digits_of line) f

pub reading-none : (row : Row) (line notes : List ℕ) → Shared row → length line ≡ length notes * row.bytes → length notes ≤ 64
    → Reading row line (length notes) 0 notes 0 (0 ∷ 0 ∷ 0 ∷ 0 ∷ [])
unfolding sum_to
reading-none row line notes sh whole few =
    record {
      shared = sh;
      whole = whole;
      few = few;
      size = refl;
      noted = below_none (λ (k : ℕ). get_or notes k 0 ≡ note_of row (digits_of line) k);
      aligned = refl;
      dissenting = refl;
    }

module _ {row : Row} {line : List ℕ} {F f : ℕ} {notes : List ℕ} {alignment : ℕ} {dissent : List ℕ} (so_far : Reading row line F f notes alignment dissent) where
  abbrev ds : List ℕ
  ds = digits_of line

  -- what the next frame asks of the line
  module _ (h : f < F) where
    frame-in : (f + 1) * row.bytes ≤ length line
    frame-in = frame-whole row so_far.shared f F (length line) h so_far.whole

    short : length line ≤ 65536
    short = short-line row so_far.shared F (length line) so_far.few so_far.whole

    pub word-asks : Shared row × (f * row.digits + row.len ≤ 8 * length line) × (length line ≤ 65536)
    word-asks = (so_far.shared, word-inside row so_far.shared f (length line) frame-in, short)

    -- no count wraps
    pub alignment-small : alignment ≤ 12 * f
    alignment-small = omega (arith, so_far.aligned, sum-most f 12 (λ (k : ℕ). wrong_digits row ds (k * row.digits)) (λ k hk. wrong-few row ds (k * row.digits) so_far.shared))

    small : (j : ℕ) → dissent_to row ds j f + (vote_at row ds f j).dissent < 65536
    small j =
        omega (arith, sum-most f 2 (λ (k : ℕ). (vote_at row ds k j).dissent) (λ k hk. dissent-two row ds k j so_far.shared), dissent-two row ds f j so_far.shared, so_far.few)

    module _ (here : List ℕ) (e : here ≡ dissents_in row ds f) where
      pub sums-ask : (get_or dissent 0 0 + get_or here 0 0 < 65536) × (get_or dissent 1 0 + get_or here 1 0 < 65536) × (get_or dissent 2 0 + get_or here 2 0 < 65536)
          × (get_or dissent 3 0 + get_or here 3 0 < 65536)
      sums-ask = rw (e, so_far.dissenting) (small 0, small 1, small 2, small 3)

      pub reading-more : (note wrong : ℕ) (sums : List ℕ) → note ≡ note_of row ds f → wrong ≡ wrong_digits row ds (f * row.digits) → sums ≡ four_sums dissent here
          → Reading row line F (f + 1) (set notes f note) (alignment + wrong) sums
      unfolding sum_to
      reading-more note wrong sums en ew es =
          record {
            shared = so_far.shared;
            whole = so_far.whole;
            few = so_far.few;
            size = length-set notes f note ∙ so_far.size;
            noted = below_more (λ (k : ℕ). get_or (set notes f note) k 0 ≡ note_of row ds k) f
                (λ k m. get_or-set_other notes f k note 0 (λ e. omega arith) ∙ so_far.noted k m)
                (get_or-set_same notes f note 0 (omega (arith, so_far.size)) ∙ en);
            aligned = rw (add-one f, ew, so_far.aligned);
            dissenting = rw (add-one f, es, e, so_far.dissenting);
          }

  pub reading-all : f ≡ F → (record { refusal = 0; alignment = alignment; dissent = dissent } ≡ noted_from row ds F) × (notes ≡ notes_of row ds F)
  reading-all e =
      rw (← e) (rw (so_far.aligned, so_far.dissenting) refl, tab-of notes f (note_of row ds) (so_far.size ∙ sym e) so_far.noted)
