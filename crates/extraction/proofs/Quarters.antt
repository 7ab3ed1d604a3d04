-- The four quarters of the buffer are ended one after the other: what the first j of them hold, that one quarter more keeps it, and that four
-- of them are the buffer, where each writer has put out its tributary's digits.
use mathlib.Core.Path.{◌≡◌, sym, ◌∙◌, ap}
use mathlib.Core.List.{List, ◌++◌}
use Prim.Native.Nat.{ℕ, ◌+◌, ◌*◌, ◌-◌, ◌≤◌, ◌<◌}
use native.Mathlib.Omega.{arith}
use native.Mathlib.Nat.{zero-mul}
use lib.ListN.{length, get_or, set, take, drop, replicate, length-set, length-drop, take-append-drop}
use lib.Seq.{get_or-set_same, get_or-set_other, take_all, drop-drop}
use borrow.Author.Count.{below_more}
use borrow.Rule.Slice.PartMut.{mid_of, put_mid, same_len_mid}
use Rattle.digits.specs.Digits.{digits_of, bytes_of, tab}
use Rattle.digits.proofs.Laws.{bytes-length, tab-of}
use Rattle.words.specs.declared.Writer.{Writer}
use Rattle.words.specs.Words.{out_from}
use Rattle.table.specs.declared.Row.{Row}
use Rattle.levels.specs.Order.{actions, count_of, counts_of}
use Rattle.levels.proofs.Counts.{count-of}
use Rattle.unweave.specs.declared.Writers.{Writers}
use Rattle.unweave.specs.Quarters.{part_of, writer_of}
use Rattle.unweave.proofs.Four.{part-lent, part-size, part-back, part-others}
use Rattle.extraction.specs.Quarters.{taken_to, quarter_from, quarters_from}
use Rattle.extraction.specs.Handing.{Handing}
use Rattle.extraction.proofs.Taking.{taken-length}
use Rattle.extraction.proofs.Handing.{come}

-- how many digits a writer has put out, and what its end leaves in a quarter of q bytes
abbrev pub count_by : Writer → ℕ
count_by w = 8 * w.at + w.fill

abbrev pub end_of : ℕ → List ℕ → Writer → List ℕ
end_of q part w = bytes_of q (out_from 0 part w ++ replicate (8 * q - count_by w) 0)

pub record Ended (q : ℕ) (w : Writers) (old : List ℕ) (j : ℕ) (counts buffer : List ℕ) : Type 0 where
  pub four : length counts ≡ 4
  pub size : length buffer ≡ length old
  pub counted : (k : ℕ) → k < j → get_or counts k 0 ≡ count_by (writer_of w k)
  pub done : (k : ℕ) → k < j → part_of q buffer k ≡ end_of q (part_of q old k) (writer_of w k)
  pub rest : (k : ℕ) → j ≤ k → part_of q buffer k ≡ part_of q old k

module _ {q : ℕ} {w : Writers} {old : List ℕ} {j : ℕ} {counts buffer : List ℕ} (so_far : Ended q w old j counts buffer) (room : 4 * q ≤ length old) (h : j < 4) where
  abbrev part : List ℕ
  part = mid_of (j * q) (j * q + q - j * q) buffer

  inside : 4 * q ≤ length buffer
  inside = omega (arith, so_far.size)

  pub lent-size : length part ≡ q
  lent-size = part-size q j buffer h inside

  pub ended-more : (count : ℕ) (ys : List ℕ)
      → (count ≡ count_by (writer_of w j)) × (ys ≡ bytes_of (length part) (out_from 0 part (writer_of w j) ++ replicate (8 * length part - count_by (writer_of w j)) 0))
      → Ended q w old (j + 1) (set counts j count) (put_mid (j * q) (j * q + q - j * q) buffer ys)
  ended-more count ys e =
      let lent : part ≡ part_of q old j = part-lent q j buffer h inside ∙ so_far.rest j (omega arith) in
      let mine : ys ≡ end_of q (part_of q old j) (writer_of w j) =
      (rw lent-size at e.1) ∙ ap (λ (l : List ℕ). end_of q l (writer_of w j)) lent in
      let own : length ys ≡ q = ap length mine ∙ bytes-length q _ in
      let new = put_mid (j * q) (j * q + q - j * q) buffer ys in
      record {
        four = length-set counts j count ∙ so_far.four;
        size = same_len_mid (j * q) (j * q + q - j * q) buffer ys (own ∙ sym lent-size) ∙ so_far.size;
        counted = below_more (λ (k : ℕ). get_or (set counts j count) k 0 ≡ count_by (writer_of w k)) j
            (λ k m. get_or-set_other counts j k count 0 (λ e. omega arith) ∙ so_far.counted k m)
            (get_or-set_same counts j count 0 (omega (arith, so_far.four)) ∙ e.0);
        done = below_more (λ (k : ℕ). part_of q new k ≡ end_of q (part_of q old k) (writer_of w k)) j
            (λ k m. part-others q j buffer h inside ys own k (λ e. omega arith) ∙ so_far.done k m)
            (part-back q j buffer h inside ys own ∙ mine);
        rest = λ k m. part-others q j buffer h inside ys own k (λ e. omega arith) ∙ so_far.rest k (omega arith);
      }

-- a buffer is its four quarters
four-parts : (q : ℕ) (l : List ℕ) → length l ≡ 4 * q → part_of q l 0 ++ (part_of q l 1 ++ (part_of q l 2 ++ part_of q l 3)) ≡ l
four-parts q l size =
    let last : part_of q l 3 ≡ drop (3 * q) l = take_all q (drop (3 * q) l) (omega (arith, length-drop (3 * q) l)) in
    let step : (a b : ℕ) → b ≡ a + q → take q (drop a l) ++ drop b l ≡ drop a l =
    λ a b e. rw (e, ← drop-drop q a l) (take-append-drop q (drop a l)) in
    rw (last, step (2 * q) (3 * q) (omega arith), step (1 * q) (2 * q) (omega arith), step (0 * q) (1 * q) (omega arith), zero-mul q)

pub ended-all : {row : Row} {earlier : ℕ} {line notes : List ℕ} {q : ℕ} {w : Writers} {old counts buffer : List ℕ} → Handing row earlier line notes q (2 * length line) old w
    → Ended q w old 4 counts buffer
    → (counts ≡ counts_of row earlier notes (length notes)) × (buffer ≡ quarters_from row earlier notes line q)
unfolding tab quarter_from quarters_from
ended-all {row} {earlier} {line} {notes} {q} {w} {old} {counts} {buffer} handed ended =
    let F = length notes in
    let sh = handed.fits.shared in
    let count : (k : ℕ) → k < 4 → get_or counts k 0 ≡ count_of row (actions row earlier notes k) F =
    λ k h. ended.counted k h ∙ come handed k h ∙ count-of row sh k h (actions row earlier notes k) F (length line) handed.fits.whole in
    let many : (k : ℕ) → k < 4 → count_by (writer_of w k) ≡ length (taken_to row earlier notes (digits_of line) k (2 * length line)) =
    λ k h. come handed k h ∙ sym (taken-length row earlier notes (digits_of line) k (2 * length line)) in
    let quarter : (k : ℕ) → k < 4 → part_of q buffer k ≡ quarter_from row earlier notes line q k =
    λ k h. ended.done k h ∙ rw (many k h, handed.out k h) in
    let parts = four-parts q buffer (ended.size ∙ handed.size) in (
      tab-of counts 4 (λ (k : ℕ). count_of row (actions row earlier notes k) F) ended.four count,
      sym parts ∙ rw (quarter 0 (omega arith), quarter 1 (omega arith), quarter 2 (omega arith), quarter 3 (omega arith)),
    )
