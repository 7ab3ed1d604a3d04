-- What an extraction leaves in the room of a reading: each tributary's digits, first in its quarter; and what the readings count of them.
use mathlib.Core.Path.{◌≡◌, refl, sym, ◌∙◌, ap, ap₂}
use mathlib.Core.List.{List, [], ◌∷◌, ◌++◌}
use Prim.Native.Nat.{ℕ, suc, ◌+◌, ◌*◌, ◌-◌, ◌/◌, ◌≤◌, ◌<◌, min}
use native.Mathlib.Omega.{arith}
use lib.ListN.{length, get_or, set, take, drop, length-set, length-drop}
use lib.Seq.{length-take-le, drop-set-add, set_split, get_or-drop, drop-drop}
use borrow.Rule.Slice.PartMut.{post_of, put_mid, same_len_mid}
use Rattle.digits.specs.Digits.{digits_of}
use Rattle.digits.proofs.Laws.{tab-length}
use Rattle.digits.proofs.Lists.{of_four, part_at}
use Rattle.table.specs.declared.Row.{Row}
use Rattle.levels.specs.Sizes.{frames_of, quarter_of}
use Rattle.levels.specs.Order.{actions, count_of, counts_of}
use Rattle.levels.proofs.Counts.{count_room}
use Rattle.levels.proofs.Judged.{room_small}
use Rattle.reading.specs.Notes.{note_of, notes_of}
use Rattle.extraction.specs.Quarters.{taken_to, quarters_from}
use Rattle.extraction.proofs.Handed.{quarters-length, quarter-first}
use Rattle.judge.specs.Readings.{majorities, read_by}
use Rattle.judge.specs.Wrong.{wrong_in}
use Rattle.judge.specs.Verdict.{four, wrong_by}
use Rattle.judge.specs.Counting.{Known, Accepting, Voted}
use Rattle.judge.proofs.Moved.{moved-late, first-early, moved-early}

-- a line that is extracted into the room of a reading: how many digits each tributary has there, and the room
pub record Extracted (row : Row) (earlier pattern buffer room : ℕ) (line notes counts new : List ℕ) : Type 0 where
  pub ok : Accepting row line pattern buffer room
  pub size : length notes ≡ frames_of row (length line)
  pub counted : counts ≡ counts_of row earlier notes (length notes)
  pub left : new ≡ quarters_from row earlier notes line (room / 4)

module _ {row : Row} {earlier pattern buffer room : ℕ} {line notes counts new : List ℕ} (x : Extracted row earlier pattern buffer room line notes counts new) (j : ℕ) (hj : j < 4) where
  abbrev F : ℕ
  F = length notes

  many_read : get_or counts j 0 ≡ count_of row (actions row earlier notes j) F
  many_read =
      ap (λ (l : List ℕ). get_or l j 0) x.counted
      ∙ of_four (λ (j : ℕ). get_or (counts_of row earlier notes F) j 0 ≡ count_of row (actions row earlier notes j) F) refl refl refl refl j hj

  most : get_or counts j 0 ≤ frames_of row (length line) * row.room
  most = rw (many_read, ← x.size) (count_room row x.ok.shared j hj (actions row earlier notes j) F)

  long : length new / 4 ≡ room / 4
  long =
      let e : length new ≡ 4 * (room / 4) = ap length x.left ∙ quarters-length row earlier notes line (room / 4) in
      omega (arith, e)

  -- what a count of wrong digits asks
  pub lent_fits : (j < 4) × (get_or counts j 0 ≤ 8 * (length new / 4)) × (get_or counts j 0 ≤ 65536) × Known pattern × (pattern ≡ 0 → get_or counts j 0 ≤ 8 * (buffer / 4))
  lent_fits = (
    hj,
    omega (arith, long, most, x.ok.accepted.room),
    omega (arith, most, room_small row x.ok.shared (frames_of row (length line)) x.ok.accepted.framed.few),
    x.ok.known,
    λ z. omega (arith, most, x.ok.sent z),
  )

  pub read_right : take (get_or counts j 0) (digits_of (quarter_of new j)) ≡ taken_to row earlier notes (digits_of line) j (2 * length line)
  read_right =
      let whole : length line ≡ F * row.bytes = rw x.size x.ok.accepted.framed.frames in
      let room_for : F * row.room ≤ 8 * (room / 4) = rw x.size x.ok.accepted.room in
      rw (many_read, x.left) (quarter-first row x.ok.shared earlier notes line F (room / 4) j hj whole room_for)

-- a reading by notes and the vote before them is one by votes
pub by-votes : (row : Row) (line : List ℕ) (pattern : ℕ) (buffer votes : List ℕ) {earlier : ℕ} {notes : List ℕ} → earlier ≡ get_or votes 0 0 → notes ≡ drop 1 votes
    → four (λ (j : ℕ). wrong_in pattern (digits_of (quarter_of buffer j)) (taken_to row earlier notes (digits_of line) j (2 * length line))) ≡ four (wrong_by row line pattern buffer votes)
unfolding read_by
by-votes row line pattern buffer votes e n =
    ap₂ (λ (x : ℕ) (ns : List ℕ). four (λ (j : ℕ). wrong_in pattern (digits_of (quarter_of buffer j)) (taken_to row x ns (digits_of line) j (2 * length line)))) e n

pub fewer-both : {a b : List ℕ} (g h : ℕ → ℕ) → a ≡ four g → b ≡ four h → four (λ (j : ℕ). min (get_or a j 0) (get_or b j 0)) ≡ four (λ (j : ℕ). min (g j) (h j))
fewer-both g h ea eb = ap₂ (λ (x y : List ℕ). four (λ (j : ℕ). min (get_or x j 0) (get_or y j 0))) ea eb

-- a part that is lent
pub lent_length : (a e : ℕ) (l : List ℕ) → e ≤ length l → length (take (e - a) (drop a l)) ≡ e - a
lent_length a e l h = length-take-le (e - a) (drop a l) (omega (arith, length-drop a l))

-- the votes as they are read into the places behind the first
pub votes-read : (row : Row) (line v ys : List ℕ) → 66 ≡ length v → frames_of row (length line) ≤ 64
    → ys ≡ notes_of row (digits_of line) (length (take (frames_of row (length line) + 1 - 1) (drop 1 v))) → Voted row line (put_mid 1 (frames_of row (length line) + 1 - 1) v ys)
votes-read row line v ys long few e =
    let F = frames_of row (length line) in
    let lent = lent_length 1 (F + 1) v (omega (arith, long, few)) in
    let there : F + 1 - 1 ≡ F = omega arith in
    let read : ys ≡ majorities row line = e ∙ ap (notes_of row (digits_of line)) (lent ∙ there) in
    let many : length ys ≡ F = ap length read ∙ tab-length F 0 (note_of row (digits_of line)) in
    record {
      size = long ∙ sym (same_len_mid 1 (F + 1 - 1) v ys (many ∙ sym (lent ∙ there)));
      read = part_at (take 1 v) ys (post_of 1 (F + 1 - 1) v) 1 F (length-take-le 1 v (omega (arith, long))) many ∙ read;
    }

-- the votes moved by a frame, as they are lent
module _ {row : Row} {line votes : List ℕ} (voted : Voted row line votes) where
  abbrev frames : ℕ
  frames = frames_of row (length line)

  many : length (majorities row line) ≡ frames
  many = tab-length frames 0 (note_of row (digits_of line))

  -- there is room for one before them and one behind them, whatever is put
  pub moved_fit : frames ≤ 64 → (i w : ℕ) → frames + 2 ≤ length (set votes i w)
  moved_fit few i w = omega (arith, few, voted.size, length-set votes i w)

  pub late-votes : (w : ℕ) → take frames (set votes 0 w) ≡ take (length (majorities row line)) (w ∷ majorities row line)
  late-votes w = moved-late votes frames w (omega (arith, voted.size)) ∙ ap₂ (λ (n : ℕ) (ns : List ℕ). take n (w ∷ ns)) (sym many) voted.read

  module _ (u : ℕ) (few : frames ≤ 64) where
    abbrev moved : List ℕ
    moved = set votes (frames + 1) u

    abbrev rest : List ℕ
    rest = drop (suc frames) (drop 1 votes)

    behind : drop 1 moved ≡ majorities row line ++ (u ∷ rest)
    behind =
        let e : frames + 1 ≡ 1 + frames = omega arith in
        rw e (drop-set-add 1 votes frames u ∙ set_split (drop 1 votes) frames u (omega (arith, length-drop 1 votes, voted.size, few)) ∙ ap (λ (l : List ℕ). l ++ (u ∷ rest)) voted.read)

    pub early-first : get_or moved 1 0 ≡ get_or (majorities row line ++ (u ∷ [])) 0 0
    early-first = sym (get_or-drop 1 moved 0 0) ∙ ap (λ (l : List ℕ). get_or l 0 0) behind ∙ first-early (majorities row line) rest u

    pub early-votes : take frames (drop 2 moved) ≡ drop 1 (majorities row line ++ (u ∷ []))
    early-votes =
        ap (λ (l : List ℕ). take frames l) (sym (drop-drop 1 1 moved))
        ∙ ap₂ (λ (n : ℕ) (l : List ℕ). take n (drop 1 l)) (sym many) behind
        ∙ moved-early (majorities row line) rest u
