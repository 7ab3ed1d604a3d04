-- Set after set and frame after frame: behind the head of a set every place stays, and the note of a frame is read from what is still as it came.
use mathlib.Core.Path.{◌≡◌, refl, sym, ◌∙◌, ap}
use mathlib.Core.Bool.{Bool}
use mathlib.Core.List.{List, ◌∷◌}
use Prim.Native.Nat.{ℕ, suc, ◌+◌, ◌*◌, ◌-◌, ◌≤◌, ◌<◌}
use native.Mathlib.Omega.{arith}
use native.Mathlib.Nat.{zero-add, add-mul, mul_left_comm}
use lib.ListN.{length, get_or, replicate}
use Rattle.digits.specs.Digits.{digits_of, bytes_of, tab, Bytes}
use Rattle.digits.proofs.Laws.{tab-at, bytes-by-place}
use Rattle.table.specs.declared.Row.{Row}
use Rattle.levels.specs.Table.{Shared}
use Rattle.levels.specs.Sizes.{frames_of}
use Rattle.levels.specs.Places.{head_end}
use Rattle.levels.specs.Vote.{vote_of}
use Rattle.levels.proofs.Groups.{group-same}
use Rattle.levels.proofs.Runs.{head-end-in, past_head}
use Rattle.reading.specs.Notes.{vote_at, service_at, note_of, notes_of}
use Rattle.reading.proofs.Inside.{frame-whole}
use Rattle.tally.proofs.Sums.{sums_none}
use Rattle.repair.specs.Repair.{becomes, changes, repaired_line}
use Rattle.repair.specs.Mending.{Whole, Mended, Acts, Begun, Onward}
use Rattle.repair.proofs.Mending.{mended-short, mended-over, becomes-here}

-- the note of a frame depends on the digits from the frame's first on
module _ (row : Row) (ds es : List ℕ) (f : ℕ) (h : (p : ℕ) → f * row.digits ≤ p → get_or es p 0 ≡ get_or ds p 0) where
  vote-same : (j : ℕ) → vote_at row es f j ≡ vote_at row ds f j
  unfolding vote_at
  vote-same j =
      ap vote_of
      (group-same es (f * row.digits + (row.set + j)) row.set ds row.control (λ i hi. h (f * row.digits + (row.set + j) + i * row.set) (omega arith)))

  service-same : (k : ℕ) → service_at row es f k ≡ service_at row ds f k
  unfolding service_at
  service-same k = rw (h (f * row.digits + (row.alarm + k)) (omega arith))

  pub note-same : note_of row es f ≡ note_of row ds f
  unfolding note_of
  note-same =
      rw (vote-same 0, vote-same 1, vote-same 2, vote-same 3, service-same 0, service-same 1, service-same 2, service-same 3)

-- ---- a set

module _ {row : Row} {national : Bool} {f preceding note : ℕ} where
  -- one step after others
  pub onward_then : {n k l l' : ℕ} {line sums mid some left more : List ℕ} → Onward row national f preceding note n k line sums mid some
      → Onward row national f preceding note k l mid some left more → l ≡ l' → Onward row national f preceding note n l' line sums left more
  onward_then one two e earlier old a m = rw (← e) (two earlier old a (one earlier old a m))

  pub begun-on : {n k : ℕ} {line sums mid some : List ℕ} → Begun row national f preceding note n line sums → Onward row national f preceding note n k line sums mid some
      → Begun row national f preceding note k mid some
  begun-on b on = record { earlier = b.earlier; old = b.old; acts = b.acts; mended = on b.earlier b.old b.acts b.mended }

  -- behind a set's head nothing is to be repaired
  pub set-done : (s : ℕ) → s < row.sets → {line sums mid some : List ℕ} {n : ℕ}
      → Onward row national f preceding note n (f * row.digits + (s * row.set + head_end row s)) line sums mid some
      → Onward row national f preceding note n (f * row.digits + (s + 1) * row.set) line sums mid some
  set-done s hs on earlier old a m =
      let here = on earlier old a m in
      let sh : Shared row = here.whole.shared in
      let from = f * row.digits + (s * row.set + head_end row s) in
      let k = row.set - head_end row s in
      let end : from + k ≡ f * row.digits + (s + 1) * row.set = omega (arith, head-end-in row sh s, add-mul s 1 row.set) in
      rw (← end) (mended-over k from here (λ p l h. stays sh here a p l (omega (arith, head-end-in row sh s))))
    where
      stays : {earlier : ℕ} {old mid some : List ℕ} {n : ℕ} → Shared row → Mended row earlier national old n mid some → Acts row earlier old f preceding note → (p : ℕ)
          → f * row.digits + (s * row.set + head_end row s) ≤ p → p < f * row.digits + (s * row.set + row.set)
          → get_or (digits_of old) p 0 ≡ becomes row earlier national old p
      stays sh here a p l h =
          let r = p - (f * row.digits + s * row.set) in
          sym (becomes-here here.whole a national s r p hs (omega arith) (omega arith) ∙ rw (past_head row sh s r (omega arith)))

  -- the sets of a frame are the frame
  pub frame-done : {line sums mid some : List ℕ} → Onward row national f preceding note (f * row.digits) (f * row.digits + row.sets * row.set) line sums mid some
      → Onward row national f preceding note (f * row.digits) ((f + 1) * row.digits) line sums mid some
  frame-done on earlier old a m =
      let here = on earlier old a m in
      let end : f * row.digits + row.sets * row.set ≡ (f + 1) * row.digits = omega (arith, here.whole.shared.whole, add-mul f 1 row.digits) in
      rw (← end) here

-- ---- frames

-- the frames before frame f are repaired, and its preceding note is at hand
pub record Framing (row : Row) (earlier : ℕ) (national : Bool) (old : List ℕ) (f preceding : ℕ) (new sums : List ℕ) : Type 0 where
  pub mended : Mended row earlier national old (f * row.digits) new sums
  pub before : preceding ≡ get_or (earlier ∷ notes_of row (digits_of old) (frames_of row (length old))) f 0

pub framing-none : (row : Row) (earlier : ℕ) (national : Bool) (old sums : List ℕ) → Whole row old → Bytes old → sums ≡ replicate 15 0 → Framing row earlier national old 0 earlier old sums
framing-none row earlier national old sums wh bytes e =
    record {
      mended = record { whole = wh; kept = refl; done = λ p h. absurd (none p h); rest = λ p h. refl; counted = rw start (e ∙ sym (sums_none row (changes row earlier national old))); bytes = bytes };
      before = refl;
    }
  where
    none : (p : ℕ) → p < 0 * row.digits → ⊥
    none p h = omega arith

    start : 0 * row.digits ≡ 0
    start = omega arith

-- what reading the note of the next frame asks of the line
pub note-asks : {row : Row} {earlier : ℕ} {national : Bool} {old : List ℕ} {f preceding : ℕ} {mid sums : List ℕ} → Framing row earlier national old f preceding mid sums → f < frames_of row (length old)
    → Shared row × (length mid ≤ 65536) × ((f + 1) * row.bytes ≤ length mid)
note-asks {row = row} {old = old} {f = f} so_far h =
    let wh = so_far.mended.whole in
    (wh.shared, mended-short so_far.mended, rw so_far.mended.kept (frame-whole row wh.shared f (frames_of row (length old)) (length old) h wh.frames))

-- the digits of a line of whole frames
pub frames-digits : {row : Row} {old : List ℕ} → Whole row old → frames_of row (length old) * row.digits ≡ 8 * length old
frames-digits {row = row} {old = old} wh =
    let F = frames_of row (length old) in
    ap (λ (k : ℕ). F * k) wh.shared.packed ∙ mul_left_comm F 8 row.bytes ∙ ap (λ (k : ℕ). 8 * k) (sym wh.frames)

pub framing-all : {row : Row} {earlier : ℕ} {national : Bool} {old : List ℕ} {f preceding : ℕ} {new sums : List ℕ}
    → Framing row earlier national old f preceding new sums → f ≡ frames_of row (length old) → Mended row earlier national old (8 * length old) new sums
framing-all {f = f} so_far e = rw (← frames-digits so_far.mended.whole, ← e) so_far.mended

module _ {row : Row} {earlier : ℕ} {national : Bool} {old : List ℕ} {f preceding : ℕ} {mid sums : List ℕ} (so_far : Framing row earlier national old f preceding mid sums)
    (h : f < frames_of row (length old)) {note : ℕ} (en : note ≡ note_of row (digits_of mid) f) where
  pub frame-acts : Acts row earlier old f preceding note
  frame-acts =
      record {
        inside = h;
        before = so_far.before;
        own = en ∙ note-same row (digits_of old) (digits_of mid) f (λ p l. so_far.mended.rest p l);
      }

  pub frame-begun : Begun row national f preceding note (f * row.digits) mid sums
  frame-begun = record { earlier = earlier; old = old; acts = frame-acts; mended = so_far.mended }

  pub framing-more : (new more : List ℕ) → Onward row national f preceding note (f * row.digits) ((f + 1) * row.digits) mid sums new more
      → Framing row earlier national old (f + 1) note new more
  framing-more new more on =
      record {
        mended = on earlier old frame-acts so_far.mended;
        before = rw (one f) (frame-acts.own ∙ sym (tab-at (frames_of row (length old)) 0 (note_of row (digits_of old)) f h ∙ ap (note_of row (digits_of old)) (zero-add f)));
      }
    where
      one : (n : ℕ) → n + 1 ≡ suc n
      one n = omega arith

pub all_done : {row : Row} {earlier n : ℕ} {national : Bool} {old new sums : List ℕ} → Mended row earlier national old n new sums → n ≡ 8 * length old → new ≡ repaired_line row earlier national old
unfolding repaired_line
all_done {row = row} {earlier = earlier} {national = national} {old = old} {new = new} m e =
    bytes-by-place new (becomes row earlier national old) m.bytes (λ p h. m.done p (omega (arith, m.kept)))
    ∙ ap (λ (k : ℕ). bytes_of k (tab (8 * k) 0 (becomes row earlier national old))) m.kept
