-- Writer and reader together: reading gives back what was written, and every accepted file is what the writer makes of its reading, so that no
-- two files read alike. Refusal 9 is given exactly to what is no run of fields. And the statements of the two calls guard them: they leave
-- no second answer, they are what the calls ensure, and the calls ask nothing of their callers.
use Rattle.std.specs.Prelude.{Option, Some, None}
use mathlib.Core.Path.{◌≡◌, refl, sym, ◌∙◌, ap, subst}
use mathlib.Core.Logic.{◌≢◌, ◌⊎◌, inl, inr, ⊎_elim}
use mathlib.Core.Bool.{Bool, cond, true, false}
use mathlib.Core.List.{List, []}
use Prim.Native.Nat.{ℕ, ◌≤◌}
use native.Mathlib.Omega.{arith}
use lib.Dec.{eqb}
use lib.ListN.{length, take, drop}
use lib.Seq.{take-append_seam}
use contract.Lifetimes.{Lfts}
use denote.Triple.Clauses.{AtExit}
use borrow.Fn.World.{ArgsD, ResD}
use borrow.Author.Tests.{eq-eqb, ne_eqb, eqb-true, eqb-false}
use Rattle.digits.specs.Digits.{Bytes}
use Rattle.table.specs.declared.Row.{Row}
use Rattle.table.specs.Table.{level_of}
use Rattle.levels.specs.Sizes.{on_level, bad_line}
use Rattle.levels.proofs.Choice.{cond-by}
use Rattle.levels.proofs.Rows.{shared-row}
use Rattle.captures.specs.declared.Reading.{Reading}
use Rattle.captures.specs.Captures.{Written, file_of, filed, write_refusal, unwritten, written_of, written_on, written_in, WriteMet, end_at, field_at, unread, after_line, fields_of, judged, read_of, ReadMet, bytes_in}
use Rattle.captures.specs.Trips.{Gives, Run}
use Rattle.captures.proofs.Judging.{judged-good, short-enough, short-label, unrefused-so}
use Rattle.captures.proofs.Files.{found, fields-found, gives_back, remade, fields_made}
use Rattle.captures.specs.contracts.write as write
use Rattle.captures.proofs.write.Reads as write-reads
use Rattle.captures.specs.contracts.read as read
use Rattle.captures.proofs.read.Reads as read-reads

-- ---- what is known of an accepted write, and of an accepted reading

pub record WrittenWell (level : ℕ) (line label : List ℕ) (labelled : Bool) (room : ℕ) : Type 0 where
  pub row : Row
  pub has_row : level_of level ≡ Some row
  pub unrefused : write_refusal row level line label labelled room ≡ 0

written-well : (level : ℕ) (line label : List ℕ) (labelled : Bool) (room : ℕ) → (written_of level line label labelled room).refusal ≡ 0
    → WrittenWell level line label labelled room
written-well level line label labelled room = go (level_of level) refl
  where
    zero_of : (row : Row) (t : Bool) (n : ℕ) → eqb n 0 ≡ t
        → (cond t (record { refusal = 0; bytes = length (file_of level line label labelled); byte = 0 }) (unwritten n)).refusal ≡ 0 → n ≡ 0
    zero_of row true n x e = eqb-true n 0 x
    zero_of row false n x e = e

    one : ◌≡◌ {A = ℕ} 1 0 → ⊥
    one e = omega arith

    go : (l : Option Row) → level_of level ≡ l → (on_level l (λ (row : Row). written_on row level line label labelled room) (unwritten 1)).refusal ≡ 0
        → WrittenWell level line label labelled room
    go (Some row) x e =
        let no = write_refusal row level line label labelled room in
        record { row = row; has_row = x; unrefused = zero_of row (eqb no 0) no refl e }
    go None x e = absurd (one e)

pub record ReadWell (file : List ℕ) : Type 0 where
  pub fields : (fields_of file).refusal ≡ 0
  pub row : Row
  pub has_row : level_of (fields_of file).level ≡ Some row
  pub line_good : bad_line row (fields_of file).line.bytes ≡ false
  pub same : read_of file ≡ fields_of file

read-well : (file : List ℕ) → (read_of file).refusal ≡ 0 → ReadWell file
read-well file ok = go (eqb f.refusal 0) refl (level_of f.level) refl
  where
    f : Reading
    f = fields_of file

    no_such : ◌≡◌ {A = ℕ} 1 0 → ⊥
    no_such e = omega arith

    no_line : ◌≡◌ {A = ℕ} 2 0 → ⊥
    no_line e = omega arith

    go : (t : Bool) → eqb f.refusal 0 ≡ t → (l : Option Row) → level_of f.level ≡ l → ReadWell file
    go false x l y = absurd (eqb-false f.refusal 0 x (rw x at ok))
    go true x None y = absurd (no_such (rw (x, y) at ok))
    go true x (Some row) y = by-line (bad_line row f.line.bytes) refl
      where
        by-line : (t : Bool) → bad_line row f.line.bytes ≡ t → ReadWell file
        by-line true z = absurd (no_line (rw (x, y, z) at ok))
        by-line false z = record { fields = eqb-true f.refusal 0 x; row = row; has_row = y; line_good = z; same = rw (x, y, z) refl }

-- a run of fields whose level and line are good is read as it was found
read_found : (file : List ℕ) (f : Reading) → fields_of file ≡ f → f.refusal ≡ 0 → (row : Row) → level_of f.level ≡ Some row → bad_line row f.line.bytes ≡ false
    → read_of file ≡ f
read_found file f is z row x good = rw (is, eq-eqb f.refusal 0 z, x, good) refl

-- ---- reading gives back what was written

-- an accepted write into any buffer, and a reading of the bytes that it says it wrote: level, line and label are those that were given
pub read_back : (level : ℕ) (line label : List ℕ) (labelled : Bool) (buffer : List ℕ) (w : Written) (left : List ℕ) (r : Reading)
    → WriteMet level line label labelled buffer w left → w.refusal ≡ 0 → ReadMet (take w.bytes left) r
    → Gives (take w.bytes left) r level line label labelled
read_back level line label labelled buffer w left r met z reads =
    let file = file_of level line label labelled in
    let well = written-well level line label labelled (length buffer) (sym (ap (λ (v : Written). v.refusal) met.0) ∙ z) in
    let row = well.row in
    let ok = judged-good row level line label labelled buffer well.unrefused in
    let short = short-enough row (shared-row level row well.has_row) (length line) ok.line_good in
    let wrote : w.bytes ≡ length file = ap (λ (v : Written). v.bytes) met.0 ∙ rw (well.has_row, eq-eqb _ _ well.unrefused) refl in
    let leaves : left ≡ filed file buffer = met.1 ∙ rw (well.has_row, eq-eqb _ _ well.unrefused) refl in
    let cut : take w.bytes left ≡ file = rw (wrote, leaves) (take-append_seam file (drop (length file) buffer)) in
    let fields = fields-found level line label short labelled (short-label labelled label ok.label_short) in
    let is : r ≡ found level line label labelled
    = reads ∙ ap read_of cut ∙ read_found file (found level line label labelled) fields refl row well.has_row ok.line_good in
    rw (cut, is) (gives_back level line label short labelled)

-- ---- every accepted file is what the writer makes of its reading

-- a file that is read, and its reading written into any buffer that has room for it: accepted, as many bytes, the same bytes
pub write-back : (file : List ℕ) → Bytes file → (r : Reading) → ReadMet file r → r.refusal ≡ 0 → (buffer : List ℕ) → length file ≤ length buffer
    → (w : Written) (left : List ℕ) → WriteMet r.level (bytes_in file r.line) (bytes_in file r.label) r.labelled buffer w left
    → (w ≡ record { refusal = 0; bytes = length file; byte = 0 }) × (left ≡ filed file buffer)
write-back file bytes r reads z buffer room w left met =
    let well = read-well file (sym (ap (λ (v : Reading). v.refusal) reads) ∙ z) in
    let same : r ≡ fields_of file = reads ∙ well.same in
    let f = fields_of file in
    let m = fields_made file bytes well.fields in
    let no : write_refusal well.row f.level (bytes_in file f.line) (bytes_in file f.label) f.labelled (length buffer) ≡ 0
    = unrefused-so well.row f.level (bytes_in file f.line) (bytes_in file f.label) f.labelled (length buffer)
    (rw m.line_whole well.line_good) m.label_short (subst (λ (l : List ℕ). length l ≤ length buffer) m.is room) in
    let given : WriteMet f.level (bytes_in file f.line) (bytes_in file f.label) f.labelled buffer w left = rw same at met in
    let remakes : (w ≡ record { refusal = 0; bytes = length (remade file f); byte = 0 }) × (left ≡ filed (remade file f) buffer)
    = (given.0 ∙ rw (well.has_row, eq-eqb _ _ no) refl, given.1 ∙ rw (well.has_row, eq-eqb _ _ no) refl) in
    subst (λ (l : List ℕ). (w ≡ record { refusal = 0; bytes = length l; byte = 0 }) × (left ≡ filed l buffer)) (sym m.is) remakes

-- a file is made of what its reading gives
pub of-what-it-gives : (file : List ℕ) → Bytes file → (r : Reading) → ReadMet file r → (level : ℕ) (line label : List ℕ) (labelled : Bool)
    → Gives file r level line label labelled → file ≡ file_of level line label labelled
unfolding file_of
of-what-it-gives file bytes r reads level line label labelled g =
    let well = read-well file (sym (ap (λ (v : Reading). v.refusal) reads) ∙ g.accepted) in
    let same : r ≡ fields_of file = reads ∙ well.same in
    let is : file ≡ remade file r = (fields_made file bytes well.fields).is ∙ rw same refl in
    is ∙ rw (g.the_level, g.the_line, g.is_labelled, g.the_label) (no-other-label labelled)
  where
    no-other-label : (t : Bool) → file_of level line (cond t label []) t ≡ file_of level line label t
    no-other-label true = refl
    no-other-label false = refl

-- two files that are read alike are one
pub no-two-files : (file other : List ℕ) → Bytes file → Bytes other → (r s : Reading) → ReadMet file r → ReadMet other s
    → (level : ℕ) (line label : List ℕ) (labelled : Bool) → Gives file r level line label labelled → Gives other s level line label labelled → file ≡ other
no-two-files file other bytes bytes' r s reads reads' level line label labelled g g' =
    of-what-it-gives file bytes r reads level line label labelled g ∙ sym (of-what-it-gives other bytes' s reads' level line label labelled g')

-- ---- refusal 9 is for any other run of tags and lengths, and for nothing else

pub nine-is-no-run : (file : List ℕ) (r : Reading) → ReadMet file r → r.refusal ≡ 9 → Run file → ⊥
nine-is-no-run file r reads nine run = by_level (level_of run.level) refl (sym (ap (λ (v : Reading). v.refusal) is) ∙ nine)
  where
    f : Reading
    f = found run.level run.line run.label run.labelled

    is : r ≡ judged f
    is = reads ∙ rw (run.is, fields-found run.level run.line run.label run.line_fits run.labelled run.label_fits) refl

    not-one : ◌≡◌ {A = ℕ} 1 9 → ⊥
    not-one e = omega arith

    by-line : (t : Bool) → (cond t (unread 2 0) f).refusal ≡ 9 → ⊥
    by-line true e = omega arith
    by-line false e = omega arith

    by_level : (l : Option Row) → level_of run.level ≡ l → (judged f).refusal ≡ 9 → ⊥
    by_level (Some row) x e = by-line (bad_line row (length run.line)) (rw x at e)
    by_level None x e = not-one (rw x at e)

-- the run of tags and lengths alone is refused with 9 or not at all
nine-or-none : (file : List ℕ) → ((fields_of file).refusal ≡ 0) ⊎ ((fields_of file).refusal ≡ 9)
unfolding fields_of after_line
nine-or-none file =
    let P : Reading → Type 0 = λ (r : Reading). (r.refusal ≡ 0) ⊎ (r.refusal ≡ 9) in
    cond-by P (field_at file 0 1 1 1)
    (cond-by P (field_at file 4 2 0 65535)
    (cond-by P (eqb (end_at file 4) (length file)) (inl refl)
    (cond-by P (field_at file (end_at file 4) 3 0 32) (cond-by P (eqb (end_at file (end_at file 4)) (length file)) (inl refl) (inr refl)) (inr refl)))
    (inr refl))
    (inr refl)

pub else-a-run : (file : List ℕ) → Bytes file → (r : Reading) → ReadMet file r → r.refusal ≢ 9 → Run file
else-a-run file bytes r reads n = ⊎_elim run (λ e. absurd (n (reads-nine e))) (nine-or-none file)
  where
    run : (fields_of file).refusal ≡ 0 → Run file
    run z =
        let m = fields_made file bytes z in
        let f = fields_of file in
        record {
          level = f.level;
          line = bytes_in file f.line;
          label = bytes_in file f.label;
          labelled = f.labelled;
          line_fits = omega (arith, m.line_whole, m.line_short);
          label_fits = short-label f.labelled (bytes_in file f.label) m.label_short;
          is = m.is;
        }

    reads-nine : (fields_of file).refusal ≡ 9 → r.refusal ≡ 9
    reads-nine e = ap (λ (v : Reading). v.refusal) reads ∙ rw (ne_eqb (fields_of file).refusal 0 (λ z. omega (arith, e))) e

-- ---- the statements leave no second answer

pub write-one-answer : (level : ℕ) (line label : List ℕ) (labelled : Bool) (file : List ℕ) (a b : Written) (l m : List ℕ)
    → WriteMet level line label labelled file a l → WriteMet level line label labelled file b m → (a ≡ b) × (l ≡ m)
write-one-answer level line label labelled file a b l m x y = (x.0 ∙ sym y.0, x.1 ∙ sym y.1)

pub read-one-answer : (file : List ℕ) (a b : Reading) → ReadMet file a → ReadMet file b → a ≡ b
read-one-answer file a b x y = x ∙ sym y

-- ---- what the calls ensure is their statements

pub write-met : (κs : Lfts 3) (a : ArgsD write.signature κs) (r : ResD write.signature κs) (e : AtExit write.ended κs) → write-reads.Learnt κs a r e
    → WriteMet a.0 a.1.0.now a.1.1.0.now a.1.1.1.0 a.1.1.1.1.0.now (written_in r) e.1.1.1.1.0.now
write-met κs a r e met = met

pub read-met : (κs : Lfts 1) (a : ArgsD read.signature κs) (r : ResD read.signature κs) (e : AtExit read.ended κs) → read-reads.Learnt κs a r e
    → ReadMet a.0.now r
read-met κs a r e met = met

-- ---- and they ask nothing of their callers

pub write-asks-nothing : (κs : Lfts 3) (a : ArgsD write.signature κs) → write-reads.Asked κs a
write-asks-nothing κs a = tt

pub read-asks-nothing : (κs : Lfts 1) (a : ArgsD read.signature κs) → read-reads.Asked κs a
read-asks-nothing κs a = tt

-- without a label the slice is not looked at
pub label-not-looked-at : (level : ℕ) (line label other : List ℕ) (file : List ℕ) (a : Written) (l : List ℕ)
    → WriteMet level line label false file a l → WriteMet level line other false file a l
unfolding write_refusal file_of
label-not-looked-at level line label other file a l met = met
