-- A file of fields, walked over: the reader finds in it what it was made of; and a file whose fields the reader accepts is made of what
-- the reader finds.
use mathlib.Core.Path.{◌≡◌, refl, sym, ◌∙◌, ap}
use mathlib.Core.Bool.{Bool, cond, true, false, ◌&&◌}
use mathlib.Core.List.{List, [], ◌∷◌, ◌++◌, append_assoc, append-nil}
use Prim.Native.Nat.{ℕ, ◌+◌, ◌/◌, ◌%◌, ◌≤◌, ◌<◌}
use native.Mathlib.Omega.{arith}
use lib.Dec.{eqb, ltb}
use lib.ListN.{length, get_or, take, drop, length-append, length-take, length-drop, drop_of_length-le}
use lib.Seq.{length-take-le, drop-cons, drop_at, get_or-append-add, take-append_seam, take-length}
use borrow.Author.Tests.{eq-eqb, ne_eqb, le-ltb, eqb-true}
use Rattle.digits.specs.Digits.{Bytes}
use Rattle.digits.proofs.Tests.{cond-told}
use Rattle.captures.specs.declared.Reading.{Reading}
use Rattle.captures.specs.Captures.{field_of, file_of, length_at, end_at, part_at, nowhere, field_at, unlabelled, labelled_at, after_line, fields_of, bytes_in}
use Rattle.captures.specs.Trips.{Gives}
use Rattle.captures.proofs.Putting.{file-length}
use Rattle.captures.proofs.Walking.{Stands, stands, stood, field_is}

-- ---- from a level, a line and a label to a file, and back

-- what the reader finds in such a file
abbrev pub found : ℕ → List ℕ → List ℕ → Bool → Reading
found level line label labelled =
    record {
      refusal = 0;
      level = level;
      line = record { start = 7; bytes = length line };
      labelled = labelled;
      label = cond labelled (record { start = 10 + length line; bytes = length label }) nowhere;
      byte = 0;
    }

module _ (level : ℕ) (line label : List ℕ) (h : length line < 65536) where
  -- a file up to the end of its line
  abbrev before : List ℕ
  before = field_of 1 (level ∷ []) ++ field_of 2 line

  module _ (labelled : Bool) where
    abbrev made : List ℕ
    made = file_of level line label labelled

    level-stands : Stands made 0 1 1 1
    unfolding file_of
    level-stands = record { tagged = refl; enough = omega arith; not_over = omega arith; inside = omega arith }

    line-length : length_at made 4 ≡ length line
    unfolding file_of
    line-length = omega arith

    line-stands : Stands made 4 2 0 65535
    unfolding file_of
    line-stands =
        record {
          tagged = refl;
          enough = omega arith;
          not_over = omega (arith, line-length);
          inside = omega (arith, line-length, length-append line (cond labelled (field_of 3 label) []));
        }

    the_line : take (length line) (drop 7 made) ≡ line
    unfolding file_of
    the_line = take-append_seam line (cond labelled (field_of 3 label) [])

    fields_go : fields_of made ≡ after_line made (7 + length line)
    unfolding fields_of
    fields_go =
        let e : end_at made 4 ≡ 7 + length line = omega (arith, line-length) in
        rw (stood made 0 1 1 1 level-stands, stood made 4 2 0 65535 line-stands, e) refl

  -- the label's bytes lie behind the line
  in-label : (n : ℕ) → get_or (made true) (7 + length line + n) 0 ≡ get_or (field_of 3 label) n 0
  unfolding file_of
  in-label n =
      let e : 7 + length line + n ≡ length before + n = omega arith in
      ap (λ (k : ℕ). get_or (before ++ field_of 3 label) k 0) e ∙ get_or-append-add before (field_of 3 label) n 0

  label-length : length_at (made true) (7 + length line) ≡ length label
  label-length = omega (arith, in-label 1, in-label 2)

  label-stands : length label ≤ 32 → Stands (made true) (7 + length line) 3 0 32
  label-stands short =
      let e : 7 + length line ≡ 7 + length line + 0 = omega arith in
      record {
        tagged = ap (λ (k : ℕ). get_or (made true) k 0) e ∙ in-label 0;
        enough = omega arith;
        not_over = omega (arith, label-length);
        inside = omega (arith, label-length, file-length level line label true);
      }

  third : (labelled : Bool) → get_or (made labelled) 3 0 ≡ level
  unfolding file_of
  third labelled = refl

  pub fields-found : (labelled : Bool) → (labelled ≡ true → length label ≤ 32) → fields_of (made labelled) ≡ found level line label labelled
  unfolding after_line
  fields-found true short =
      let p = 7 + length line in
      let whole : end_at (made true) p ≡ length (made true) = omega (arith, label-length, file-length level line label true) in
      let more : eqb p (length (made true)) ≡ false = ne_eqb p (length (made true)) (λ e. omega (arith, file-length level line label true)) in
      let start : p + 3 ≡ 10 + length line = omega arith in
      fields_go true
      ∙ rw (more, stood (made true) p 3 0 32 (label-stands (short refl)), eq-eqb (end_at (made true) p) (length (made true)) whole, third true, line-length true, label-length, start) refl
  fields-found false short =
      let p = 7 + length line in
      let ends : p ≡ length (made false) = omega (arith, file-length level line label false) in
      fields_go false ∙ rw (eq-eqb p (length (made false)) ends, third false, line-length false) refl

  the_label : (labelled : Bool) → bytes_in (made labelled) (found level line label labelled).label ≡ cond labelled label []
  unfolding file_of
  the_label true =
      let head = before ++ (3 ∷ length label / 256 ∷ length label % 256 ∷ []) in
      let long : length head ≡ 10 + length line = omega (arith, length-append line (3 ∷ length label / 256 ∷ length label % 256 ∷ [])) in
      let behind : drop (10 + length line) (before ++ field_of 3 label) ≡ label
      = ap (λ (l : List ℕ). drop (10 + length line) l) (sym (append_assoc before (3 ∷ length label / 256 ∷ length label % 256 ∷ []) label)) ∙ drop_at head label (10 + length line) long in
      ap (λ (l : List ℕ). take (length label) l) behind ∙ take-length label
  the_label false = refl

  -- so a file that was made of a level, a line and a label gives them back
  pub gives_back : (labelled : Bool) → Gives (made labelled) (found level line label labelled) level line label labelled
  gives_back labelled = record { accepted = refl; the_level = refl; the_line = the_line labelled; is_labelled = refl; the_label = the_label labelled }

-- ---- from a file to what it is made of

module _ (file : List ℕ) (bytes : Bytes file) where
  head-is : Stands file 0 1 1 1 → file ≡ field_of 1 (get_or file 3 0 ∷ []) ++ drop 4 file
  head-is s =
      let one : length_at file 0 ≡ 1 = omega (arith, s.enough, s.not_over) in
      let there : 3 < length file = omega (arith, s.inside) in
      let level : take 1 (drop 3 file) ≡ get_or file 3 0 ∷ [] = rw (drop-cons file 3 0 there) refl in
      let e : file ≡ field_of 1 (take (length_at file 0) (drop 3 file)) ++ drop (end_at file 0) file = field_is file 0 1 1 1 bytes s in
      e ∙ rw (one, level) refl

  -- the line's field, and what comes after it
  module _ (s : Stands file 0 1 1 1) (t : Stands file 4 2 0 65535) where
    from-line : (rest : List ℕ) → drop (end_at file 4) file ≡ rest → file ≡ field_of 1 (get_or file 3 0 ∷ []) ++ (field_of 2 (bytes_in file (part_at file 4)) ++ rest)
    from-line rest is =
        head-is s
        ∙ ap (λ (l : List ℕ). field_of 1 (get_or file 3 0 ∷ []) ++ l)
        (field_is file 4 2 0 65535 bytes t ∙ ap (λ (l : List ℕ). field_of 2 (bytes_in file (part_at file 4)) ++ l) is)

    ended : (p : ℕ) → p ≡ length file → drop p file ≡ []
    ended p e = drop_of_length-le file {i = p} (omega (arith, e))

    unlabelled-is : end_at file 4 ≡ length file → file ≡ file_of (get_or file 3 0) (bytes_in file (part_at file 4)) [] false
    unfolding file_of
    unlabelled-is e = from-line [] (ended (end_at file 4) e)

    labelled-is : (u : Stands file (end_at file 4) 3 0 32) → end_at file (end_at file 4) ≡ length file
        → file ≡ file_of (get_or file 3 0) (bytes_in file (part_at file 4)) (bytes_in file (part_at file (end_at file 4))) true
    unfolding file_of
    labelled-is u e =
        from-line (field_of 3 (bytes_in file (part_at file (end_at file 4))))
        (field_is file (end_at file 4) 3 0 32 bytes u
        ∙ ap (λ (l : List ℕ). field_of 3 (bytes_in file (part_at file (end_at file 4))) ++ l) (ended (end_at file (end_at file 4)) e)
        ∙ append-nil (field_of 3 (bytes_in file (part_at file (end_at file 4)))))

-- a reading's own file
abbrev pub remade : List ℕ → Reading → List ℕ
remade file found = file_of found.level (bytes_in file found.line) (bytes_in file found.label) found.labelled

-- a file is made of what the reader finds in it: the line has as many bytes as were found, and a label has at most 32
pub record Made (file : List ℕ) (found : Reading) : Type 0 where
  pub is : file ≡ remade file found
  pub line_whole : length (bytes_in file found.line) ≡ found.line.bytes
  pub line_short : found.line.bytes < 65536
  pub label_short : found.labelled && ltb 32 (length (bytes_in file found.label)) ≡ false

module _ (file : List ℕ) (bytes : Bytes file) (s : Stands file 0 1 1 1) (t : Stands file 4 2 0 65535) where
  line-there : length (bytes_in file (part_at file 4)) ≡ length_at file 4
  line-there = length-take-le (length_at file 4) (drop 7 file) (omega (arith, length-drop 7 file, t.inside))

  pub made-unlabelled : end_at file 4 ≡ length file → Made file (unlabelled file)
  made-unlabelled e = record { is = unlabelled-is file bytes s t e; line_whole = line-there; line_short = omega (arith, t.not_over); label_short = refl }

  pub made-labelled : Stands file (end_at file 4) 3 0 32 → end_at file (end_at file 4) ≡ length file → Made file (labelled_at file (end_at file 4))
  made-labelled u e =
      let p = end_at file 4 in
      record {
        is = labelled-is file bytes s t u e;
        line_whole = line-there;
        line_short = omega (arith, t.not_over);
        label_short = le-ltb 32 (length (bytes_in file (part_at file p))) (omega (arith, length-take (length_at file p) (drop (p + 3) file), u.not_over));
      }

-- so is every file whose run of tags and lengths is accepted
pub fields_made : (file : List ℕ) → Bytes file → (fields_of file).refusal ≡ 0 → Made file (fields_of file)
unfolding fields_of after_line
fields_made file bytes =
    cond-told Accepted (field_at file 0 1 1 1)
    (λ level. cond-told Accepted (field_at file 4 2 0 65535)
    (λ line. let s = stands file 0 1 1 1 level in
    let t = stands file 4 2 0 65535 line in
    cond-told Accepted (eqb p (length file)) (λ end _. made-unlabelled file bytes s t (eqb-true p (length file) end))
    (λ _. cond-told Accepted (field_at file p 3 0 32)
    (λ label. cond-told Accepted (eqb (end_at file p) (length file))
    (λ end _. made-labelled file bytes s t (stands file p 3 0 32 label) (eqb-true (end_at file p) (length file) end)) (λ _ e. absurd (nine e)))
    (λ _ e. absurd (nine e))))
    (λ _ e. absurd (nine e)))
    (λ _ e. absurd (nine e))
  where
    p : ℕ
    p = end_at file 4

    Accepted : Reading → Type 0
    Accepted found = found.refusal ≡ 0 → Made file found

    nine : ◌≡◌ {A = ℕ} 9 0 → ⊥
    nine e = omega arith
