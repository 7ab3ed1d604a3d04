-- The reader's table of faults (specs/Faults.antt): each case has its refusal and its byte, and so have the worked files.
use Rattle.std.specs.Prelude.{Some, None}
use mathlib.Core.Path.{◌≡◌, refl, sym, ◌∙◌, ap}
use mathlib.Core.Bool.{Bool, true, false}
use mathlib.Core.List.{List, [], ◌∷◌, ◌++◌}
use Prim.Native.Nat.{ℕ, ◌+◌, ◌≤◌, ◌<◌}
use native.Mathlib.Omega.{arith}
use lib.ListN.{length, get_or, drop, length-append, length-drop}
use lib.Seq.{length-take-le, drop_at, get_or-append-add}
use lib.Dec.{eqb}
use borrow.Author.Tests.{ne_eqb}
use Rattle.digits.specs.Digits.{Bytes}
use Rattle.table.specs.declared.Row.{Row}
use Rattle.table.specs.Table.{level_of}
use Rattle.levels.specs.Sizes.{bad_line}
use Rattle.captures.specs.Captures.{field_of, file_of, length_at, end_at, part_at, field_at, unread, after_line, fields_of, read_of, bytes_in}
use Rattle.captures.specs.Faults.{NoField, levelled, lined, Faults, EveryTold, worked_files}
use Rattle.captures.proofs.Walking.{stands, stood, field_is}
use Rattle.captures.proofs.Files.{found, fields-found}

-- ---- a field somewhere in a file

module _ (front body rest : List ℕ) (tag : ℕ) (h : length body < 65536) where
  abbrev whole : List ℕ
  whole = front ++ (field_of tag body ++ rest)

  abbrev p : ℕ
  p = length front

  at : (n : ℕ) → get_or whole (p + n) 0 ≡ get_or (field_of tag body ++ rest) n 0
  at n = get_or-append-add front (field_of tag body ++ rest) n 0

  pub field-length : length_at whole p ≡ length body
  field-length = omega (arith, at 1, at 2)

  pub whole_length : length whole ≡ p + 3 + length body + length rest
  whole_length = omega (arith, length-append front (field_of tag body ++ rest), length-append body rest)

  pub stands-there : (least most : ℕ) → least ≤ length body → length body ≤ most → field_at whole p tag least most ≡ true
  stands-there least most lo hi =
      let e : p ≡ p + 0 = omega arith in
      stood whole p tag least most
      (record {
        tagged = ap (λ (k : ℕ). get_or whole k 0) e ∙ at 0;
        enough = omega (arith, field-length);
        not_over = omega (arith, field-length);
        inside = omega (arith, field-length, whole_length);
      })

-- no such field there
module _ (front rest : List ℕ) (bytes : Bytes (front ++ rest)) (tag least most : ℕ) (none : NoField rest tag least most) where
  pub stands-not : field_at (front ++ rest) (length front) tag least most ≡ false
  stands-not = go (field_at (front ++ rest) (length front) tag least most) refl
    where
      file : List ℕ
      file = front ++ rest

      q : ℕ
      q = length front

      go : (t : Bool) → field_at file q tag least most ≡ t → t ≡ false
      go false e = refl
      go true e =
          let s = stands file q tag least most e in
          let size : length (bytes_in file (part_at file q)) ≡ length_at file q =
          length-take-le (length_at file q) (drop (q + 3) file) (omega (arith, length-drop (q + 3) file, s.inside)) in
          absurd
          (none (bytes_in file (part_at file q)) (drop (end_at file q) file) (omega (arith, size, s.enough)) (omega (arith, size, s.not_over))
          (sym (drop_at front rest q refl) ∙ field_is file q tag least most bytes s))

-- ---- the cases

-- a run of fields that is at fault is answered so
refused-so : (file : List ℕ) (byte : ℕ) → fields_of file ≡ unread 9 byte → read_of file ≡ unread 9 byte
refused-so file byte e = rw e

no_level : (file : List ℕ) → Bytes file → NoField file 1 1 1 → read_of file ≡ unread 9 0
unfolding fields_of
no_level file bytes none = refused-so file 0 (rw (stands-not [] file bytes 1 1 1 none))

no_line : (level : ℕ) (rest : List ℕ) → Bytes (levelled level ++ rest) → NoField rest 2 0 65535 → read_of (levelled level ++ rest) ≡ unread 9 4
unfolding fields_of
no_line level rest bytes none =
    refused-so (levelled level ++ rest) 4
    (rw (stands-there [] (level ∷ []) rest 1 (omega arith) 1 1 (omega arith) (omega arith), stands-not (levelled level) rest bytes 2 0 65535 none))

module _ (level : ℕ) (line rest : List ℕ) (h : length line < 65536) where
  abbrev file : List ℕ
  file = lined level line ++ rest

  -- the byte after the line
  seven : length (lined level line) ≡ 7 + length line
  seven = omega arith

  after-it : fields_of file ≡ after_line file (7 + length line)
  unfolding fields_of
  after-it =
      let e : end_at file 4 ≡ 7 + length line = omega (arith, field-length (levelled level) line rest 2 h) in
      rw (stands-there [] (level ∷ []) (field_of 2 line ++ rest) 1 (omega arith) 1 1 (omega arith) (omega arith), stands-there (levelled level) line rest 2 h 0 65535 (omega arith) (omega arith), e)

  not_ended : 0 < length rest → eqb (7 + length line) (length file) ≡ false
  not_ended some = ne_eqb (7 + length line) (length file) (λ e. omega (arith, whole_length (levelled level) line rest 2 h))

no_label : (level : ℕ) (line rest : List ℕ) → length line < 65536 → Bytes (lined level line ++ rest) → 0 < length rest → NoField rest 3 0 32
    → read_of (lined level line ++ rest) ≡ unread 9 (7 + length line)
unfolding after_line
no_label level line rest h bytes some none =
    refused-so (lined level line ++ rest) (7 + length line)
    (after-it level line rest h ∙ rw (not_ended level line rest h some, rw (seven level line rest h) at (stands-not (lined level line) rest bytes 3 0 32 none)))

after_label : (level : ℕ) (line label rest : List ℕ) → length line < 65536 → length label ≤ 32 → 0 < length rest
    → read_of (lined level line ++ (field_of 3 label ++ rest)) ≡ unread 9 (10 + length line + length label)
unfolding after_line
after_label level line label rest h short some =
    let more = field_of 3 label ++ rest in
    let all = lined level line ++ more in
    let seven-on = seven level line more h in
    let size : length_at all (7 + length line) ≡ length label = rw seven-on at (field-length (lined level line) label rest 3 (omega arith)) in
    let there : field_at all (7 + length line) 3 0 32 ≡ true = rw seven-on at (stands-there (lined level line) label rest 3 (omega arith) 0 32 (omega arith) short) in
    let e : end_at all (7 + length line) ≡ 10 + length line + length label = omega (arith, size) in
    let over : eqb (10 + length line + length label) (length all) ≡ false =
    ne_eqb (10 + length line + length label) (length all) (λ q. omega (arith, whole_length (lined level line) label rest 3 (omega arith))) in
    refused-so all (10 + length line + length label)
    (after-it level line more h
    ∙ rw (not_ended level line more h (omega arith), there, e, over))

module _ (level : ℕ) (line label : List ℕ) (labelled : Bool) (h : length line < 65536) (short : labelled ≡ true → length label ≤ 32) where
  judged-so : fields_of (file_of level line label labelled) ≡ found level line label labelled
  judged-so = fields-found level line label h labelled short

  level_judged : level_of level ≡ None → read_of (file_of level line label labelled) ≡ unread 1 0
  level_judged e = rw (judged-so, e)

  line_judged : (row : Row) → level_of level ≡ Some row → bad_line row (length line) ≡ true → read_of (file_of level line label labelled) ≡ unread 2 0
  line_judged row e bad = rw (judged-so, e, bad)

pub faults : Faults
faults =
    record {
      no_level = no_level;
      no_line = no_line;
      no_label = no_label;
      after_label = after_label;
      level_judged = λ level line label labelled h short. level_judged level line label labelled h short;
      line_judged = λ level line label labelled row h short. line_judged level line label labelled h short row;
    }

-- ---- the worked files

pub all_told : EveryTold worked_files
unfolding fields_of after_line field_at level_of
all_told =
    ((refl, refl), ((refl, refl), ((refl, refl), ((refl, refl), ((refl, refl), ((refl, refl), ((refl, refl), ((refl, refl), ((refl, refl), ((refl, refl), ((refl, refl), ((refl, refl), ((refl, refl), ((refl, refl), ((refl, refl), ((refl, refl), tt))))))))))))))))
