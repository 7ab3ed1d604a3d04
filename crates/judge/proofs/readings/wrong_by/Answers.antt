-- `wrong_by`: what the extraction leaves in a tributary's quarter is its reading.
use mathlib.Core.Path.{◌∙◌, ap}
use mathlib.Core.List.{List}
use Prim.Native.Nat.{ℕ}
use native.Mathlib.Omega.{arith}
use lib.ListN.{length}
use Rattle.digits.specs.Digits.{digits_of}
use Rattle.levels.specs.Sizes.{quarter_of}
use Rattle.judge.specs.Wrong.{wrong_in}
use Rattle.judge.proofs.Quartered.{Extracted, lent_fits, read_right}
use Rattle.judge.proofs.readings.wrong_by.Goals as goal

pub wrong_of-requires : goal.wrong_of-requires
wrong_of-requires c =
    let a = c.args in
    let x : Extracted a.row a.earlier a.pattern (length a.buffer.now) (length a.room.now) a.line.now a.notes.now c.extract_all-counts.result c.extract_all-counts.new.buffer
    = record { ok = c.requires.0; size = c.requires.1; counted = c.extract_all-counts.ensures.0; left = c.extract_all-counts.ensures.1 } in
    lent_fits x 0 (omega arith)

pub wrong_of-requires-2 : goal.wrong_of-requires-2
wrong_of-requires-2 c =
    let a = c.args in
    let x : Extracted a.row a.earlier a.pattern (length a.buffer.now) (length a.room.now) a.line.now a.notes.now c.extract_all-counts.result c.extract_all-counts.new.buffer
    = record { ok = c.requires.0; size = c.requires.1; counted = c.extract_all-counts.ensures.0; left = c.extract_all-counts.ensures.1 } in
    lent_fits x 1 (omega arith)

pub wrong_of-requires-3 : goal.wrong_of-requires-3
wrong_of-requires-3 c =
    let a = c.args in
    let x : Extracted a.row a.earlier a.pattern (length a.buffer.now) (length a.room.now) a.line.now a.notes.now c.extract_all-counts.result c.extract_all-counts.new.buffer
    = record { ok = c.requires.0; size = c.requires.1; counted = c.extract_all-counts.ensures.0; left = c.extract_all-counts.ensures.1 } in
    lent_fits x 2 (omega arith)

pub wrong_of-requires-4 : goal.wrong_of-requires-4
wrong_of-requires-4 c =
    let a = c.args in
    let x : Extracted a.row a.earlier a.pattern (length a.buffer.now) (length a.room.now) a.line.now a.notes.now c.extract_all-counts.result c.extract_all-counts.new.buffer
    = record { ok = c.requires.0; size = c.requires.1; counted = c.extract_all-counts.ensures.0; left = c.extract_all-counts.ensures.1 } in
    lent_fits x 3 (omega arith)

pub returns : goal.returns
returns c =
    let a = c.args in
    let x : Extracted a.row a.earlier a.pattern (length a.buffer.now) (length a.room.now) a.line.now a.notes.now c.extract_all-counts.result c.extract_all-counts.new.buffer
    = record { ok = c.requires.0; size = c.requires.1; counted = c.extract_all-counts.ensures.0; left = c.extract_all-counts.ensures.1 } in
    let sent : ℕ → List ℕ → ℕ = λ (j : ℕ) (l : List ℕ). wrong_in a.pattern (digits_of (quarter_of a.buffer.now j)) l in
    rw (
      c.wrong_of.ensures ∙ ap (sent 0) (read_right x 0 (omega arith)),
      c.wrong_of-2.ensures ∙ ap (sent 1) (read_right x 1 (omega arith)),
      c.wrong_of-3.ensures ∙ ap (sent 2) (read_right x 2 (omega arith)),
      c.wrong_of-4.ensures ∙ ap (sent 3) (read_right x 3 (omega arith)),
    )
