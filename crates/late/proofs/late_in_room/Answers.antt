-- What the bench answers and leaves for the late notes, in the call's words (Lateness).
use mathlib.Core.Path.{◌≡◌, ◌∙◌}
use Prim.Native.Nat.{◌-◌}
use native.Mathlib.Omega.{arith}
use lib.ListN.{length, take, drop}
use lib.Seq.{length-take-le}
use Rattle.table.specs.Table.{level_of}
use Rattle.late.specs.Late.{late_notes}
use Rattle.late.proofs.Lateness.{answers-same, left-same}
use Rattle.late.proofs.late_in_room.Goals as goal

pub returns : goal.returns
returns c =
    let a = c.args in
    let made = c.no_line-said in
    let late = c.delayed-late in
    let there : length a.notes.now - 0 ≡ length a.notes.now = omega arith in
    let whole : length a.line.now - 0 ≡ length a.line.now = omega arith in
    let is : take (length a.notes.now - 0) (drop 0 late.result) ≡ late_notes a.earlier a.notes.now = rw there late.ensures.late in
    let said = length-take-le (length a.line.now - 0) (drop 0 made.result) (omega (arith, made.ensures, c.requires.1)) ∙ whole in
    let done = c.late_line.ensures in (
      done.0 ∙ rw is (answers-same a.earlier a.line.now a.notes.now a.buffer.now (level_of a.level)),
      done.2 ∙ rw is (left-same a.earlier a.line.now a.notes.now a.buffer.now (take (length a.line.now - 0) (drop 0 made.result)) said (level_of a.level)),
    )
