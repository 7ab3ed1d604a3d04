-- The fields are put one behind the other (Putting).
use native.Mathlib.Omega.{arith}
use mathlib.Core.Bool.{true, false}
use Rattle.captures.proofs.Putting.{file-length, room_for, unlabelled-put, labelled-put}
use Rattle.captures.proofs.put_fields.Goals as goal

pub put_field-first-requires : goal.put_field-first-requires
put_field-first-requires c =
    let a = c.args in
    (omega arith, omega (arith, c.requires.2, file-length a.level a.line.now a.label.now a.labelled))

pub put_field-second-requires : goal.put_field-second-requires
put_field-second-requires c =
    let a = c.args in
    (c.requires.0, omega (arith, c.requires.2, c.put_field-first.auto.file, c.put_field-first.ensures.0, file-length a.level a.line.now a.label.now a.labelled))

pub put_field-requires : goal.put_field-requires
put_field-requires c =
    let a = c.args in
    let room = rw c.if-labelled.true at (room_for a.level a.line.now a.label.now a.labelled _ c.requires.2) in
    (omega (arith, c.requires.1 c.if-labelled.true), omega (arith, c.put_field-first.auto.file, c.put_field-first.ensures.0, c.put_field-second.auto.file, c.put_field-second.ensures.0, room))

pub returns-then-labelled : goal.returns-then-labelled
returns-then-labelled c =
    let a = c.args in
    let one = c.put_field-first in
    let two = c.put_field-second in
    let three = c.put_field in
    let room = room_for a.level a.line.now a.label.now a.labelled _ c.requires.2 in
    rw c.if-labelled.true (
      omega (arith, three.ensures.0, two.ensures.0, one.ensures.0, file-length a.level a.line.now a.label.now true),
      labelled-put a.level a.line.now a.label.now a.file.now (omega (arith, room)) _ _ _ one.ensures.0 one.ensures.1
          two.ensures.1 two.result (omega (arith, two.ensures.0, one.ensures.0)) _ three.ensures.1,
    )

pub returns-else-labelled : goal.returns-else-labelled
returns-else-labelled c =
    let a = c.args in
    let one = c.put_field-first in
    let two = c.put_field-second in
    let room = room_for a.level a.line.now a.label.now a.labelled _ c.requires.2 in
    rw c.if-labelled.false (
      omega (arith, two.ensures.0, one.ensures.0, file-length a.level a.line.now a.label.now false),
      unlabelled-put a.level a.line.now a.label.now a.file.now (omega (arith, room)) _ _ _ one.ensures.0 one.ensures.1 two.ensures.1,
    )
