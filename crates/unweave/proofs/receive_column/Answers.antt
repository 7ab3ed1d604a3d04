-- `receive_column` hands each tributary one digit, or none by what the frame does for it: `grown`, of four puts in turn.
use mathlib.Core.Path.{◌∙◌, ap}
use mathlib.Core.Bool.{Bool}
use native.Mathlib.Omega.{arith}
use Rattle.digits.specs.Digits.{digits_of}
use Rattle.levels.specs.Order.{acts_by}
use Rattle.unweave.specs.Lanes.{column_digits, kind_digits}
use Rattle.unweave.proofs.Four.{put_as, grown}
use Rattle.unweave.proofs.receive_column.Goals as goal

pub receive_place-a-requires : goal.receive_place-a-requires
receive_place-a-requires c =
    (c.requires.0, c.requires.1, omega (arith, c.requires.2), omega arith, rw c.carries_digit-at_a.ensures (c.requires.3 0 (omega arith)))

pub receive_place-b-requires : goal.receive_place-b-requires
receive_place-b-requires c =
    (c.requires.0, c.requires.1, omega (arith, c.requires.2, c.receive_place-a.auto.buffer), omega arith, rw c.carries_digit-at_b.ensures (c.requires.3 1 (omega arith)))

pub receive_place-c-requires : goal.receive_place-c-requires
receive_place-c-requires c = (
  c.requires.0,
  c.requires.1,
  omega (arith, c.requires.2, c.receive_place-a.auto.buffer, c.receive_place-b.auto.buffer),
  omega arith,
  rw c.carries_digit-at_c.ensures (c.requires.3 2 (omega arith)),
)

pub receive_place-d-requires : goal.receive_place-d-requires
receive_place-d-requires c = (
  c.requires.0,
  c.requires.1,
  omega (arith, c.requires.2, c.receive_place-a.auto.buffer, c.receive_place-b.auto.buffer, c.receive_place-c.auto.buffer),
  omega arith,
  rw c.carries_digit-at_d.ensures (c.requires.3 3 (omega arith)),
)

pub shape_of-buffer : goal.shape_of-buffer
shape_of-buffer c =
    c.receive_place-d.auto.buffer ∙ c.receive_place-c.auto.buffer ∙ c.receive_place-b.auto.buffer ∙ c.receive_place-a.auto.buffer

pub returns : goal.returns
returns c =
    let ds = digits_of c.args.line.now in
    let p = c.args.p in
    grown (kind_digits ds p c.args.kind (acts_by c.args.row c.args.preceding c.args.note))
    (put_as c.receive_place-a.ensures (ap (λ (t : Bool). column_digits ds p t 0) c.carries_digit-at_a.ensures))
    (put_as c.receive_place-b.ensures (ap (λ (t : Bool). column_digits ds p t 1) c.carries_digit-at_b.ensures))
    (put_as c.receive_place-c.ensures (ap (λ (t : Bool). column_digits ds p t 2) c.carries_digit-at_c.ensures))
    (put_as c.receive_place-d.ensures (ap (λ (t : Bool). column_digits ds p t 3) c.carries_digit-at_d.ensures))
