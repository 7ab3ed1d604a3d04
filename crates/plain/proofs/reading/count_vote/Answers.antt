-- `count_vote`: a control digit is counted at its tributary and its value, any other digit nowhere.
use mathlib.Core.Path.{sym, ◌∙◌, ap}
use native.Mathlib.Omega.{arith}
use Prim.Native.Nat.{◌+◌, ◌*◌, ◌%◌}
use lib.ListN.{get_or, length-set}
use Rattle.plain.specs.Walk.{is_control}
use Rattle.plain.proofs.Votes.{control-votes, vote-counted}
use Rattle.plain.proofs.reading.count_vote.Goals as goal

pub overflow_add-votes : goal.overflow_add-votes
overflow_add-votes c =
    omega (arith, c.requires.4)

pub returns-then-is_control : goal.returns-then-is_control
returns-then-is_control c =
    let a = c.args in
    let at = 4 * a.d + a.q % 4 in
    let yes = ap is_control (sym c.place_in.ensures) ∙ sym c.is_control.ensures ∙ c.if-is_control.true in (
      length-set a.votes.now at (get_or a.votes.now at 0 + 1) ∙ c.requires.3,
      λ j v hj hv. vote-counted a.votes.now c.requires.3 a.q a.d c.requires.2 j v hj hv ∙ sym (rw (control-votes j v a.q a.d _, yes)),
    )

pub returns-else-is_control : goal.returns-else-is_control
returns-else-is_control c =
    let a = c.args in
    let none = ap is_control (sym c.place_in.ensures) ∙ sym c.is_control.ensures ∙ c.if-is_control.false in
    (c.requires.3, λ j v hj hv. rw (control-votes j v a.q a.d _, none) (omega arith))
