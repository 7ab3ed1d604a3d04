-- `hear_place`: one place of a frame, by the laws of Votes.
use mathlib.Core.Path.{◌∙◌}
use native.Mathlib.Omega.{arith}
use Prim.Native.Nat.{◌%◌}
use Rattle.engine.proofs.Packing.{from_start}
use Rattle.plain.proofs.Votes.{votes-most, voted-more}
use Rattle.plain.proofs.reading.hear_place.Goals as goal

pub count_vote-requires : goal.count_vote-requires
count_vote-requires c =
    let a = c.args in
    let d = c.digit_from-d in
    let w = c.requires.3 in
    let j = a.q % 4 in (
      c.requires.0,
      c.requires.1,
      d.ensures.1,
      w.eight,
      omega (arith, w.each j d.result (omega arith) d.ensures.1, votes-most a.row a.line.now a.f j d.result a.q, c.requires.0.short),
    )

pub returns : goal.returns
returns c =
    let a = c.args in
    let d = c.digit_from-d.ensures.0 ∙ from_start a.line.now _ in
    let v = c.count_vote.ensures in
    (rw (← d) c.wrong_by.ensures.0, c.wrong_by.ensures.1, voted-more _ _ _ _ _ _ c.requires.3 v.0 (rw (← d) v.1))
