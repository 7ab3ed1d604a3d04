-- `own_wrong`: the votes as they stand.
use mathlib.Core.Path.{◌≡◌, refl, ◌∙◌}
use Prim.Native.Nat.{◌+◌, ◌-◌, ◌/◌}
use native.Mathlib.Omega.{arith}
use lib.ListN.{length}
use Rattle.judge.specs.Readings.{majorities, own_votes}
use Rattle.judge.specs.Verdict.{own_wrong}
use Rattle.judge.proofs.Quartered.{by-votes}
use Rattle.judge.proofs.readings.own_wrong.Goals as goal

pub returns : goal.returns
unfolding own_wrong
returns c =
    let a = c.args in
    let line = a.line.now in
    let F = length line / a.row.bytes in
    let e : F + 1 - 1 ≡ F = omega arith in
    c.wrong_by.ensures
    ∙ by-votes a.row line a.pattern a.buffer.now (own_votes a.earlier (majorities a.row line)) refl (rw e c.requires.1.read)
