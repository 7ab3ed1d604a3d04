-- `before_wrong`: of the two readings the fewer wrong digits.
use mathlib.Core.Path.{◌∙◌}
use Prim.Native.Nat.{ℕ}
use Rattle.judge.specs.Readings.{majorities, none_stuffed, all_stuffed, before_votes}
use Rattle.judge.specs.Verdict.{wrong_by, before_wrong}
use Rattle.judge.proofs.Quartered.{fewer-both}
use Rattle.judge.proofs.readings.before_wrong.Goals as goal

pub before_by-all-requires : goal.before_by-all-requires
before_by-all-requires c =
    let p = c.requires in
    (rw c.before_by-none.auto.room p.0, p.1, p.2)

pub returns : goal.returns
unfolding before_wrong
returns c =
    let a = c.args in
    let line = a.line.now in
    let by : ℕ → ℕ → ℕ = λ (u : ℕ). wrong_by a.row line a.pattern a.buffer.now (before_votes a.row a.earlier (majorities a.row line) u) in
    c.fewer_four.ensures
    ∙ fewer-both (by none_stuffed) (by all_stuffed) c.before_by-none.ensures c.before_by-all.ensures
