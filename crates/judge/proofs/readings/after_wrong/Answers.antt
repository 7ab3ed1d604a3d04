-- `after_wrong`: of the two readings the fewer wrong digits.
use mathlib.Core.Path.{◌∙◌}
use Prim.Native.Nat.{ℕ}
use Rattle.judge.specs.Readings.{majorities, none_stuffed, all_stuffed, after_votes}
use Rattle.judge.specs.Verdict.{wrong_by, after_wrong}
use Rattle.judge.proofs.Quartered.{fewer-both}
use Rattle.judge.proofs.readings.after_wrong.Goals as goal

pub after_by-all-requires : goal.after_by-all-requires
after_by-all-requires c =
    let p = c.requires in
    (rw c.after_by-none.auto.room p.0, p.1)

pub returns : goal.returns
unfolding after_wrong
returns c =
    let a = c.args in
    let line = a.line.now in
    let by : ℕ → ℕ → ℕ = λ (u : ℕ). wrong_by a.row line a.pattern a.buffer.now (after_votes (majorities a.row line) u) in
    c.fewer_four.ensures
    ∙ fewer-both (by none_stuffed) (by all_stuffed) c.after_by-none.ensures c.after_by-all.ensures
