-- `changes_in`: the changes of the line's votes.
use mathlib.Core.Path.{◌≡◌, ◌∙◌, ap}
use mathlib.Core.List.{List}
use Prim.Native.Nat.{ℕ, ◌+◌, ◌-◌, ◌/◌}
use native.Mathlib.Omega.{arith}
use lib.ListN.{length}
use Rattle.judge.specs.Verdict.{four, changes_of}
use Rattle.judge.proofs.readings.changes_in.Goals as goal

pub returns : goal.returns
returns c =
    let a = c.args in
    let F = length a.line.now / a.row.bytes in
    let e : F + 1 - 1 ≡ F = omega arith in
    c.changes_four.ensures ∙ ap (λ (ns : List ℕ). four (changes_of ns)) (rw e c.requires.2.read)
