-- `count_place`: the index of the place's tributary moves on where the place carries a digit, by the laws of Counting.
use mathlib.Core.Path.{sym, ◌∙◌}
use Prim.Native.Nat.{◌%◌}
use native.Mathlib.Omega.{arith}
use Rattle.engine.proofs.Counting.{count_most, counted-idle, counted-carried}
use Rattle.engine.proofs.frame.count_place.Goals as goal

pub overflow_add-next : goal.overflow_add-next
overflow_add-next c =
    let a = c.args in
    let j = a.p % a.row.digits % 4 in
    omega (arith, c.requires.3.each j (omega arith), count_most a.row a.earlier a.notes.now j a.p)

pub returns-then-carries_at : goal.returns-then-carries_at
returns-then-carries_at c =
    counted-carried _ _ _ _ _ c.requires.3 (sym c.carries_at.ensures ∙ c.if-carries_at.true)

pub returns-else-carries_at : goal.returns-else-carries_at
returns-else-carries_at c =
    counted-idle _ _ _ _ _ c.requires.3 (sym c.carries_at.ensures ∙ c.if-carries_at.false)
