-- `take_place`: one place of the line, by the laws of Handing.
use mathlib.Core.Path.{◌≡◌, sym, ◌∙◌}
use native.Mathlib.Omega.{arith}
use Prim.Native.Nat.{◌%◌}
use lib.ListN.{length, get_or}
use Rattle.engine.specs.Engine.{count_to}
use Rattle.engine.proofs.Packing.{from_start}
use Rattle.engine.proofs.Quarters.{quarter-in}
use Rattle.plain.proofs.Handing.{taken-idle, taken-past, taken-put}
use Rattle.plain.proofs.take.take_place.Goals as goal

pub overflow_mul-j : goal.overflow_mul-j
overflow_mul-j c =
    let a = c.args in
    omega (arith, quarter-in (a.p % a.row.digits % 4) (length a.buffer.now) (omega arith))

pub put_from-requires : goal.put_from-requires
put_from-requires c =
    let a = c.args in
    (omega (arith, quarter-in (a.p % a.row.digits % 4) (length a.buffer.now) (omega arith), c.if-i-q.true), c.digit_from-d.ensures.1)

pub returns-then-i-q : goal.returns-then-i-q
returns-then-i-q c =
    let a = c.args in
    let j = a.p % a.row.digits % 4 in
    let next : get_or a.next.now j 0 ≡ count_to a.row a.earlier a.notes.now j a.p = c.requires.3.each j (omega arith) in
    let put = c.put_from.ensures in
    let d = c.digit_from-d.ensures.0 ∙ from_start a.line.now a.p in
    taken-put _ _ _ _ _ _ _ c.requires.4 (sym c.carries_at.ensures ∙ c.if-carries_at.true) (rw next at c.if-i-q.true) _ _ d (rw next at put.0) put.1 (omega arith)

pub returns-else-i-q : goal.returns-else-i-q
returns-else-i-q c =
    let a = c.args in
    let j = a.p % a.row.digits % 4 in
    let next : get_or a.next.now j 0 ≡ count_to a.row a.earlier a.notes.now j a.p = c.requires.3.each j (omega arith) in
    taken-past _ _ _ _ _ _ _ c.requires.4 (sym c.carries_at.ensures ∙ c.if-carries_at.true) (rw next at c.if-i-q.false)

pub returns-else-carries_at : goal.returns-else-carries_at
returns-else-carries_at c =
    taken-idle _ _ _ _ _ _ _ c.requires.4 (sym c.carries_at.ensures ∙ c.if-carries_at.false)
