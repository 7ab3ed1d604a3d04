-- `place_digit`: the two ways of one place, by the laws of Placing.
use mathlib.Core.Path.{refl, sym, ◌∙◌, ap}
use native.Mathlib.Omega.{arith}
use lib.ListN.{length}
use Rattle.levels.proofs.Buffers.{quarter-in, quarter-part, quarter-length}
use Rattle.heads.proofs.Placing.{placed-carried, placed-idle}
use Rattle.heads.proofs.place_digit.Goals as goal

pub overflow_mul-a : goal.overflow_mul-a
overflow_mul-a c =
    omega (arith, quarter-in c.args.j (length c.args.buffer.now) c.requires.3)

pub overflow_add-e : goal.overflow_add-e
overflow_add-e c =
    omega (arith, quarter-in c.args.j (length c.args.buffer.now) c.requires.3)

pub slice_bounds-tributary_digit-end : goal.slice_bounds-tributary_digit-end
slice_bounds-tributary_digit-end c =
    omega (arith, quarter-in c.args.j (length c.args.buffer.now) c.requires.3)

pub tributary_digit-requires : goal.tributary_digit-requires
tributary_digit-requires c =
    let b = c.args in
    let room = c.requires.6 (sym c.carries_digit.ensures ∙ c.if-carries_digit.true) in
    omega (arith, room, ap length (quarter-part b.buffer.now b.j), quarter-length b.buffer.now b.j c.requires.3)

pub returns-then-carries_digit : goal.returns-then-carries_digit
returns-then-carries_digit c =
    let b = c.args in
    let d = c.tributary_digit.ensures in
    placed-carried _ _ _ _ _ _ b.buffer.now b.next.now c.requires.3 c.requires.2 _ _ (sym c.carries_digit.ensures ∙ c.if-carries_digit.true) refl
    (d.0 ∙ rw (quarter-part b.buffer.now b.j)) d.1

pub idle_digit-requires : goal.idle_digit-requires
idle_digit-requires c =
    (c.requires.0, c.requires.3, c.requires.4)

pub returns-else-carries_digit : goal.returns-else-carries_digit
returns-else-carries_digit c =
    let d = c.idle_digit.ensures in
    placed-idle _ _ _ _ _ _ _ _ _ (sym c.carries_digit.ensures ∙ c.if-carries_digit.false) d.0 d.1
