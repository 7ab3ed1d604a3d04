-- `wrong_of` lends the quarters of a tributary.
use native.Mathlib.Omega.{arith}
use lib.ListN.{length}
use Rattle.levels.proofs.Buffers.{quarter-in, quarter-part, quarter-length}
use Rattle.judge.proofs.readings.wrong_of.Goals as goal

pub overflow_mul-a : goal.overflow_mul-a
overflow_mul-a c = omega (arith, quarter-in c.args.j (length c.args.buffer.now) c.requires.0)

pub overflow_add-a : goal.overflow_add-a
overflow_add-a c = omega (arith, quarter-in c.args.j (length c.args.buffer.now) c.requires.0)

pub overflow_mul-b : goal.overflow_mul-b
overflow_mul-b c = omega (arith, quarter-in c.args.j (length c.args.read.now) c.requires.0)

pub overflow_add-b : goal.overflow_add-b
overflow_add-b c = omega (arith, quarter-in c.args.j (length c.args.read.now) c.requires.0)

pub slice_bounds-wrong_in-end : goal.slice_bounds-wrong_in-end
slice_bounds-wrong_in-end c = omega (arith, quarter-in c.args.j (length c.args.buffer.now) c.requires.0)

pub slice_bounds-wrong_in-end-2 : goal.slice_bounds-wrong_in-end-2
slice_bounds-wrong_in-end-2 c = omega (arith, quarter-in c.args.j (length c.args.read.now) c.requires.0)

pub wrong_in-requires : goal.wrong_in-requires
wrong_in-requires c =
    let a = c.args in
    let p = c.requires in
    rw (quarter-part a.buffer.now a.j, quarter-part a.read.now a.j, quarter-length a.buffer.now a.j p.0, quarter-length a.read.now a.j p.0)
    (p.1, p.2, p.3, p.4)

pub returns : goal.returns
returns c =
    let a = c.args in
    rw (quarter-part a.buffer.now a.j, quarter-part a.read.now a.j) at c.wrong_in.ensures
