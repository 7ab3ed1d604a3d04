-- `put_quarter` appends to the digits of one quarter and leaves the others: `part-put`, of the part that is lent.
use mathlib.Core.Path.{◌∙◌}
use native.Mathlib.Omega.{arith}
use Rattle.digits.proofs.Written.{written-length}
use Rattle.unweave.proofs.Four.{part-inside, part-size, part-put}
use Rattle.unweave.proofs.put_quarter.Goals as goal

pub overflow_mul-a : goal.overflow_mul-a
overflow_mul-a c = omega (arith, part-inside c.args.q c.args.j c.args.buffer.now c.requires.1 c.requires.0)

pub overflow_add-e : goal.overflow_add-e
overflow_add-e c = omega (arith, part-inside c.args.q c.args.j c.args.buffer.now c.requires.1 c.requires.0)

pub slice_bounds-put-end : goal.slice_bounds-put-end
slice_bounds-put-end c = omega (arith, part-inside c.args.q c.args.j c.args.buffer.now c.requires.1 c.requires.0)

pub put-requires : goal.put-requires
put-requires c =
    (c.requires.4.ready, c.requires.2, c.requires.3, omega (arith, c.requires.4.room, part-size c.args.q c.args.j c.args.buffer.now c.requires.1 c.requires.0))

pub returns : goal.returns
returns c =
    let put = c.put in
    part-put c.args.q c.args.j c.args.buffer.now c.requires.1 c.requires.0 put.new.s
    (put.auto.s ∙ part-size c.args.q c.args.j c.args.buffer.now c.requires.1 c.requires.0)
    c.args.w put.result c.args.n _ (written-length c.args.n c.args.word) put.ensures
