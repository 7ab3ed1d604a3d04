-- `put_four`: four writers in turn, each in its quarter (`grown`).
use mathlib.Core.Path.{◌∙◌}
use Prim.Native.Nat.{ℕ}
use native.Mathlib.Omega.{arith}
use Rattle.digits.specs.Digits.{written}
use Rattle.unweave.specs.Quarters.{number_of}
use Rattle.unweave.proofs.Four.{grown}
use Rattle.unweave.proofs.put_four.Goals as goal

pub put_quarter-a-requires : goal.put_quarter-a-requires
put_quarter-a-requires c =
    (omega (arith, c.requires.0), omega arith, omega (arith, c.requires.1), c.requires.2 0 (omega arith), c.requires.3 0 (omega arith))

pub put_quarter-b-requires : goal.put_quarter-b-requires
put_quarter-b-requires c =
    (omega (arith, c.requires.0, c.put_quarter-a.auto.buffer), omega arith, omega (arith, c.requires.1), c.requires.2 1 (omega arith), c.requires.3 1 (omega arith))

pub put_quarter-c-requires : goal.put_quarter-c-requires
put_quarter-c-requires c =
    (omega (arith, c.requires.0, c.put_quarter-a.auto.buffer, c.put_quarter-b.auto.buffer), omega arith, omega (arith, c.requires.1), c.requires.2 2 (omega arith), c.requires.3 2 (omega arith))

pub put_quarter-d-requires : goal.put_quarter-d-requires
put_quarter-d-requires c = (
  omega (arith, c.requires.0, c.put_quarter-a.auto.buffer, c.put_quarter-b.auto.buffer, c.put_quarter-c.auto.buffer),
  omega arith,
  omega (arith, c.requires.1),
  c.requires.2 3 (omega arith),
  c.requires.3 3 (omega arith),
)

pub shape_of-buffer : goal.shape_of-buffer
shape_of-buffer c =
    c.put_quarter-d.auto.buffer ∙ c.put_quarter-c.auto.buffer ∙ c.put_quarter-b.auto.buffer ∙ c.put_quarter-a.auto.buffer

pub returns : goal.returns
returns c =
    grown (λ (j : ℕ). written c.args.n (number_of c.args.x j)) c.put_quarter-a.ensures c.put_quarter-b.ensures c.put_quarter-c.ensures c.put_quarter-d.ensures
