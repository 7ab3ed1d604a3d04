-- `digit_from`: the shift and the remainder are the digit.
use mathlib.Core.Path.{sym}
use native.Mathlib.Omega.{arith}
use Rattle.engine.proofs.Packing.{digit-from}
use Rattle.engine.proofs.packed.digit_from.Goals as goal

pub returns : goal.returns
returns c = (sym (digit-from c.args.bytes.now c.args.a c.args.i), omega arith)
