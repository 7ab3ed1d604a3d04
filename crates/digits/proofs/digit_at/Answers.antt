-- `digits::digit_at` meets its contract: the shift and the remainder are the digit, by the law of a digit's place.
use native.Mathlib.Omega.{arith}
use mathlib.Core.Path.{sym}
use Rattle.digits.proofs.Laws.{digit_at}
use Rattle.digits.proofs.digit_at.Goals as goal

pub returns : goal.returns
returns c = (sym (digit_at c.args.s.now c.args.p), omega arith)
