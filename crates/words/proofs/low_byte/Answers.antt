-- `low_byte`: the mask is the remainder by 256.
use mathlib.Core.Path.{sym, subst}
use lib.Bits.{and_mask}
use mir.Syntax.{w8}
use mir.Val.{Fits}
use mir.ValLaws.{Fits-wrap}
use Rattle.words.proofs.low_byte.Goals as goal

pub overflow_cast-result : goal.overflow_cast-result
overflow_cast-result c = subst (Fits w8) (sym (and_mask c.args.x 8)) (Fits-wrap w8 c.args.x)

pub returns : goal.returns
returns c = and_mask c.args.x 8
