-- `miss_more`: one digit of the word more (proofs/Missing.antt).
use mathlib.Core.Path.{refl}
use Rattle.strides.proofs.Missing.{miss-turn}
use Rattle.strides.proofs.miss_more.Goals as goal

pub returns : goal.returns
returns c = miss-turn c.args.word c.args.v c.args.k c.args.miss _ c.requires.0 c.requires.1 refl
