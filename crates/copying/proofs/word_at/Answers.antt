-- Of no digits the word is 0; else they are read out of the part that begins with their byte.
use mathlib.Core.Path.{refl}
use native.Mathlib.Omega.{arith}
use Rattle.digits.specs.Digits.{written}
use Rattle.copying.proofs.Carried.{word_read}
use Rattle.copying.proofs.word_at.Goals as goal

pub returns-then-n-eq0 : goal.returns-then-n-eq0
unfolding written
returns-then-n-eq0 c = rw c.if-n-eq0.true (refl, omega arith)

pub returns-else-n-eq0 : goal.returns-else-n-eq0
returns-else-n-eq0 c =
    let r = c.read_digits.ensures in
    (word_read _ c.args.byte _ c.args.p c.args.n _ refl c.requires.0 r.0, r.1)
