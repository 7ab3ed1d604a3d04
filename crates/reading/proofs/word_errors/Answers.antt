-- `word_errors` counts ones of a difference; that these are the places at which the digits differ is a law of levels.
use native.Mathlib.Omega.{arith}
use Rattle.digits.specs.Digits.{digits_of}
use Rattle.digits.proofs.Laws.{digits-binary}
use Rattle.levels.proofs.Windows.{ones-places}
use Rattle.reading.proofs.word_errors.Goals as goal

pub read_digits-window-requires : goal.read_digits-window-requires
read_digits-window-requires c = (c.requires.1, omega (arith, c.requires.0.word_some), omega (arith, c.requires.0.word_short))

pub returns : goal.returns
returns c =
    let b = c.args in
    rw c.read_digits-window.ensures.0 (ones-places b.row c.requires.0 (digits_of b.line.now) (digits-binary b.line.now) b.p.0)
