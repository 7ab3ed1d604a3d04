-- `seek_far`: two turns that there are, and with numbers for the word that are the word's (proofs/Passing.antt).
use mathlib.Core.Path.{refl}
use native.Mathlib.Omega.{arith}
use Rattle.strides.proofs.Passing.{unmet-as}
use Rattle.strides.proofs.seek_far.Goals as goal

pub seek_by-requires : goal.seek_by-requires
seek_by-requires c = (
  record { least = omega arith; most = omega arith; fits = omega arith; bytes = refl; some = omega arith; room = omega arith; masked = refl },
  c.requires.3,
  c.requires.4,
  c.requires.5,
  c.requires.6,
  c.requires.7,
)

pub returns-then-word-eq27 : goal.returns-then-word-eq27
returns-then-word-eq27 c =
    let found = c.seek_by.ensures in
    (found.0, found.1, unmet-as _ _ _ _ _ _ _ found.2 c.if-len-eq7.true c.if-word-eq27.true)

pub seek_by-requires-else-len-eq7 : goal.seek_by-requires-else-len-eq7
seek_by-requires-else-len-eq7 c = (
  record { least = c.requires.0; most = c.requires.1; fits = c.requires.2; bytes = refl; some = omega arith; room = omega (arith, c.requires.1); masked = refl },
  c.requires.3,
  c.requires.4,
  c.requires.5,
  c.requires.6,
  c.requires.7,
)
