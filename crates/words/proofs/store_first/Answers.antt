-- `store_first` stores a byte and keeps the digits after it.
use mathlib.Core.Path.{refl}
use native.Mathlib.Omega.{arith}
use Rattle.words.proofs.Writing.{byte-stored}
use Rattle.words.proofs.store_first.Goals as goal

pub returns : goal.returns
returns c =
    let byte = c.low_byte in
    let mask = c.ones in
    (byte-stored c.args.s.now c.args.w byte.result mask.result _ c.requires.0 c.requires.1 c.requires.2 byte.ensures mask.ensures refl, omega (arith, c.requires.1))
