-- `load4` joins four bytes, each a byte of the window.
use mathlib.Core.Path.{refl}
use Rattle.digits.specs.Digits.{Bytes}
use Rattle.words.proofs.Loads.{load-four}
use native.Mathlib.Omega.{arith}
use Rattle.words.proofs.load4.Goals as goal

pub returns : goal.returns
returns c =
    let bytes : Bytes c.args.s.now = λ i. omega (arith, c.type_inv.s i) in
    load-four c.args.s.now c.args.at _ _ _ _ bytes refl refl refl (omega (arith, c.from.ensures, c.from_be_bytes.ensures))
