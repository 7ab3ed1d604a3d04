-- `put_eight`: four bytes of the line, as they were but for the tributary's places.
use mathlib.Core.Path.{◌∙◌}
use native.Mathlib.Omega.{arith}
use Rattle.digits.specs.Digits.{Bytes}
use Rattle.digits.proofs.Laws.{digits-binary}
use Rattle.swap.proofs.Eights.{ran-eight}
use Rattle.swap.proofs.columns.put_eight.Goals as goal

pub returns : goal.returns
returns c =
    let store4 = c.store4 in
    let exchanged = c.exchanged in
    let load4 = c.load4 in
    let spread = c.spread-digits in
    let read-digits = c.read_digits in
    let bytes : Bytes store4.new.s = λ i. omega (arith, c.type_inv.line i) in
    ran-eight _ _ (digits-binary _) _ _ _ c.requires.3 c.requires.1 _ (exchanged.ensures ∙ rw (load4.ensures.0, spread.ensures.0, read-digits.ensures.0)) _
    store4.ensures bytes
