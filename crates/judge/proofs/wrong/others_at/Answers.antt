-- `others_at` counts ones of a difference; that these are the places at which the digits differ is a law of Differing.
use native.Mathlib.Omega.{arith}
use Rattle.digits.specs.Digits.{digits_of}
use Rattle.digits.proofs.Laws.{digits-binary}
use Rattle.judge.proofs.Differing.{others-more, others-few}
use Rattle.judge.proofs.wrong.others_at.Goals as goal

pub overflow_cast-result : goal.overflow_cast-result
overflow_cast-result c =
    let a = c.args in
    let few = others-few (digits_of a.read.now) (digits_of a.sent.now) (digits-binary a.read.now) (digits-binary a.sent.now) a.p a.n in
    rw (c.read_digits.ensures.0, c.read_digits-2.ensures.0) (omega (arith, few))

pub returns : goal.returns
returns c =
    let a = c.args in
    let few = others-few (digits_of a.read.now) (digits_of a.sent.now) (digits-binary a.read.now) (digits-binary a.sent.now) a.p a.n in
    let more = others-more (digits_of a.read.now) (digits_of a.sent.now) (digits-binary a.read.now) (digits-binary a.sent.now) a.p a.n in
    rw (c.read_digits.ensures.0, c.read_digits-2.ensures.0) (more, few)
