-- `sending_on` is `sending_on`: what refuses extraction, or what the notes lack.
use mathlib.Core.Path.{refl}
use borrow.Author.Tests.{ne_eqb}
use Rattle.std.proofs.lemmas.Result.{err_from_is_err_and}
use Rattle.engine.proofs.Numbers.{number-some}
use Rattle.engine.specs.Engine.{sending_on, too_few}
use Rattle.engine.proofs.Search.{found, absent}
use Rattle.engine.proofs.refusals.sending_on.Goals as goal

pub returns-in_err-refusal_on : goal.returns-in_err-refusal_on
unfolding sending_on
returns-in_err-refusal_on c =
    let p = err_from_is_err_and c.from_residual.result c.from_residual.ensures.1 in
    let e = c.in_err-refusal_on in
    rw (p.1, p.2, ← e.ensures, ne_eqb _ _ (number-some e.field-0.0.refusal)) refl

pub returns-in-Some : goal.returns-in-Some
unfolding sending_on
returns-in-Some c =
    let w = found (too_few c.args.row) c.args.notes.now c.in-Some.f c.in-Some.ensures in
    rw (← c.in_ok-refusal_on.ensures, w.0, w.1) c.refuse.ensures

pub returns-in_default : goal.returns-in_default
unfolding sending_on
returns-in_default c =
    let w = absent (too_few c.args.row) c.args.notes.now c.in_default.ensures in
    rw (← c.in_ok-refusal_on.ensures, w) refl
