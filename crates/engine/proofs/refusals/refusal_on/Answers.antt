-- `refusal_on` is `refusal_on`: where the notes decide, the tests before them are rewritten one by one.
use mathlib.Core.Path.{refl, sym, ◌∙◌}
use borrow.Author.Tests.{eq-eqb}
use Rattle.engine.specs.Engine.{refusal_on, too_much}
use Rattle.engine.proofs.Search.{found, absent}
use Rattle.engine.proofs.refusals.refusal_on.Goals as goal

pub returns-in-Some : goal.returns-in-Some
unfolding refusal_on
returns-in-Some c =
    let w = found (too_much c.args.row) c.args.notes.now c.in-Some.f c.in-Some.ensures in
    rw (sym c.bad_line.ensures ∙ c.if-bad_line.false, eq-eqb _ _ c.if-notes-line.false, sym c.bad_buffer.ensures ∙ c.if-bad_buffer.false)
    (rw (sym c.bad_earlier.ensures ∙ c.if-bad_earlier.false, w.0, w.1) c.refuse-in-Some.ensures)

pub returns-in_default : goal.returns-in_default
unfolding refusal_on
returns-in_default c =
    let w = absent (too_much c.args.row) c.args.notes.now c.in_default.ensures in
    rw (sym c.bad_line.ensures ∙ c.if-bad_line.false, eq-eqb _ _ c.if-notes-line.false, sym c.bad_buffer.ensures ∙ c.if-bad_buffer.false)
    (rw (sym c.bad_earlier.ensures ∙ c.if-bad_earlier.false, w) refl)
