-- `fault_of` is `fault_of`: a fault of the lengths, of the earlier vote, of the notes, or none (Refusals).
use mathlib.Core.Path.{sym, ◌∙◌}
use Rattle.std.proofs.lemmas.Result.{err_from_is_err_and}
use Rattle.refusal.proofs.Numbers.{number-some}
use Rattle.levels.specs.Faults.{overfull}
use Rattle.levels.proofs.Search.{first-found, none-found}
use Rattle.levels.proofs.Refusals.{fault-of-size, fault-of-earlier, fault-of-note, no-fault}
use Rattle.levels.proofs.faults.fault_of.Goals as goal

pub returns-in_err-size_refusal : goal.returns-in_err-size_refusal
returns-in_err-size_refusal c =
    let p = err_from_is_err_and c.from_residual.result c.from_residual.ensures.1 in
    let no = c.in_err-size_refusal in
    let a = c.args in
    rw (p.1, p.2, no.ensures) (fault-of-size a.row a.earlier a.line a.notes.now a.buffer (λ z. number-some no.field-0.0 (no.ensures ∙ z)))

pub returns-then-bad_earlier : goal.returns-then-bad_earlier
returns-then-bad_earlier c =
    let z = sym c.in_ok-size_refusal.ensures in
    let a = c.args in
    rw c.from.ensures (fault-of-earlier a.row a.earlier a.line a.notes.now a.buffer z (sym c.bad_earlier.ensures ∙ c.if-bad_earlier.true))

pub returns-in-Some : goal.returns-in-Some
returns-in-Some c =
    let z = sym c.in_ok-size_refusal.ensures in
    let a = c.args in
    let fits = sym c.bad_earlier.ensures ∙ c.if-bad_earlier.false in
    let at = first-found (overfull a.row) a.notes.now c.in-Some.f c.in-Some.ensures in
    rw at.0 (fault-of-note a.row a.earlier a.line a.notes.now a.buffer z fits at.1)

pub returns-in-None : goal.returns-in-None
returns-in-None c =
    let z = sym c.in_ok-size_refusal.ensures in
    let a = c.args in
    let fits = sym c.bad_earlier.ensures ∙ c.if-bad_earlier.false in
    no-fault a.row a.earlier a.line a.notes.now a.buffer z fits (none-found (overfull a.row) a.notes.now c.in-None.ensures)
