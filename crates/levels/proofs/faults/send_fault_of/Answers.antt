-- `send_fault_of` is `send_fault_of`: a fault of any call that goes by notes, of the national bits, or none (Refusals).
use mathlib.Core.Path.{sym, ◌∙◌}
use Rattle.std.proofs.lemmas.Result.{err_from_is_err_and}
use Rattle.refusal.proofs.Numbers.{number-some}
use Rattle.levels.specs.Faults.{unset}
use Rattle.levels.proofs.Search.{first-found, none-found}
use Rattle.levels.proofs.Refusals.{number, send-fault-of-any, send-fault-of-national, no-send-fault}
use Rattle.levels.proofs.faults.send_fault_of.Goals as goal

pub returns-in_err-fault_of : goal.returns-in_err-fault_of
returns-in_err-fault_of c =
    let p = err_from_is_err_and c.from_residual.result c.from_residual.ensures.1 in
    let found = c.in_err-fault_of in
    let a = c.args in
    rw (p.1, p.2) (found.ensures ∙ send-fault-of-any a.row a.earlier a.line a.notes.now a.buffer (λ z. number-some found.field-0.0.refusal (number found.ensures ∙ z)))

pub returns-in-Some : goal.returns-in-Some
returns-in-Some c =
    let z = sym (number c.in_ok-fault_of.ensures) in
    let a = c.args in
    let at = first-found (unset a.row) a.notes.now c.in-Some.first c.in-Some.ensures in
    rw at.0 (send-fault-of-national a.row a.earlier a.line a.notes.now a.buffer z at.1)

pub returns-in-None : goal.returns-in-None
returns-in-None c =
    let z = sym (number c.in_ok-fault_of.ensures) in
    let a = c.args in
    no-send-fault a.row a.earlier a.line a.notes.now a.buffer z (none-found (unset a.row) a.notes.now c.in-None.ensures)
