-- `extract_on`: refused for a fault, or extracted.
use mathlib.Core.Path.{sym, ◌∙◌, ap}
use mathlib.Core.List.{List}
use Prim.Native.Nat.{ℕ, ◌/◌}
use lib.ListN.{length}
use Rattle.std.proofs.lemmas.Result.{err_from_is_err_and}
use Rattle.refusal.proofs.Numbers.{number-some}
use Rattle.table.specs.declared.Row.{Row}
use Rattle.levels.specs.Faults.{refused_with}
use Rattle.levels.proofs.Refusals.{number, faultless, refused-kept, accepted-new}
use Rattle.extraction.specs.Quarters.{quarters_from}
use Rattle.extraction.proofs.extract_on.Goals as goal

-- the buffer that is extracted
abbrev buffer : Row → ℕ → List ℕ → List ℕ → List ℕ → List ℕ
buffer row earlier line notes old = quarters_from row earlier notes line (length old / 4)

pub returns-in_err-fault_of : goal.returns-in_err-fault_of
returns-in_err-fault_of c =
    let p = err_from_is_err_and c.from_residual.result c.from_residual.ensures.1 in
    let a = c.args in
    let found = c.in_err-fault_of in
    let new = buffer a.row a.earlier a.line.now a.notes.now a.buffer.now in
    let both = refused-kept a.row a.earlier a.notes.now _ new a.buffer.now
    (λ z. number-some found.field-0.0.refusal (number found.ensures ∙ z)) in
    rw (p.1, p.2) (ap refused_with found.ensures ∙ both.0, both.1)

pub extract_all-counts-requires : goal.extract_all-counts-requires
extract_all-counts-requires c = (c.requires, (faultless _ _ _ _ _ (sym (number c.in_ok-fault_of.ensures))).0)

pub returns : goal.returns
returns c =
    let a = c.args in
    let all = c.extract_all-counts in
    let z = sym (number c.in_ok-fault_of.ensures) in
    let new = buffer a.row a.earlier a.line.now a.notes.now a.buffer.now in
    let both = accepted-new a.row a.earlier a.notes.now _ new a.buffer.now
    all.result z all.ensures.0 in
    (both.0, rw all.ensures.1 both.1)
