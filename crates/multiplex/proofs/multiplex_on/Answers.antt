-- `multiplex_on`: refused for a fault, or sent.
use mathlib.Core.Path.{sym, ◌∙◌, ap}
use mathlib.Core.List.{List}
use Prim.Native.Nat.{ℕ}
use lib.ListN.{length}
use Rattle.std.proofs.lemmas.Result.{err_from_is_err_and}
use Rattle.refusal.proofs.Numbers.{number-some}
use Rattle.table.specs.declared.Row.{Row}
use Rattle.levels.specs.Faults.{refused_with}
use Rattle.levels.proofs.Refusals.{number, faultless, send-faultless, refused-kept, accepted-new}
use Rattle.levels.specs.Line.{line_of}
use Rattle.heads.specs.Columns.{tributary_of}
use Rattle.multiplex.proofs.multiplex_on.Goals as goal

-- the line that is sent
abbrev line : Row → ℕ → List ℕ → List ℕ → List ℕ → List ℕ
line row earlier old notes buffer = line_of row earlier notes (tributary_of buffer) (length old)

pub returns-in_err-send_fault_of : goal.returns-in_err-send_fault_of
returns-in_err-send_fault_of c =
    let p = err_from_is_err_and c.from_residual.result c.from_residual.ensures.1 in
    let a = c.args in
    let found = c.in_err-send_fault_of in
    let new = line a.row a.earlier a.line.now a.notes.now a.buffer.now in
    let both = refused-kept a.row a.earlier a.notes.now _ new a.line.now
    (λ z. number-some found.field-0.0.refusal (number found.ensures ∙ z)) in
    rw (p.1, p.2) (ap refused_with found.ensures ∙ both.0, both.1)

pub send_frames-counts-requires : goal.send_frames-counts-requires
send_frames-counts-requires c =
    (c.requires, (faultless _ _ _ _ _ (send-faultless _ _ _ _ _ (sym (number c.in_ok-send_fault_of.ensures))).0).0)

pub returns : goal.returns
returns c =
    let a = c.args in
    let all = c.send_frames-counts in
    let z = sym (number c.in_ok-send_fault_of.ensures) in
    let new = line a.row a.earlier a.line.now a.notes.now a.buffer.now in
    let both = accepted-new a.row a.earlier a.notes.now _ new a.line.now
    all.result z all.ensures.counted in
    (both.0, rw all.ensures.line both.1)
