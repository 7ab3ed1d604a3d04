-- `read_notes_on`: refused, or read.
use mathlib.Core.List.{List}
use Prim.Native.Nat.{ℕ}
use mathlib.Core.Path.{refl, sym, ap₂}
use borrow.Author.Tests.{eq-eqb, ne_eqb}
use Rattle.std.proofs.lemmas.Result.{err_from_is_err_and}
use Rattle.engine.proofs.Numbers.{number-some}
use Rattle.engine.proofs.Judged.{readable}
use Rattle.plain.proofs.read_notes_on.Goals as goal

pub returns-in_err-reading_on : goal.returns-in_err-reading_on
returns-in_err-reading_on c =
    let p = err_from_is_err_and c.from_residual.result c.from_residual.ensures.1 in
    let e = c.in_err-reading_on in
    rw (p.1, p.2, ← e.ensures, ne_eqb _ _ (number-some e.field-0.0)) (refl, refl)

pub read-errors-requires : goal.read-errors-requires
read-errors-requires c =
    (c.requires, readable c.args.row c.requires _ _ (sym c.in_ok-reading_on.ensures))

pub returns : goal.returns
returns c =
    let z = sym c.in_ok-reading_on.ensures in
    let e = c.read-errors.ensures in
    rw (eq-eqb _ _ z) (ap₂ (λ (a : ℕ) (d : List ℕ). record { refusal = 0; alignment = a; dissent = d }) e.0 e.1, e.2)
