-- `extract_on`: refused, or taken.
use mathlib.Core.List.{List}
use Prim.Native.Nat.{ℕ}
use mathlib.Core.Path.{refl, sym, ap}
use borrow.Author.Tests.{eq-eqb, ne_eqb}
use Rattle.std.proofs.lemmas.Result.{err_from_is_err_and}
use Rattle.engine.proofs.Numbers.{number-some}
use Rattle.engine.specs.Engine.{Refusal}
use Rattle.engine.proofs.Judged.{accepted}
use Rattle.plain.proofs.extract_on.Goals as goal

pub returns-in_err-refusal_on : goal.returns-in_err-refusal_on
returns-in_err-refusal_on c =
    let p = err_from_is_err_and c.from_residual.result c.from_residual.ensures.1 in
    let e = c.in_err-refusal_on in
    rw (p.1, p.2, ← e.ensures, ne_eqb _ _ (number-some e.field-0.0.refusal)) (refl, refl)

pub take-counts-requires : goal.take-counts-requires
take-counts-requires c =
    let z = ap (λ (v : Refusal). v.refusal) (sym c.in_ok-refusal_on.ensures) in
    let ok = accepted c.args.row c.requires _ _ _ _ z in
    (c.requires, ok.0, ok.1)

pub returns : goal.returns
returns c =
    let z = ap (λ (v : Refusal). v.refusal) (sym c.in_ok-refusal_on.ensures) in
    rw (eq-eqb _ _ z) (ap (λ (n : List ℕ). record { refusal = 0; frame = 0; counts = n }) c.take-counts.ensures.0, c.take-counts.ensures.1)
