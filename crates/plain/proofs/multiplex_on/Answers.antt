-- `multiplex_on`: refused, or sent.
use mathlib.Core.List.{List}
use Prim.Native.Nat.{ℕ}
use mathlib.Core.Path.{refl, sym, ap}
use borrow.Author.Tests.{eq-eqb, ne_eqb}
use Rattle.std.proofs.lemmas.Result.{err_from_is_err_and}
use Rattle.engine.proofs.Numbers.{number-some}
use Rattle.engine.specs.Engine.{Refusal}
use Rattle.engine.proofs.Judged.{accepted, sent-accepted}
use Rattle.plain.proofs.multiplex_on.Goals as goal

pub returns-in_err-sending_on : goal.returns-in_err-sending_on
returns-in_err-sending_on c =
    let p = err_from_is_err_and c.from_residual.result c.from_residual.ensures.1 in
    let e = c.in_err-sending_on in
    rw (p.1, p.2, ← e.ensures, ne_eqb _ _ (number-some e.field-0.0.refusal)) (refl, refl)

pub send-counts-requires : goal.send-counts-requires
send-counts-requires c =
    let z = ap (λ (v : Refusal). v.refusal) (sym c.in_ok-sending_on.ensures) in
    let ok = accepted c.args.row c.requires _ _ _ _ (sent-accepted c.args.row _ _ _ _ z) in
    (c.requires, ok.0)

pub returns : goal.returns
returns c =
    let z = ap (λ (v : Refusal). v.refusal) (sym c.in_ok-sending_on.ensures) in
    rw (eq-eqb _ _ z) (ap (λ (n : List ℕ). record { refusal = 0; frame = 0; counts = n }) c.send-counts.ensures.0, c.send-counts.ensures.1)
