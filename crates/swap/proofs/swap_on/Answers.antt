-- `swap_on`: refused by its number, or the tributary is written.
use mathlib.Core.Path.{refl, sym, ap}
use Prim.Native.Nat.{ℕ}
use native.Mathlib.Omega.{arith}
use borrow.Author.Tests.{ne_eqb}
use Rattle.std.proofs.lemmas.Result.{err_from_is_err_and}
use Rattle.refusal.proofs.Numbers.{number-some}
use Rattle.swap.proofs.Accepted.{one-of-four, fits, line_left, digits-taken}
use Rattle.swap.proofs.swap_on.Goals as goal

pub returns-in_err-number_of : goal.returns-in_err-number_of
returns-in_err-number_of c =
    let p = err_from_is_err_and c.from_residual.result c.from_residual.ensures.1 in
    let no = c.in_err-number_of in
    rw (p.1, p.2, sym no.ensures, ne_eqb _ 0 (number-some no.field-0.0)) (refl, refl)

pub overflow_sub-tributary : goal.overflow_sub-tributary
overflow_sub-tributary c =
    let z = sym c.in_ok-number_of.ensures in
    omega (arith, (one-of-four _ _ _ _ _ _ z).0)

pub fill-digits-requires : goal.fill-digits-requires
fill-digits-requires c =
    let z = sym c.in_ok-number_of.ensures in
    let four = one-of-four _ _ _ _ _ _ z in
    (omega (arith, four.0, four.1), fits _ _ _ _ _ _ z c.requires)

pub returns : goal.returns
returns c =
    let a = c.args in
    let z = sym c.in_ok-number_of.ensures in
    let four = one-of-four _ _ _ _ _ _ z in
    let filled = c.fill-digits.ensures in
    let fit = fits _ _ _ _ _ _ z c.requires in
    let taken = digits-taken a.row a.earlier a.notes.now a.buffer.now _ _ a.line.now _ filled (omega (arith, four.0, four.1)) fit in
    rw z (ap (λ (n : ℕ). record { refusal = 0; digits = n }) taken, line_left a.row a.earlier a.notes.now a.buffer.now _ _ a.line.now _ filled)
