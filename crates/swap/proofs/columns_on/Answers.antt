-- `columns_on`: all but the last of the columns lie in the same set, and `next_column` goes over its end.
use mathlib.Core.Path.{◌≡◌, sym, ◌∙◌, ap}
use Prim.Native.Nat.{ℕ, ◌+◌, ◌*◌, ◌-◌}
use native.Mathlib.Omega.{arith}
use Rattle.levels.specs.Places.{pos_of}
use Rattle.levels.proofs.Positions.{stands_at, pos-of-sum}
use Rattle.swap.proofs.columns_on.Goals as goal

pub returns-then-k-eq0 : goal.returns-then-k-eq0
returns-then-k-eq0 c p e =
    let none : p ≡ p + 4 * c.args.k = omega (arith, c.if-k-eq0.true) in
    e ∙ ap (λ (n : ℕ). pos_of c.args.row n) none

pub returns : goal.returns
returns c p e =
    let at = c.args.at in
    let k = c.args.k in
    let some = c.if-k-eq0.false in
    let st = stands_at c.args.row c.requires.0 p at e in
    let here = sym (pos-of-sum c.args.row c.requires.0 (p + 4 * (k - 1)) at.frame at.set (at.place + 4 * (k - 1)) (omega (arith, st.sum)) c.requires.2
    (omega (arith, c.requires.4, some))) in
    let all : p + 4 * (k - 1) + 4 ≡ p + 4 * k = omega (arith, some) in
    c.next_column.ensures (p + 4 * (k - 1)) here ∙ ap (λ (n : ℕ). pos_of c.args.row n) all
