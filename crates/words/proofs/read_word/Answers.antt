-- `read_word` loads eight bytes, and in the middle of a byte the first digits of a ninth.
use mathlib.Core.Path.{◌≡◌, ap, ◌∙◌}
use Prim.Native.Nat.{ℕ, ◌*◌, ◌/◌}
use native.Mathlib.Omega.{arith}
use Rattle.digits.specs.Digits.{digits_of, window_at, Bytes}
use Rattle.words.proofs.Loads.{load-nine}
use Rattle.words.proofs.read_word.Goals as goal

pub returns-then-k-eq0 : goal.returns-then-k-eq0
returns-then-k-eq0 c =
    let whole : 8 * (c.args.p / 8) ≡ c.args.p = omega arith in
    c.load8.ensures ∙ ap (λ (k : ℕ). window_at (digits_of c.args.s.now) k 64) whole

pub returns-else-k-eq0 : goal.returns-else-k-eq0
returns-else-k-eq0 c =
    let bytes : Bytes c.args.s.now = λ i. omega (arith, c.type_inv.s i) in
    load-nine c.args.s.now c.args.p _ bytes c.load8-else-k-eq0.ensures (omega arith)
