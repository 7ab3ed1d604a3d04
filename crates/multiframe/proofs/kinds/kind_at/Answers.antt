-- The byte of the frame decides which tables are read.
use mathlib.Core.Path.{◌≡◌, sym, ap, ◌∙◌}
use Prim.Native.Nat.{ℕ, ◌/◌, ◌%◌, ◌<◌}
use native.Mathlib.Omega.{arith}
use native.Mathlib.Decide.{dec_lt}
use Rattle.multiframe.specs.declared.Kind.TheVariants.{Channel}
use Rattle.multiframe.proofs.Told.{kind-first, kind-sixteenth, kind-channel}
use Rattle.multiframe.proofs.kinds.kind_at.Goals as goal

-- a byte that is neither 0 nor 16
between : (b : ℕ) → b < 32 → (b ≡ 0 → ⊥) → (b ≡ 16 → ⊥) → 0 < b % 16
between b h z s =
    elim (dec_lt 0 (b % 16)) [
      | yes g ↦ g
      | no g ↦ absurd (elim (dec_lt b 16) [ yes l ↦ z (omega arith) | no l ↦ s (omega arith) ])
    ]

pub returns-in-0 : goal.returns-in-0
returns-in-0 c = c.first_byte.ensures ∙ sym (kind-first c.args.p c.in-0.is)

pub returns-in-16 : goal.returns-in-16
returns-in-16 c = c.sixteenth_byte.ensures ∙ sym (kind-sixteenth c.args.p c.in-16.is)

pub returns-in_default : goal.returns-in_default
returns-in_default c =
    let p = c.args.p in
    let z : p / 8 % 32 ≡ 0 → ⊥ = λ e. omega (arith, c.in_default) in
    let s : p / 8 % 32 ≡ 16 → ⊥ = λ e. omega (arith, c.in_default) in
    let g = between (p / 8 % 32) (omega arith) z s in
    ap Channel c.channel_of.ensures ∙ sym (kind-channel p (omega (arith, g)))
