-- The line on its way: one place more is sent, and at the end all are.
use mathlib.Core.Path.{◌≡◌, ◌∙◌, ap}
use mathlib.Core.Bool.{cond}
use mathlib.Core.List.{List}
use Prim.Native.Nat.{ℕ, ◌+◌, ◌*◌, ◌<◌}
use native.Mathlib.Omega.{arith}
use native.Mathlib.Decide.{ℕ_discrete}
use lib.Dec.{eqb}
use lib.ListN.{length}
use borrow.Author.Tests.{eq-eqb, ne_eqb}
use Rattle.table.specs.declared.Row.{Row}
use Rattle.engine.specs.Engine.{digit_at, packed, sent_at}
use Rattle.engine.specs.Walk.{Bytes}
use Rattle.plain.specs.Walk.{Sent}
use Rattle.engine.proofs.Packing.{packed-is}

module _ (row : Row) (earlier : ℕ) (notes buffer : List ℕ) (n : ℕ) where
  pub sent-more : (p : ℕ) (line new : List ℕ) → Sent row earlier notes buffer p n line → (d : ℕ) → d ≡ sent_at row earlier notes buffer p
      → ((k : ℕ) → digit_at new k ≡ cond (eqb k (8 * 0 + p)) d (digit_at line k)) → Bytes new → length new ≡ length line
      → Sent row earlier notes buffer (p + 1) n new
  sent-more p line new w d e put bytes kept = record { bytes = bytes; size = kept ∙ w.size; done = all }
    where
      all : (k : ℕ) → k < p + 1 → digit_at new k ≡ sent_at row earlier notes buffer k
      all k h =
          elim (ℕ_discrete k (8 * 0 + p)) [
            | yes same ↦
                let here : p ≡ k = omega arith in
                put k ∙ rw (eq-eqb k (8 * 0 + p) same) (e ∙ ap (sent_at row earlier notes buffer) here)
            | no other ↦ put k ∙ rw (ne_eqb k (8 * 0 + p) other) (w.done k (omega arith))
          ]

  pub sent-all : (p : ℕ) (line : List ℕ) → Sent row earlier notes buffer p n line → p ≡ 8 * n → line ≡ packed n (sent_at row earlier notes buffer)
  sent-all p line w e =
      packed-is line (sent_at row earlier notes buffer) w.bytes (λ k h. w.done k (omega (arith, w.size)))
      ∙ ap (λ (m : ℕ). packed m (sent_at row earlier notes buffer)) w.size
