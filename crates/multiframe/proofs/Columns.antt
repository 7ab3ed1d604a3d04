-- A column of a multiframe, byte by byte: one byte more is put.
use mathlib.Core.Path.{◌≡◌, ◌∙◌}
use mathlib.Core.Logic.{◌≢◌}
use mathlib.Core.List.{List}
use Prim.Native.Nat.{ℕ, ◌+◌, ◌*◌, ◌<◌}
use native.Mathlib.Omega.{arith}
use native.Mathlib.Decide.{ℕ_discrete}
use lib.ListN.{length, get_or, set}
use lib.Seq.{get_or-set_same, get_or-set_other}
use Rattle.digits.proofs.Below.{lt_of_ne}
use Rattle.multiframe.specs.Steps.{ColumnPut}

pub column-more : (old : List ℕ) (first : ℕ) (column : List ℕ) (n : ℕ) (mid : List ℕ) → first + 32 * n < length mid
    → ColumnPut old first column n mid → ColumnPut old first column (n + 1) (set mid (first + 32 * n) (get_or column n 0))
column-more old first column n mid h w = record { put = put; stays = stays }
  where
    new : List ℕ
    new = set mid (first + 32 * n) (get_or column n 0)

    put : (f : ℕ) → f < n + 1 → get_or new (first + 32 * f) 0 ≡ get_or column f 0
    put f l =
        elim (ℕ_discrete f n) [
          | yes e ↦ rw e (get_or-set_same mid (first + 32 * n) (get_or column n 0) 0 h)
          | no far ↦
              get_or-set_other mid (first + 32 * n) (first + 32 * f) (get_or column n 0) 0 (λ e. far (omega arith)) ∙ w.put f (lt_of_ne f n l far)
        ]

    stays : (k : ℕ) → ((f : ℕ) → f < n + 1 → k ≢ first + 32 * f) → get_or new k 0 ≡ get_or old k 0
    stays k far =
        get_or-set_other mid (first + 32 * n) k (get_or column n 0) 0 (far n (omega arith)) ∙ w.stays k (λ f l. far f (omega arith))
