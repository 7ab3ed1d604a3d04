-- `few_columns`: the last digits of a tributary's row are every fourth digit (`numbered-few`).
use mathlib.Core.Path.{◌≡◌}
use Prim.Native.Nat.{ℕ, ◌%◌, ◌^◌, ◌<◌}
use native.Mathlib.Omega.{arith}
use Rattle.digits.proofs.Laws.{digits-binary}
use Rattle.digits.proofs.Lists.{of_four}
use Rattle.unweave.specs.Lanes.{row_of}
use Rattle.unweave.specs.Quarters.{number_of}
use Rattle.unweave.proofs.Lanes.{numbered-few}
use Rattle.unweave.proofs.few_columns.Goals as goal

pub returns : goal.returns
returns c =
    let rows = c.from_columns-rows.result in
    numbered-few _ (digits-binary c.args.line.now) c.args.p c.args.n _ rows _ (omega arith) c.read_wide.ensures c.from_columns-rows.ensures
    (of_four (λ (j : ℕ). (number_of _ j ≡ row_of rows j % 2 ^ c.args.n) × (number_of _ j < 2 ^ c.args.n))
    c.last_of-a.ensures c.last_of-b.ensures c.last_of-c.ensures c.last_of-d.ensures)
