-- `many_columns`: a tributary's row of the first sixteen columns, then the last digits of its row of the last sixteen (`numbered-many`).
use mathlib.Core.Path.{◌≡◌, refl}
use Prim.Native.Nat.{ℕ, ◌+◌, ◌-◌, ◌*◌, ◌%◌, ◌^◌, ◌<◌}
use native.Mathlib.Omega.{arith}
use Rattle.digits.proofs.Laws.{digits-binary}
use Rattle.digits.proofs.Lists.{of_four}
use Rattle.unweave.specs.Lanes.{row_of}
use Rattle.unweave.specs.Quarters.{number_of}
use Rattle.unweave.proofs.Lanes.{numbered-many}
use Rattle.unweave.proofs.many_columns.Goals as goal

pub returns : goal.returns
returns c =
    let more = c.args.n - 16 in
    let first = c.from_columns-first.result in
    let last = c.from_columns-last.result in
    numbered-many _ (digits-binary c.args.line.now) c.args.p _ c.args.n more _ _ first last _ (omega arith) refl (omega arith)
    c.read_word.ensures c.from_columns-first.ensures c.read_word-2.ensures c.from_columns-last.ensures
    (of_four (λ (j : ℕ). (number_of _ j ≡ row_of first j * 2 ^ more + row_of last j % 2 ^ more) × (number_of _ j < 2 ^ (16 + more)))
    c.both_of-a.ensures c.both_of-b.ensures c.both_of-c.ensures c.both_of-d.ensures)
