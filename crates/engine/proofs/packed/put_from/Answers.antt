-- `put_from`: the changed byte changes one digit of the slice, and every element is still a byte.
use native.Mathlib.Omega.{arith}
use Prim.Native.Nat.{◌+◌, ◌/◌}
use Rattle.engine.specs.Walk.{Bytes}
use Rattle.engine.proofs.Packing.{digit-put, still-bytes}
use Rattle.engine.proofs.packed.put_from.Goals as goal

pub returns : goal.returns
returns c =
    let a = c.args in
    let bs = a.bytes.now in
    let bytes : Bytes bs = λ i. omega (arith, c.slice_known-2-1.given i) in (
      rw c.change.ensures (digit-put bs a.a a.i a.d c.requires.0 c.requires.1),
      still-bytes bs (a.a + a.i / 8) c.change.result c.requires.0 bytes (omega arith),
    )
