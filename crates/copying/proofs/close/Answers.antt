-- The rest of the byte is read before it is written, and put out behind the digits held (Carried).
use native.Mathlib.Omega.{arith}
use mathlib.Core.Path.{◌≡◌}
use Prim.Native.Nat.{◌+◌, ◌*◌, ◌/◌, ◌%◌}
use Rattle.copying.proofs.Carried.{closed}
use Rattle.copying.proofs.close.Goals as goal

pub returns : goal.returns
returns c =
    let w = c.args.w in
    let word = c.word_at-word in
    let here : 8 * (w.at + w.fill / 8) + w.fill % 8 ≡ 8 * w.at + w.fill = omega arith in
    closed word.result c.put-closed.ensures c.finish.ensures (omega arith) (rw here at word.ensures.0)
