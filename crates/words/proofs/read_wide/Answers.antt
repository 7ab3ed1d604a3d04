-- `read_wide` reads up to 32 digits, or those before the last 32 and the last 32.
use native.Mathlib.Omega.{arith}
use Rattle.words.proofs.Loads.{load-wide}
use Rattle.words.proofs.read_wide.Goals as goal

pub returns-else-n-le32 : goal.returns-else-n-le32
returns-else-n-le32 c =
    let first = c.read_digits-else-n-le32 in
    let last = c.read_digits-else-n-le32-2 in
    load-wide c.args.s.now c.args.p _ c.args.n _ _ (omega arith) (omega arith) first.ensures.0 last.ensures.0 first.ensures.1 last.ensures.1
