-- `vote_at`: by its place.
use mathlib.Core.Path.{ap}
use Prim.Native.Nat.{ℕ, ◌%◌}
use native.Mathlib.Omega.{arith}
use Rattle.verdict_heads.proofs.Heading.{vote-far}
use Rattle.verdict_heads.proofs.vote_at.Reads as reads
use Rattle.verdict_heads.proofs.vote_at.Lts as lts
use Rattle.verdict_heads.proofs.vote_at.Goals as goal

pub returns-in_default : goal.returns-in_default
returns-in_default c = ap (λ (x : ℕ). x % 16) (vote-far c.args.older c.args.last (lts.dens reads.Pre reads.Post c.args).1.1.0 c.args.i (omega arith))
