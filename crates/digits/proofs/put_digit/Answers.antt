-- `digits::put_digit` meets its contract: what `with_digit` gives changes one digit of the list, and every element is still a byte.
use native.Mathlib.Omega.{arith}
use native.Mathlib.Decide.{ℕ_discrete}
use Prim.Native.Nat.{ℕ, ◌/◌, ◌<◌}
use mathlib.Core.List.{List}
use lib.ListN.{length, set}
use lib.Seq.{get_or-set_same, get_or-set_other}
use Rattle.digits.specs.Digits.{Bytes}
use Rattle.digits.proofs.Laws.{digits-put}
use Rattle.digits.proofs.put_digit.Goals as goal

still-bytes : (bs : List ℕ) (i b : ℕ) → i < length bs → Bytes bs → b < 256 → Bytes (set bs i b)
still-bytes bs i b h bytes byte j =
    elim (ℕ_discrete j i) [
      | yes e ↦ rw (e, get_or-set_same bs i b 0 h) byte
      | no n ↦ rw (get_or-set_other bs i j b 0 n) (bytes j)
    ]

pub returns : goal.returns
returns c =
    let bs = c.args.s.now in
    let p = c.args.p in
    let bytes : Bytes bs = λ i. omega (arith, c.slice_known-2-1.given i) in
    let inside : p / 8 < length bs = omega arith in (
      rw c.with_digit.ensures (digits-put bs p c.args.d c.requires.0 c.requires.1),
      still-bytes bs (p / 8) c.with_digit.result inside bytes (omega arith),
    )
