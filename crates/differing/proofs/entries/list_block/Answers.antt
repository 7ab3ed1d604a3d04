-- `list_block`: byte after byte, nothing of a block that is equal, and nothing once the list is full.
use native.Mathlib.Omega.{arith}
use mathlib.Core.Path.{◌≡◌}
use Prim.Native.Nat.{◌*◌}
use Rattle.differing.proofs.Walking.{list_over, list_full}
use Rattle.differing.proofs.entries.list_block.Goals as goal

pub returns-then-equal_bytes : goal.returns-then-equal_bytes
returns-then-equal_bytes c = list_over _ _ _ _ _ _ _ c.requires.1 c.requires.4 (c.equal_bytes.ensures c.if-equal_bytes.true)

pub returns-then-all-ge-LISTED_MOST : goal.returns-then-all-ge-LISTED_MOST
returns-then-all-ge-LISTED_MOST c = list_full _ _ _ (8 * c.loop-i.i) _ _ _ (omega arith) c.if-all-ge-LISTED_MOST.true c.loop-i.invariant

pub returns : goal.returns
returns c =
    let e : c.loop-i.i ≡ c.args.to = omega arith in
    rw (← e) c.loop-i.invariant
