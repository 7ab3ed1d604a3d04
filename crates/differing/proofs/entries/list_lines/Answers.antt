-- `list_lines`: block after block, from nothing to all bytes, or until the list is full.
use native.Mathlib.Omega.{arith}
use mathlib.Core.Path.{◌≡◌}
use Prim.Native.Nat.{◌+◌, ◌*◌}
use lib.ListN.{length}
use Rattle.differing.proofs.Walking.{listed-none, list_full, list-end}
use Rattle.differing.proofs.entries.list_lines.Goals as goal

pub loop-from-init : goal.loop-from-init
loop-from-init c = (omega arith, rw c.requires.1 (listed-none _ _ _))

pub returns-then-all-ge-LISTED_MOST : goal.returns-then-all-ge-LISTED_MOST
returns-then-all-ge-LISTED_MOST c =
    let l = c.loop-from in
    (list_full _ _ _ (8 * l.from) (8 * length c.args.one.now) _ _ (omega (arith, l.invariant.0)) c.if-all-ge-LISTED_MOST.true l.invariant.1).the_places

pub loop-from-preserved : goal.loop-from-preserved
loop-from-preserved c =
    let e : c.min-to.result ≡ c.loop-from.from + 64 = omega (arith, c.min-to.ensures) in
    (omega arith, rw e at c.list_block-all.ensures)

pub returns : goal.returns
returns c = list-end _ _ _ c.loop-from.from _ _ (omega (arith, c.loop-from.invariant.0)) c.loop-from.invariant.1
