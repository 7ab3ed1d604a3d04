-- `repair_set`: place after place of the head, and behind it nothing is to be done.
use native.Mathlib.Omega.{arith}
use mathlib.Core.Path.{◌≡◌}
use Rattle.levels.specs.Places.{head_end}
use Rattle.levels.proofs.Runs.{head-end-in}
use Rattle.repair.proofs.Frames.{onward_then, begun-on, set-done}
use Rattle.repair.proofs.repair_set.Goals as goal

pub repair_place-requires : goal.repair_place-requires
repair_place-requires c =
    let l = c.loop-r in (
      begun-on c.requires.0 l.invariant,
      c.requires.1,
      omega (arith, c.head_end-end.ensures, head-end-in c.args.row c.requires.0.mended.whole.shared c.args.s),
    )

pub loop-r-preserved : goal.loop-r-preserved
loop-r-preserved c =
    let l = c.loop-r in
    onward_then l.invariant c.repair_place.ensures (omega arith)

pub returns : goal.returns
returns c =
    let l = c.loop-r in
    let e : l.r ≡ head_end c.args.row c.args.s = omega (arith, c.head_end-end.ensures) in
    set-done c.args.s c.requires.1 (rw e at l.invariant)
