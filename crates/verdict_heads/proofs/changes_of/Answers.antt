-- `changes_of`: the changes of the frames so far.
use mathlib.Core.Path.{◌≡◌, refl}
use mathlib.Core.List.{List}
use mathlib.Core.Bool.{cond, ◌&&◌}
use Prim.Native.Nat.{ℕ, suc}
use lib.Dec.{eqb}
use lib.ListN.{get_or}
use native.Mathlib.Omega.{arith}
use native.Mathlib.Numerals.{add-one}
use Rattle.digits.specs.Sums.{sum_to}
use Rattle.verdict_states.specs.States.{decided, changes_in}
use Rattle.verdict_heads.proofs.changes_of.Goals as goal

abbrev changed : List ℕ → ℕ → ℕ → ℕ → ℕ
changed votes came j f = cond (eqb came 0 && eqb f 0) 0 (cond (eqb (decided (get_or votes (suc f) 0) j) (decided (get_or votes f 0) j)) 0 1)

pub loop-f-init : goal.loop-f-init
unfolding sum_to
loop-f-init c = (refl, omega arith)

pub change_at-changes-requires : goal.change_at-changes-requires
change_at-changes-requires c = (c.requires.0, omega (arith, c.requires.1))

pub loop-f-preserved : goal.loop-f-preserved
unfolding sum_to
loop-f-preserved c =
    let l = c.loop-f in
    let one = rw (add-one l.f) at c.change_at-changes.ensures.0 in
    (rw (add-one l.f) (omega (arith, one, l.invariant.0)), omega (arith, l.invariant.1, c.change_at-changes.ensures.1))

pub returns : goal.returns
unfolding changes_in
returns c =
    let l = c.loop-f in
    let end : l.f ≡ c.args.frames = omega arith in
    (rw (← end) l.invariant.0, omega (arith, l.invariant.1, c.requires.1))
