-- `put_head`: five stores among zeros.
use mathlib.Core.Path.{◌≡◌, refl, ap}
use native.Mathlib.Omega.{arith}
use lib.ListN.{length, length-set}
use Rattle.verdict_states.proofs.fresh.put_head.Goals as goal

pub bounds-state-0 : goal.bounds-state-0
bounds-state-0 c = let size : length c.args.state.now ≡ 683 = ap length c.requires in omega (arith, size)

pub bounds-state-1 : goal.bounds-state-1
bounds-state-1 c = let size : length c.args.state.now ≡ 683 = ap length c.requires in simp length-set (omega (arith, size))

pub bounds-state-4 : goal.bounds-state-4
bounds-state-4 c = let size : length c.args.state.now ≡ 683 = ap length c.requires in simp length-set (omega (arith, size))

pub bounds-state-5 : goal.bounds-state-5
bounds-state-5 c = let size : length c.args.state.now ≡ 683 = ap length c.requires in simp length-set (omega (arith, size))

pub bounds-state-6 : goal.bounds-state-6
bounds-state-6 c = let size : length c.args.state.now ≡ 683 = ap length c.requires in simp length-set (omega (arith, size))

pub returns : goal.returns
returns c = rw c.requires (refl, refl)
