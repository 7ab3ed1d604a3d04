-- `send_narrow`: the first few columns, then eights, of which some are still to come (`Eights`).
use Prim.Native.Nat.{◌*◌, ◌/◌}
use Rattle.digits.specs.Digits.{digits_of}
use Rattle.weave.proofs.Weaving.{Eights}
use Rattle.weave.proofs.send_narrow.Given as goal

abbrev pub invariant-loop-eight : goal.invariant-loop-eight
invariant-loop-eight l = Eights (digits_of l.a) (digits_of l.b) (digits_of l.c) (digits_of l.d) l.columns l.x l.y l.z l.t (8 * (l.columns / 8)) l.initial.line l.initial.w l.line l.w (8 * l.eight)
