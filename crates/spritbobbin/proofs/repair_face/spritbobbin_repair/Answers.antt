-- The C call is the call behind it.
use mathlib.Core.Path.{◌∙◌, ap}
use Rattle.repair.specs.Repair.{Repaired}
use Rattle.spritbobbin.specs.RepairFace.{repaired_answer}
use Rattle.spritbobbin.proofs.repair_face.spritbobbin_repair.Goals as goal

pub returns : goal.returns
returns c =
    let e = c.repair-done.ensures in
    (c.repaired_numbers-refusal.ensures.0 ∙ ap (λ (r : Repaired). r.refusal) e.0, e.1, c.repaired_numbers-refusal.ensures.1 ∙ ap repaired_answer e.0)
