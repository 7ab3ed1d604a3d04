-- The C call is the call behind it.
use mathlib.Core.Path.{◌∙◌, ap}
use Rattle.judge.specs.Verdict.{Judged}
use Rattle.spritbobbin.specs.JudgeFace.{judged_answer}
use Rattle.spritbobbin.proofs.judge_face.spritbobbin_judge.Goals as goal

pub returns : goal.returns
returns c =
    let e = c.judge-found.ensures in
    (c.judged_numbers-refusal.ensures.0 ∙ ap (λ (r : Judged). r.refusal) e, c.judged_numbers-refusal.ensures.1 ∙ ap judged_answer e)
