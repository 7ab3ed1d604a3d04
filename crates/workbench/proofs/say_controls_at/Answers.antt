-- A level's row has the facts that all rows share; where there is none, the line stays.
use Rattle.levels.proofs.Rows.{shared-row}
use mathlib.Core.Path.{refl, sym, ◌∙◌}
use Rattle.workbench.proofs.say_controls_at.Goals as goal

pub say_controls-requires : goal.say_controls-requires
say_controls-requires c =
    (shared-row _ _ (sym c.level_of-found.ensures ∙ c.in-Some.is), c.requires)

pub returns-in-Some : goal.returns-in-Some
returns-in-Some c =
    let e = sym c.level_of-found.ensures ∙ c.in-Some.is in
    rw e c.say_controls.ensures

pub returns-in-None : goal.returns-in-None
returns-in-None c =
    let e = sym c.level_of-found.ensures ∙ c.in-None.is in
    rw e refl
