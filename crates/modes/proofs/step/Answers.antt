-- `step` is `step_of`: each part of the new core by the function that makes it; and where the word is asked for, a word is tested.
use mathlib.Core.Path.{refl, sym, ◌∙◌}
use native.Mathlib.Omega.{arith}
use Rattle.modes.specs.Modes.{step_of, after_digit, tested_at}
use Rattle.modes.proofs.step.Goals as goal

pub returns-then-asks_word : goal.returns-then-asks_word
unfolding step_of after_digit tested_at
returns-then-asks_word c =
    rw (← c.window_of-window.ensures, ← c.seen_of-seen.ensures, sym c.asks_word.ensures ∙ c.if-asks_word.true, ← c.is_good.ensures, ← c.judge-judged.ensures)
    (refl, refl, omega arith)

pub returns-else-asks_word : goal.returns-else-asks_word
unfolding step_of after_digit tested_at
returns-else-asks_word c =
    rw (← c.window_of-window.ensures, ← c.seen_of-seen.ensures, sym c.asks_word.ensures ∙ c.if-asks_word.false, ← c.place_after-place.ensures)
    (refl, refl, omega arith)
