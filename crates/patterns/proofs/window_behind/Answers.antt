-- `window_behind`: 23 digits of the reading are a window of the pattern.
use Rattle.digits.specs.Digits.{digits_of}
use Rattle.digits.proofs.Laws.{digits-binary}
use Rattle.patterns.proofs.Made.{window-behind}
use Rattle.patterns.proofs.window_behind.Goals as goal

pub returns : goal.returns
returns c =
    let a = c.args in
    let pre = c.requires in
    window-behind a.pattern a.window pre.0 pre.1 (digits_of a.read.now) (digits-binary a.read.now) a.n _ _ pre.3 pre.4
    c.read_digits.ensures.0 c.window_after.ensures.0
