-- `idle_digit` is `digit_by` where the place carries no digit, kind by kind.
use mathlib.Core.Path.{◌∙◌}
use native.Mathlib.Omega.{arith}
use Rattle.levels.proofs.Line.{unused-one, never-idle}
use Rattle.levels.proofs.sent.idle_digit.Goals as goal

pub word_digit-requires : goal.word_digit-requires
word_digit-requires c =
    let pre = c.requires in
    (pre.0, pre.2 c.in-Word.is)

pub returns-in-Word : goal.returns-in-Word
returns-in-Word c =
    let d = c.word_digit.ensures in
    (λ act next none. rw c.in-Word.is d.0, d.1)

pub returns-in-Service : goal.returns-in-Service
returns-in-Service c =
    let d = c.service_by.ensures in
    (λ act next none. rw c.in-Service.is d.0, d.1)

pub returns-in-Control : goal.returns-in-Control
returns-in-Control c =
    let d = c.digit_of.ensures in
    (λ act next none. rw c.in-Control.is (d.0 ∙ rw c.is_stuffed.ensures), d.1)

pub returns-in-Justification : goal.returns-in-Justification
returns-in-Justification c = (λ act next none. unused-one c.args.row c.args.note act c.args.j c.args.r next _ none _ c.in-Justification.is, omega arith)

pub returns-in-Tributary : goal.returns-in-Tributary
returns-in-Tributary c = (λ act next none. never-idle c.args.row c.args.note act c.args.j c.args.r next _ none c.in-Tributary.is, omega arith)
