-- `repaired_digit` is `repaired_by`, kind by kind.
use mathlib.Core.Path.{◌∙◌}
use Rattle.repair.proofs.repaired_digit.Goals as goal

pub word_digit-requires : goal.word_digit-requires
word_digit-requires c =
    let pre = c.requires in
    (pre.0, pre.2 c.in-Word.is)

pub returns-in-Word : goal.returns-in-Word
returns-in-Word c = (rw c.in-Word.is c.word_digit.ensures.0, c.word_digit.ensures.1)

pub returns-in-Service : goal.returns-in-Service
returns-in-Service c =
    let d = c.service_digit.ensures in
    (rw c.in-Service.is d.0, d.1)

pub returns-in-Control : goal.returns-in-Control
returns-in-Control c =
    (rw c.in-Control.is (c.digit_of.ensures.0 ∙ rw c.is_stuffed.ensures), c.digit_of.ensures.1)

pub returns-in-Justification : goal.returns-in-Justification
returns-in-Justification c =
    let d = c.justification_digit.ensures in
    (rw c.in-Justification.is d.0, d.1)

pub returns-in-Tributary : goal.returns-in-Tributary
returns-in-Tributary c = (rw c.in-Tributary.is, c.requires.3)
