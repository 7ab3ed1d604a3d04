-- `wrong_by` is `wrong_by`: only a digit of the alignment signal is compared.
use mathlib.Core.Path.{sym, ◌∙◌}
use Rattle.plain.proofs.Places.{in-word}
use Rattle.plain.proofs.reading.wrong_by.Goals as goal

pub word_digit-requires : goal.word_digit-requires
word_digit-requires c =
    (c.requires.0, in-word _ _ (sym c.place_in.ensures ∙ c.in-Alignment.is))
