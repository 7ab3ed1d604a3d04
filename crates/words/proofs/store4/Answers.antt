-- `store4` stores the four bytes of the last 32 digits.
use mathlib.Core.Path.{refl, ◌∙◌}
use Rattle.words.specs.Words.{four}
use Rattle.words.proofs.Writing.{four-bytes, stored-part}
use Rattle.words.proofs.store4.Goals as goal

pub returns : goal.returns
returns c =
    stored-part c.args.s.now c.copy_from_slice.new.self (four c.args.out) c.args.at 4 c.requires refl
    (c.copy_from_slice.ensures.after ∙ c.to_be_bytes-bytes.ensures ∙ four-bytes c.args.out)
