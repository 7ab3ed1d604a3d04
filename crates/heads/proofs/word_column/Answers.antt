-- `word_column` is four digits of the word.
use Rattle.heads.proofs.WordColumns.{placed-word}
use Rattle.heads.proofs.word_column.Goals as goal

pub returns : goal.returns
returns c = placed-word c.args.row c.requires.0 c.args.r c.requires.1
