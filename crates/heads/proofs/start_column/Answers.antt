-- `start_column`: a column of the word, or place by place.
use Rattle.heads.proofs.start_column.Goals as goal

pub returns-then-r-row : goal.returns-then-r-row
returns-then-r-row c = c.word_column.ensures _
