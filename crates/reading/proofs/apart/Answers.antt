-- `apart` copies the column and keeps one digit of each copy: that these are its digits is settled for each column.
use Rattle.reading.proofs.Lanes.{spread}
use Rattle.reading.proofs.apart.Goals as goal

pub returns : goal.returns
returns c = spread c.args.column c.requires
