-- `from_columns`: the four exchanges turn columns into rows.
use Rattle.words.proofs.Turned.{turned_rows}
use Rattle.words.proofs.turning.from_columns.Goals as goal

pub returns : goal.returns
returns c =
    turned_rows c.args.word _ _ _ _ c.exchange-within_bytes.ensures c.exchange-pairs.ensures c.exchange-fours.ensures c.exchange.ensures
