-- `service_at` reads the service digit at its place, which lies inside the line where the level has it.
use native.Mathlib.Omega.{arith}
use lib.ListN.{length}
use borrow.Author.Tests.{lt-ltb, le-ltb}
use Rattle.levels.specs.Places.{noted_of}
use Rattle.reading.specs.Notes.{service_at}
use Rattle.reading.proofs.Inside.{service-inside}
use Rattle.reading.proofs.service_at.Goals as goal

pub line_digit-requires : goal.line_digit-requires
line_digit-requires c =
    service-inside _ c.requires.0 c.args.f (length c.args.line.now) c.requires.2 c.args.k c.if-k-row.true

pub returns-then-k-row : goal.returns-then-k-row
unfolding service_at
returns-then-k-row c =
    rw (lt-ltb c.args.k (noted_of c.args.row) c.if-k-row.true) c.line_digit.ensures

pub returns-else-k-row : goal.returns-else-k-row
unfolding service_at
returns-else-k-row c = rw (le-ltb c.args.k (noted_of c.args.row) (omega (arith, c.if-k-row.false))) (omega arith)
