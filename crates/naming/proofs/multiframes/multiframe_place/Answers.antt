-- A place of the multiframe has the numbers of its kind.
use mathlib.Core.Path.{refl}
use borrow.Author.Tests.{lt-ltb, le-ltb}
use Rattle.naming.proofs.multiframes.multiframe_place.Goals as goal

pub returns-then-p-ge4096 : goal.returns-then-p-ge4096
returns-then-p-ge4096 c = rw (le-ltb c.args.p 4096 c.if-p-ge4096.true) refl

pub returns : goal.returns
returns c =
    let p = c.args.p in
    rw (lt-ltb p 4096 c.if-p-ge4096.false, c.kind_number.ensures, c.number_of.ensures, c.kind_at-kind.ensures) refl
