-- `compare`: refused, or compared on the row of the level that both files have.
use mathlib.Core.Path.{refl, sym, ◌∙◌}
use borrow.Author.Tests.{eq-eqb, ne_eqb}
use Rattle.levels.proofs.Rows.{shared-row}
use Rattle.compare.specs.Compare.{compared_of, listed_of}
use Rattle.compare.proofs.Files.{fitting, line-within, line_whole}
use Rattle.compare.proofs.compare.Goals as goal

pub returns-then-fault-ne0 : goal.returns-then-fault-ne0
unfolding compared_of listed_of
returns-then-fault-ne0 c =
    rw (← c.read-first.ensures, ← c.read-second.ensures, ← c.fault_of-fault.ensures, ne_eqb _ _ c.if-fault-ne0.true) (c.refused.ensures, refl)

pub compared_on-requires : goal.compared_on-requires
compared_on-requires c =
    let fits = fitting c.read-first.result c.read-second.result (rw (← c.fault_of-fault.ensures) c.if-fault-ne0.false) in
    let one = rw (← c.read-first.ensures) at (line-within c.args.one.now) in
    let other = rw (← c.read-second.ensures) at (line-within c.args.other.now) in
    let level = sym c.level_of-found.ensures ∙ c.in-Some.is in
    let whole = rw (← c.read-first.ensures) at (line_whole c.args.one.now c.in-Some.row) in
    (shared-row _ _ level, one.inside, other.inside, fits.same_bytes, one.short, whole fits.one_good level)

pub returns-in-Some : goal.returns-in-Some
unfolding compared_of listed_of
returns-in-Some c =
    let e = sym c.level_of-found.ensures ∙ c.in-Some.is in
    rw (← c.read-first.ensures, ← c.read-second.ensures, ← c.fault_of-fault.ensures, eq-eqb _ _ c.if-fault-ne0.false, e) c.compared_on.ensures

pub returns-in-None : goal.returns-in-None
unfolding compared_of listed_of
returns-in-None c =
    let e = sym c.level_of-found.ensures ∙ c.in-None.is in
    rw (← c.read-first.ensures, ← c.read-second.ensures, ← c.fault_of-fault.ensures, eq-eqb _ _ c.if-fault-ne0.false, e) (c.refused-in-None.ensures ∙ rw c.fault_in.ensures refl, refl)
