-- What each call ensures is its statement, of which crate `engine` has that there is no second answer; and none asks anything of its caller.
use contract.Lifetimes.{Lfts}
use denote.Triple.Clauses.{AtExit}
use borrow.Fn.World.{ArgsD, ResD}
use Rattle.engine.specs.Engine.{answered_in, notes_read_in, MultiplexMet, ReadNotesMet, ExtractMet}
use Rattle.plain.specs.contracts.multiplex as multiplex
use Rattle.plain.proofs.multiplex.Reads as multiplex-reads
use Rattle.plain.specs.contracts.read_notes as read-notes
use Rattle.plain.proofs.read_notes.Reads as read-notes-reads
use Rattle.plain.specs.contracts.extract as extract
use Rattle.plain.proofs.extract.Reads as extract-reads

pub multiplex-met : (κs : Lfts 3) (a : ArgsD multiplex.signature κs) (r : ResD multiplex.signature κs) (e : AtExit multiplex.ended κs)
    → multiplex-reads.Learnt κs a r e → MultiplexMet a.0 a.1.0 a.1.1.0.now a.1.1.1.0.now a.1.1.1.1.0.now (answered_in r) e.1.1.0.now
multiplex-met κs a r e met = met

pub multiplex-asks-nothing : (κs : Lfts 3) (a : ArgsD multiplex.signature κs) → multiplex-reads.Asked κs a
multiplex-asks-nothing κs a = tt

pub read-notes-met : (κs : Lfts 2) (a : ArgsD read-notes.signature κs) (r : ResD read-notes.signature κs) (e : AtExit read-notes.ended κs)
    → read-notes-reads.Learnt κs a r e → ReadNotesMet a.0 a.1.0.now a.1.1.0.now (notes_read_in r) e.1.1.0.now
read-notes-met κs a r e met = met

pub read-notes-asks-nothing : (κs : Lfts 2) (a : ArgsD read-notes.signature κs) → read-notes-reads.Asked κs a
read-notes-asks-nothing κs a = tt

pub extract-met : (κs : Lfts 3) (a : ArgsD extract.signature κs) (r : ResD extract.signature κs) (e : AtExit extract.ended κs)
    → extract-reads.Learnt κs a r e → ExtractMet a.0 a.1.0 a.1.1.0.now a.1.1.1.0.now a.1.1.1.1.0.now (answered_in r) e.1.1.1.1.0.now
extract-met κs a r e met = met

pub extract-asks-nothing : (κs : Lfts 3) (a : ArgsD extract.signature κs) → extract-reads.Asked κs a
extract-asks-nothing κs a = tt
