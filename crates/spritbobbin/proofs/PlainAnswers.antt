-- The statements of the plain engine's calls guard the calls: no second answer, what each ensures is its statement, and nothing is asked
-- (as proofs/Answers.antt for the other calls).
use mathlib.Core.Path.{◌≡◌}
use mathlib.Core.List.{List}
use Prim.Native.Nat.{ℕ}
use contract.Lifetimes.{Lfts}
use denote.Triple.Clauses.{AtExit}
use borrow.Fn.World.{ArgsD, ResD}
use Rattle.spritbobbin.specs.PlainFace.{PlainMultiplexMet, PlainReadNotesMet, PlainExtractMet}
use Rattle.spritbobbin.specs.contracts.plain_face.spritbobbin_plain_multiplex as multiplex
use Rattle.spritbobbin.proofs.plain_face.spritbobbin_plain_multiplex.Reads as multiplex-reads
use Rattle.spritbobbin.specs.contracts.plain_face.spritbobbin_plain_read_notes as read-notes
use Rattle.spritbobbin.proofs.plain_face.spritbobbin_plain_read_notes.Reads as read-notes-reads
use Rattle.spritbobbin.specs.contracts.plain_face.spritbobbin_plain_extract as extract
use Rattle.spritbobbin.proofs.plain_face.spritbobbin_plain_extract.Reads as extract-reads

pub plain-multiplex-one-answer : (level earlier : ℕ) (line notes buffer : List ℕ) (r s : ℕ) (l m a b : List ℕ)
    → PlainMultiplexMet level earlier line notes buffer r l a → PlainMultiplexMet level earlier line notes buffer s m b → (r ≡ s) × (l ≡ m) × (a ≡ b)
plain-multiplex-one-answer level earlier line notes buffer r s l m a b x y = (cc, cc, cc)

pub plain-read-notes-one-answer : (level : ℕ) (line notes : List ℕ) (r s : ℕ) (l m a b : List ℕ)
    → PlainReadNotesMet level line notes r l a → PlainReadNotesMet level line notes s m b → (r ≡ s) × (l ≡ m) × (a ≡ b)
plain-read-notes-one-answer level line notes r s l m a b x y = (cc, cc, cc)

pub plain-extract-one-answer : (level earlier : ℕ) (line notes buffer : List ℕ) (r s : ℕ) (l m a b : List ℕ)
    → PlainExtractMet level earlier line notes buffer r l a → PlainExtractMet level earlier line notes buffer s m b → (r ≡ s) × (l ≡ m) × (a ≡ b)
plain-extract-one-answer level earlier line notes buffer r s l m a b x y = (cc, cc, cc)

pub plain-multiplex-met : (κs : Lfts 4) (a : ArgsD multiplex.signature κs) (r : ResD multiplex.signature κs) (e : AtExit multiplex.ended κs)
    → multiplex-reads.Learnt κs a r e
    → PlainMultiplexMet a.0 a.1.0 a.1.1.0.now a.1.1.1.0.now a.1.1.1.1.0.now r e.1.1.0.now e.1.1.1.1.1.0.now
plain-multiplex-met κs a r e met = met

pub plain-read-notes-met : (κs : Lfts 3) (a : ArgsD read-notes.signature κs) (r : ResD read-notes.signature κs) (e : AtExit read-notes.ended κs)
    → read-notes-reads.Learnt κs a r e → PlainReadNotesMet a.0 a.1.0.now a.1.1.0.now r e.1.1.0.now e.1.1.1.0.now
plain-read-notes-met κs a r e met = met

pub plain-extract-met : (κs : Lfts 4) (a : ArgsD extract.signature κs) (r : ResD extract.signature κs) (e : AtExit extract.ended κs)
    → extract-reads.Learnt κs a r e
    → PlainExtractMet a.0 a.1.0 a.1.1.0.now a.1.1.1.0.now a.1.1.1.1.0.now r e.1.1.1.1.0.now e.1.1.1.1.1.0.now
plain-extract-met κs a r e met = met

pub plain-multiplex-asks-nothing : (κs : Lfts 4) (a : ArgsD multiplex.signature κs) → multiplex-reads.Asked κs a
plain-multiplex-asks-nothing κs a = tt

pub plain-read-notes-asks-nothing : (κs : Lfts 3) (a : ArgsD read-notes.signature κs) → read-notes-reads.Asked κs a
plain-read-notes-asks-nothing κs a = tt

pub plain-extract-asks-nothing : (κs : Lfts 4) (a : ArgsD extract.signature κs) → extract-reads.Asked κs a
plain-extract-asks-nothing κs a = tt
