-- The statements of the calls guard the calls. Each leaves no second answer: whatever meets it on the same input has returned the same
-- number and left the same bytes (`..-one-answer`). And each is what its call ensures, whole (`..-met`): a call whose contract said less
-- would not be proved. Nor does a call ask anything of its caller (`..-asks-nothing`).
use mathlib.Core.Path.{◌≡◌}
use mathlib.Core.List.{List}
use Prim.Native.Nat.{ℕ}
use contract.Lifetimes.{Lfts}
use denote.Triple.Clauses.{AtExit}
use borrow.Fn.World.{ArgsD, ResD}
use Rattle.spritbobbin.specs.Face.{MultiplexMet, ReadNotesMet, ExtractMet, FreshMet, FeedMet, LineDigitMet, CaptureWriteMet, CaptureReadMet, MultiframeBuildMet, MultiframeApartMet}
use Rattle.spritbobbin.specs.contracts.spritbobbin_multiplex as multiplex
use Rattle.spritbobbin.proofs.spritbobbin_multiplex.Reads as multiplex-reads
use Rattle.spritbobbin.specs.contracts.spritbobbin_read_notes as read-notes
use Rattle.spritbobbin.proofs.spritbobbin_read_notes.Reads as read-notes-reads
use Rattle.spritbobbin.specs.contracts.spritbobbin_extract as extract
use Rattle.spritbobbin.proofs.spritbobbin_extract.Reads as extract-reads
use Rattle.spritbobbin.specs.contracts.spritbobbin_receiver_fresh as fresh
use Rattle.spritbobbin.proofs.spritbobbin_receiver_fresh.Reads as fresh-reads
use Rattle.spritbobbin.specs.contracts.spritbobbin_receiver_feed as feed
use Rattle.spritbobbin.proofs.spritbobbin_receiver_feed.Reads as feed-reads
use Rattle.spritbobbin.specs.contracts.spritbobbin_line_digit as line-digit
use Rattle.spritbobbin.proofs.spritbobbin_line_digit.Reads as line-digit-reads
use Rattle.spritbobbin.specs.contracts.spritbobbin_capture_write as capture-write
use Rattle.spritbobbin.proofs.spritbobbin_capture_write.Reads as capture-write-reads
use Rattle.spritbobbin.specs.contracts.spritbobbin_capture_read as capture-read
use Rattle.spritbobbin.proofs.spritbobbin_capture_read.Reads as capture-read-reads
use Rattle.multiframe.proofs.Answers.{apart-one-answer}
use Rattle.spritbobbin.specs.contracts.spritbobbin_multiframe_build as multiframe-build
use Rattle.spritbobbin.proofs.spritbobbin_multiframe_build.Reads as multiframe-build-reads
use Rattle.spritbobbin.specs.contracts.spritbobbin_multiframe_apart as multiframe-apart
use Rattle.spritbobbin.proofs.spritbobbin_multiframe_apart.Reads as multiframe-apart-reads

-- ---- no second answer

pub multiplex-one-answer : (level earlier : ℕ) (line notes buffer : List ℕ) (r s : ℕ) (l m a b : List ℕ)
    → MultiplexMet level earlier line notes buffer r l a → MultiplexMet level earlier line notes buffer s m b → (r ≡ s) × (l ≡ m) × (a ≡ b)
multiplex-one-answer level earlier line notes buffer r s l m a b x y = (cc, cc, cc)

pub read-notes-one-answer : (level : ℕ) (line notes : List ℕ) (r s : ℕ) (n m a b : List ℕ)
    → ReadNotesMet level line notes r n a → ReadNotesMet level line notes s m b → (r ≡ s) × (n ≡ m) × (a ≡ b)
read-notes-one-answer level line notes r s n m a b x y = (cc, cc, cc)

pub extract-one-answer : (level earlier : ℕ) (line notes buffer : List ℕ) (r s : ℕ) (c d a b : List ℕ)
    → ExtractMet level earlier line notes buffer r c a → ExtractMet level earlier line notes buffer s d b → (r ≡ s) × (c ≡ d) × (a ≡ b)
extract-one-answer level earlier line notes buffer r s c d a b x y = (cc, cc, cc)

pub fresh-one-answer : (level r s : ℕ) (t u f g : List ℕ) → FreshMet level r t f → FreshMet level s u g → (r ≡ s) × (t ≡ u) × (f ≡ g)
fresh-one-answer level r s t u f g x y = (cc, cc, cc)

pub feed-one-answer : (state frame piece : List ℕ) (first count r s : ℕ) (t u f g a b : List ℕ)
    → FeedMet state frame piece first count r t f a → FeedMet state frame piece first count s u g b → (r ≡ s) × (t ≡ u) × (f ≡ g) × (a ≡ b)
feed-one-answer state frame piece first count r s t u f g a b x y = (cc, cc, cc, cc)

pub line-digit-one-answer : (line : List ℕ) (place r s : ℕ) → LineDigitMet line place r → LineDigitMet line place s → r ≡ s
line-digit-one-answer line place r s x y = cc

pub capture-write-one-answer : (level : ℕ) (line label : List ℕ) (labelled : ℕ) (file : List ℕ) (r s : ℕ) (f g a b : List ℕ)
    → CaptureWriteMet level line label labelled file r f a → CaptureWriteMet level line label labelled file s g b → (r ≡ s) × (f ≡ g) × (a ≡ b)
capture-write-one-answer level line label labelled file r s f g a b x y = (cc, cc, cc)

pub capture-read-one-answer : (file : List ℕ) (r s : ℕ) (a b : List ℕ) → CaptureReadMet file r a → CaptureReadMet file s b → (r ≡ s) × (a ≡ b)
capture-read-one-answer file r s a b x y = (cc, cc)

pub multiframe-build-one-answer : (multiframe channels signalling spare : List ℕ) (r s : ℕ) (l m a b : List ℕ)
    → MultiframeBuildMet multiframe channels signalling spare r l a → MultiframeBuildMet multiframe channels signalling spare s m b → (r ≡ s) × (l ≡ m) × (a ≡ b)
multiframe-build-one-answer multiframe channels signalling spare r s l m a b x y = (cc, cc, cc)

pub multiframe-apart-one-answer : (multiframe channels signalling spare : List ℕ) (r r' : ℕ) (c s x c' s' x' : List ℕ)
    → MultiframeApartMet multiframe channels signalling spare r c s x → MultiframeApartMet multiframe channels signalling spare r' c' s' x'
    → (r ≡ r') × (c ≡ c') × (s ≡ s') × (x ≡ x')
multiframe-apart-one-answer multiframe channels signalling spare r r' c s x c' s' x' one other =
    apart-one-answer multiframe channels signalling spare r r' c s x c' s' x' one other

-- ---- what each call ensures is its statement; a : what it is given, r : what it returns, e : what it leaves

pub multiplex-met : (κs : Lfts 4) (a : ArgsD multiplex.signature κs) (r : ResD multiplex.signature κs) (e : AtExit multiplex.ended κs)
    → multiplex-reads.Learnt κs a r e
    → MultiplexMet a.0 a.1.0 a.1.1.0.now a.1.1.1.0.now a.1.1.1.1.0.now r e.1.1.0.now e.1.1.1.1.1.0.now
multiplex-met κs a r e met = met

pub read-notes-met : (κs : Lfts 3) (a : ArgsD read-notes.signature κs) (r : ResD read-notes.signature κs) (e : AtExit read-notes.ended κs)
    → read-notes-reads.Learnt κs a r e → ReadNotesMet a.0 a.1.0.now a.1.1.0.now r e.1.1.0.now e.1.1.1.0.now
read-notes-met κs a r e met = met

pub extract-met : (κs : Lfts 4) (a : ArgsD extract.signature κs) (r : ResD extract.signature κs) (e : AtExit extract.ended κs)
    → extract-reads.Learnt κs a r e
    → ExtractMet a.0 a.1.0 a.1.1.0.now a.1.1.1.0.now a.1.1.1.1.0.now r e.1.1.1.1.0.now e.1.1.1.1.1.0.now
extract-met κs a r e met = met

pub fresh-met : (κs : Lfts 2) (a : ArgsD fresh.signature κs) (r : ResD fresh.signature κs) (e : AtExit fresh.ended κs) → fresh-reads.Learnt κs a r e
    → FreshMet a.0 r e.1.0.now e.1.1.0.now
fresh-met κs a r e met = met

pub feed-met : (κs : Lfts 4) (a : ArgsD feed.signature κs) (r : ResD feed.signature κs) (e : AtExit feed.ended κs) → feed-reads.Learnt κs a r e
    → FeedMet a.0.now a.1.0.now a.1.1.0.now a.1.1.1.0 a.1.1.1.1.0 r e.0.now e.1.0.now e.1.1.1.1.1.0.now
feed-met κs a r e met = met

pub line-digit-met : (κs : Lfts 1) (a : ArgsD line-digit.signature κs) (r : ResD line-digit.signature κs) (e : AtExit line-digit.ended κs)
    → line-digit-reads.Learnt κs a r e → LineDigitMet a.0.now a.1.0 r
line-digit-met κs a r e met = met

pub capture-write-met : (κs : Lfts 4) (a : ArgsD capture-write.signature κs) (r : ResD capture-write.signature κs) (e : AtExit capture-write.ended κs)
    → capture-write-reads.Learnt κs a r e
    → CaptureWriteMet a.0 a.1.0.now a.1.1.0.now a.1.1.1.0 a.1.1.1.1.0.now r e.1.1.1.1.0.now e.1.1.1.1.1.0.now
capture-write-met κs a r e met = met

pub capture-read-met : (κs : Lfts 2) (a : ArgsD capture-read.signature κs) (r : ResD capture-read.signature κs) (e : AtExit capture-read.ended κs)
    → capture-read-reads.Learnt κs a r e → CaptureReadMet a.0.now r e.1.0.now
capture-read-met κs a r e met = met

pub multiframe-build-met : (κs : Lfts 5) (a : ArgsD multiframe-build.signature κs) (r : ResD multiframe-build.signature κs) (e : AtExit multiframe-build.ended κs)
    → multiframe-build-reads.Learnt κs a r e
    → MultiframeBuildMet a.0.now a.1.0.now a.1.1.0.now a.1.1.1.0.now r e.0.now e.1.1.1.1.0.now
multiframe-build-met κs a r e met = met

pub multiframe-apart-met : (κs : Lfts 4) (a : ArgsD multiframe-apart.signature κs) (r : ResD multiframe-apart.signature κs) (e : AtExit multiframe-apart.ended κs)
    → multiframe-apart-reads.Learnt κs a r e
    → MultiframeApartMet a.0.now a.1.0.now a.1.1.0.now a.1.1.1.0.now r e.1.0.now e.1.1.0.now e.1.1.1.0.now
multiframe-apart-met κs a r e met = met

-- ---- no call asks anything of its caller

pub multiplex-asks-nothing : (κs : Lfts 4) (a : ArgsD multiplex.signature κs) → multiplex-reads.Asked κs a
multiplex-asks-nothing κs a = tt

pub read-notes-asks-nothing : (κs : Lfts 3) (a : ArgsD read-notes.signature κs) → read-notes-reads.Asked κs a
read-notes-asks-nothing κs a = tt

pub extract-asks-nothing : (κs : Lfts 4) (a : ArgsD extract.signature κs) → extract-reads.Asked κs a
extract-asks-nothing κs a = tt

pub fresh-asks-nothing : (κs : Lfts 2) (a : ArgsD fresh.signature κs) → fresh-reads.Asked κs a
fresh-asks-nothing κs a = tt

pub feed-asks-nothing : (κs : Lfts 4) (a : ArgsD feed.signature κs) → feed-reads.Asked κs a
feed-asks-nothing κs a = tt

pub line-digit-asks-nothing : (κs : Lfts 1) (a : ArgsD line-digit.signature κs) → line-digit-reads.Asked κs a
line-digit-asks-nothing κs a = tt

pub capture-write-asks-nothing : (κs : Lfts 4) (a : ArgsD capture-write.signature κs) → capture-write-reads.Asked κs a
capture-write-asks-nothing κs a = tt

pub capture-read-asks-nothing : (κs : Lfts 2) (a : ArgsD capture-read.signature κs) → capture-read-reads.Asked κs a
capture-read-asks-nothing κs a = tt

pub multiframe-build-asks-nothing : (κs : Lfts 5) (a : ArgsD multiframe-build.signature κs) → multiframe-build-reads.Asked κs a
multiframe-build-asks-nothing κs a = tt

pub multiframe-apart-asks-nothing : (κs : Lfts 4) (a : ArgsD multiframe-apart.signature κs) → multiframe-apart-reads.Asked κs a
multiframe-apart-asks-nothing κs a = tt
