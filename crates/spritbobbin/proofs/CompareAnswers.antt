-- The statements of the comparisons guard the calls: no second answer, what each ensures is its statement, and nothing is asked (as proofs/Answers.antt
-- for the other calls).
use mathlib.Core.Path.{◌≡◌}
use mathlib.Core.List.{List}
use Prim.Native.Nat.{ℕ}
use contract.Lifetimes.{Lfts}
use denote.Triple.Clauses.{AtExit}
use borrow.Fn.World.{ArgsD, ResD}
use Rattle.spritbobbin.specs.Comparing.{ComparisonMet, LineComparisonMet, StretchComparisonMet}
use Rattle.spritbobbin.specs.contracts.compare_face.spritbobbin_compare as compare
use Rattle.spritbobbin.proofs.compare_face.spritbobbin_compare.Reads as compare-reads
use Rattle.spritbobbin.specs.contracts.compare_face.spritbobbin_compare_lines as lines
use Rattle.spritbobbin.proofs.compare_face.spritbobbin_compare_lines.Reads as lines-reads
use Rattle.spritbobbin.specs.contracts.compare_face.spritbobbin_compare_stretch as stretch
use Rattle.spritbobbin.proofs.compare_face.spritbobbin_compare_stretch.Reads as stretch-reads

pub compare-one-answer : (one other lent : List ℕ) (r s : ℕ) (a b l m : List ℕ) → ComparisonMet one other lent r a l → ComparisonMet one other lent s b m
    → (r ≡ s) × (a ≡ b) × (l ≡ m)
compare-one-answer one other lent r s a b l m x y = (cc, cc, cc)

pub compare-met : (κs : Lfts 4) (a : ArgsD compare.signature κs) (r : ResD compare.signature κs) (e : AtExit compare.ended κs) → compare-reads.Learnt κs a r e
    → ComparisonMet a.0.now a.1.0.now a.1.1.1.0.now r e.1.1.0.now e.1.1.1.0.now
compare-met κs a r e met = met

pub compare-asks-nothing : (κs : Lfts 4) (a : ArgsD compare.signature κs) → compare-reads.Asked κs a
compare-asks-nothing κs a = tt

pub lines-one-answer : (level : ℕ) (one other lent : List ℕ) (r s : ℕ) (a b l m : List ℕ) → LineComparisonMet level one other lent r a l
    → LineComparisonMet level one other lent s b m → (r ≡ s) × (a ≡ b) × (l ≡ m)
lines-one-answer level one other lent r s a b l m x y = (cc, cc, cc)

pub lines-met : (κs : Lfts 4) (a : ArgsD lines.signature κs) (r : ResD lines.signature κs) (e : AtExit lines.ended κs) → lines-reads.Learnt κs a r e
    → LineComparisonMet a.0 a.1.0.now a.1.1.0.now a.1.1.1.1.0.now r e.1.1.1.0.now e.1.1.1.1.0.now
lines-met κs a r e met = met

pub lines-asks-nothing : (κs : Lfts 4) (a : ArgsD lines.signature κs) → lines-reads.Asked κs a
lines-asks-nothing κs a = tt

pub stretch-one-answer : (level : ℕ) (one other : List ℕ) (first count r s : ℕ) (a b : List ℕ) → StretchComparisonMet level one other first count r a
    → StretchComparisonMet level one other first count s b → (r ≡ s) × (a ≡ b)
stretch-one-answer level one other first count r s a b x y = (cc, cc)

pub stretch-met : (κs : Lfts 3) (a : ArgsD stretch.signature κs) (r : ResD stretch.signature κs) (e : AtExit stretch.ended κs) → stretch-reads.Learnt κs a r e
    → StretchComparisonMet a.0 a.1.0.now a.1.1.0.now a.1.1.1.0 a.1.1.1.1.0 r e.1.1.1.1.1.0.now
stretch-met κs a r e met = met

pub stretch-asks-nothing : (κs : Lfts 3) (a : ArgsD stretch.signature κs) → stretch-reads.Asked κs a
stretch-asks-nothing κs a = tt
