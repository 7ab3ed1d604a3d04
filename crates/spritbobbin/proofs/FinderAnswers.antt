-- The statements of the finder's calls guard the calls: no second answer, what each ensures is its statement, and nothing is asked
-- (as proofs/Answers.antt for the other calls).
use mathlib.Core.Path.{◌≡◌}
use mathlib.Core.List.{List}
use Prim.Native.Nat.{ℕ}
use contract.Lifetimes.{Lfts}
use denote.Triple.Clauses.{AtExit}
use borrow.Fn.World.{ArgsD, ResD}
use Rattle.spritbobbin.specs.Finding.{FinderFreshMet, FinderFeedMet}
use Rattle.spritbobbin.specs.contracts.finder_face.spritbobbin_finder_fresh as fresh
use Rattle.spritbobbin.proofs.finder_face.spritbobbin_finder_fresh.Reads as fresh-reads
use Rattle.spritbobbin.specs.contracts.finder_face.spritbobbin_finder_feed as feed
use Rattle.spritbobbin.proofs.finder_face.spritbobbin_finder_feed.Reads as feed-reads

pub finder-fresh-one-answer : (r s : ℕ) (t u : List ℕ) → FinderFreshMet r t → FinderFreshMet s u → (r ≡ s) × (t ≡ u)
finder-fresh-one-answer r s t u x y = (cc, cc)

pub finder-feed-one-answer : (state piece : List ℕ) (first count r s : ℕ) (t u a b : List ℕ)
    → FinderFeedMet state piece first count r t a → FinderFeedMet state piece first count s u b → (r ≡ s) × (t ≡ u) × (a ≡ b)
finder-feed-one-answer state piece first count r s t u a b x y = (cc, cc, cc)

pub finder-fresh-met : (κs : Lfts 1) (a : ArgsD fresh.signature κs) (r : ResD fresh.signature κs) (e : AtExit fresh.ended κs) → fresh-reads.Learnt κs a r e
    → FinderFreshMet r e.0.now
finder-fresh-met κs a r e met = met

pub finder-feed-met : (κs : Lfts 3) (a : ArgsD feed.signature κs) (r : ResD feed.signature κs) (e : AtExit feed.ended κs) → feed-reads.Learnt κs a r e
    → FinderFeedMet a.0.now a.1.0.now a.1.1.0 a.1.1.1.0 r e.0.now e.1.1.1.1.0.now
finder-feed-met κs a r e met = met

pub finder-fresh-asks-nothing : (κs : Lfts 1) (a : ArgsD fresh.signature κs) → fresh-reads.Asked κs a
finder-fresh-asks-nothing κs a = tt

pub finder-feed-asks-nothing : (κs : Lfts 3) (a : ArgsD feed.signature κs) → feed-reads.Asked κs a
finder-feed-asks-nothing κs a = tt
