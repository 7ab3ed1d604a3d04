-- The statements of the C calls of the verdict on a worn line guard them: no second answer, what each ensures is its statement, and nothing is asked
-- (as proofs/Answers.antt for the other calls).
use mathlib.Core.Path.{◌≡◌}
use mathlib.Core.List.{List}
use Prim.Native.Nat.{ℕ}
use contract.Lifetimes.{Lfts}
use denote.Triple.Clauses.{AtExit}
use borrow.Fn.World.{ArgsD, ResD}
use Rattle.verdict.specs.Feed.{FeedMet}
use Rattle.verdict_states.specs.States.{FreshMet}
use Rattle.verdict.proofs.Answers.{feed-no-second-answer}
use Rattle.verdict_states.proofs.Answers.{fresh-no-second-answer}
use Rattle.spritbobbin.specs.contracts.verdict_face.spritbobbin_verdict_fresh as fresh
use Rattle.spritbobbin.proofs.verdict_face.spritbobbin_verdict_fresh.Reads as fresh-reads
use Rattle.spritbobbin.specs.contracts.verdict_face.spritbobbin_verdict_feed as feed
use Rattle.spritbobbin.proofs.verdict_face.spritbobbin_verdict_feed.Reads as feed-reads

pub verdict-fresh-one-answer : (level earlier pattern r s : ℕ) (made other : List ℕ) → FreshMet level earlier pattern r made → FreshMet level earlier pattern s other
    → (r ≡ s) × (made ≡ other)
verdict-fresh-one-answer = fresh-no-second-answer

pub verdict-fresh-met : (κs : Lfts 1) (a : ArgsD fresh.signature κs) (r : ResD fresh.signature κs) (e : AtExit fresh.ended κs) → fresh-reads.Learnt κs a r e
    → FreshMet a.0 a.1.0 a.1.1.0 r e.1.1.1.0.now
verdict-fresh-met κs a r e met = met

pub verdict-fresh-asks-nothing : (κs : Lfts 1) (a : ArgsD fresh.signature κs) → fresh-reads.Asked κs a
verdict-fresh-asks-nothing κs a = tt

pub verdict-feed-one-answer : (state line : List ℕ) (next : ℕ) (sent : List ℕ) (first r s : ℕ) (left other answer again : List ℕ)
    → FeedMet state line next sent first r left answer → FeedMet state line next sent first s other again → (r ≡ s) × (left ≡ other) × (answer ≡ again)
verdict-feed-one-answer = feed-no-second-answer

pub verdict-feed-met : (κs : Lfts 4) (a : ArgsD feed.signature κs) (r : ResD feed.signature κs) (e : AtExit feed.ended κs) → feed-reads.Learnt κs a r e
    → FeedMet a.0.now a.1.0.now a.1.1.0 a.1.1.1.0.now a.1.1.1.1.0 r e.0.now e.1.1.1.1.1.0.now
verdict-feed-met κs a r e met = met

pub verdict-feed-asks-nothing : (κs : Lfts 4) (a : ArgsD feed.signature κs) → feed-reads.Asked κs a
verdict-feed-asks-nothing κs a = tt
