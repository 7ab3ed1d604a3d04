-- No second answer: whatever meets the statement of a call is the one answer.
use mathlib.Core.Path.{◌≡◌, sym, ◌∙◌}
use mathlib.Core.List.{List}
use Prim.Native.Nat.{ℕ}
use contract.Lifetimes.{Lfts}
use denote.Triple.Clauses.{AtExit}
use borrow.Fn.World.{ArgsD, ResD}
use Rattle.refusal.specs.Refusal.{refusal_in}
use Rattle.verdict.specs.Feed.{FeedMet}
use Rattle.verdict.specs.contracts.feeding.feed as feed
use Rattle.verdict.proofs.feeding.feed.Reads as feed-reads

pub feed-no-second-answer : (state line : List ℕ) (next : ℕ) (sent : List ℕ) (first r s : ℕ) (left other answer again : List ℕ)
    → FeedMet state line next sent first r left answer → FeedMet state line next sent first s other again → (r ≡ s) × (left ≡ other) × (answer ≡ again)
feed-no-second-answer state line next sent first r s left other answer again p q =
    (p.number ∙ sym q.number, p.leaves ∙ sym q.leaves, p.answers ∙ sym q.answers)

pub feed-met : (κs : Lfts 4) (a : ArgsD feed.signature κs) (r : ResD feed.signature κs) (e : AtExit feed.ended κs) → feed-reads.Learnt κs a r e
    → FeedMet a.0.now a.1.0.now a.1.1.0 a.1.1.1.0.now a.1.1.1.1.0 (refusal_in r) e.0.now e.1.1.1.1.1.0.now
feed-met κs a r e met = met

pub feed-asks-nothing : (κs : Lfts 4) (a : ArgsD feed.signature κs) → feed-reads.Asked κs a
feed-asks-nothing κs a = tt
