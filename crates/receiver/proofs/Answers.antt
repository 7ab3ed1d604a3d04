-- The two calls and their whole statements (specs/Feed.antt): each leaves no second answer, what the function
-- ensures is that statement, and it asks nothing of its caller.
use mathlib.Core.Path.{◌≡◌, sym, ◌∙◌}
use mathlib.Core.List.{List}
use Prim.Native.Nat.{ℕ}
use contract.Lifetimes.{Lfts}
use denote.Triple.Clauses.{AtExit}
use borrow.Fn.World.{ArgsD, ResD}
use Rattle.receiver.specs.declared.State.{State}
use Rattle.receiver.specs.declared.Made.{Made}
use Rattle.receiver.specs.declared.Fed.{Fed}
use Rattle.receiver.specs.Feed.{FreshMet, FeedMet}
use Rattle.receiver.specs.contracts.fresh as fresh
use Rattle.receiver.proofs.fresh.Reads as fresh-reads
use Rattle.receiver.specs.contracts.feed as feed
use Rattle.receiver.proofs.feed.Reads as feed-reads

-- ---- a fresh state

pub fresh-one-answer : (level : ℕ) (a b : Made) → FreshMet level a → FreshMet level b → a ≡ b
fresh-one-answer level a b x y = x ∙ sym y

pub fresh-met : (κs : Lfts 0) (a : ArgsD fresh.signature κs) (r : ResD fresh.signature κs) (e : AtExit fresh.ended κs)
    → fresh-reads.Learnt κs a r e → FreshMet a.0 r
fresh-met κs a r e met = met

pub fresh-asks-nothing : (κs : Lfts 0) (a : ArgsD fresh.signature κs) → fresh-reads.Asked κs a
fresh-asks-nothing κs a = tt

-- ---- a piece

pub feed-one-answer : (s : State) (slice : List ℕ) (first count : ℕ) (a b : Fed)
    → FeedMet s slice first count a → FeedMet s slice first count b → a ≡ b
feed-one-answer s slice first count a b x y = x ∙ sym y

pub feed-met : (κs : Lfts 1) (a : ArgsD feed.signature κs) (r : ResD feed.signature κs) (e : AtExit feed.ended κs)
    → feed-reads.Learnt κs a r e → FeedMet a.0 a.1.0.now a.1.1.0 a.1.1.1.0 r
feed-met κs a r e met = met

pub feed-asks-nothing : (κs : Lfts 1) (a : ArgsD feed.signature κs) → feed-reads.Asked κs a
feed-asks-nothing κs a = tt
