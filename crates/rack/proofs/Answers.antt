-- The three calls and their whole statements (specs/Rack.antt): each leaves no second answer and no second list, what the function ensures is that
-- statement, and it asks nothing of its caller.
use mathlib.Core.Path.{◌≡◌, refl}
use mathlib.Core.List.{List}
use Prim.Native.Nat.{ℕ}
use seplogic.Ra.Ura.{Ura}
use base.Logic.{SProp, emp}
use prog.Memory.{Memory}
use prog.Routine.{Routine}
use types.Logic.{Logic}
use contract.Lifetimes.{Lfts}
use contract.Monad.{Fun, fact}
use denote.Triple.Clauses.{AtExit}
use borrow.Fn.World.{ArgsD, ResD}
use Rattle.records.specs.declared.record.Record.{Record}
use Rattle.rack.specs.Rack.{FeedMet, ResetMet, AlignedMet}
use Rattle.rack.specs.contracts.feed as feed
use Rattle.rack.specs.contracts.reset as reset
use Rattle.rack.specs.contracts.aligned as aligned

-- ---- no second answer

pub feed-one-answer : (records : List Record) (line : ℕ) (piece : List ℕ) (first count r s : ℕ) (x y : List Record) (a b : List ℕ)
    → FeedMet records line piece first count r x a → FeedMet records line piece first count s y b → (r ≡ s) × (x ≡ y) × (a ≡ b)
feed-one-answer records line piece first count r s x y a b one other = (cc, cc, cc)

pub reset-one-answer : (records : List Record) (line level r s : ℕ) (x y : List Record)
    → ResetMet records line level r x → ResetMet records line level s y → (r ≡ s) × (x ≡ y)
reset-one-answer records line level r s x y one other = (cc, cc)

pub aligned-one-answer : (records : List Record) (r s : ℕ) (a b : List ℕ) → AlignedMet records r a → AlignedMet records s b → (r ≡ s) × (a ≡ b)
aligned-one-answer records r s a b one other = (cc, cc)

-- ---- what each call ensures is its statement, and it asks nothing; a : what it is given, r : what it returns, e : what it leaves

module _ {M : Type 1} {𝓤 : Ura M} (𝓛 : Logic 𝓤) (mem : Memory → SProp 𝓤) (run : Routine → Fun 𝓤) where
  pub feed-met : (κs : Lfts 3) (a : ArgsD feed.signature κs) (r : ResD feed.signature κs) (e : AtExit feed.ended κs)
      → (feed.clauses 𝓛 mem run κs a).ensures tt r e
      ≡ fact 𝓤 (FeedMet a.0.now a.1.0 a.1.1.0.now a.1.1.1.0 a.1.1.1.1.0 r e.0.now e.1.1.1.1.1.0.now)
  feed-met κs a r e = refl

  pub reset-met : (κs : Lfts 1) (a : ArgsD reset.signature κs) (r : ResD reset.signature κs) (e : AtExit reset.ended κs)
      → (reset.clauses 𝓛 mem run κs a).ensures tt r e ≡ fact 𝓤 (ResetMet a.0.now a.1.0 a.1.1.0 r e.0.now)
  reset-met κs a r e = refl

  pub aligned-met : (κs : Lfts 2) (a : ArgsD aligned.signature κs) (r : ResD aligned.signature κs) (e : AtExit aligned.ended κs)
      → (aligned.clauses 𝓛 mem run κs a).ensures tt r e ≡ fact 𝓤 (AlignedMet a.0.now r e.1.0.now)
  aligned-met κs a r e = refl

  pub feed-asks-nothing : (κs : Lfts 3) (a : ArgsD feed.signature κs) → (feed.clauses 𝓛 mem run κs a).requires tt ≡ emp 𝓤
  feed-asks-nothing κs a = refl

  pub reset-asks-nothing : (κs : Lfts 1) (a : ArgsD reset.signature κs) → (reset.clauses 𝓛 mem run κs a).requires tt ≡ emp 𝓤
  reset-asks-nothing κs a = refl

  pub aligned-asks-nothing : (κs : Lfts 2) (a : ArgsD aligned.signature κs) → (aligned.clauses 𝓛 mem run κs a).requires tt ≡ emp 𝓤
  aligned-asks-nothing κs a = refl
