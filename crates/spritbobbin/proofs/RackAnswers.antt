-- The rack's calls in the C face ensure the statements of the rack (crate rack, specs/Rack.antt), and ask nothing of their caller. That these
-- statements leave no second answer is a theorem of the rack (its proofs/Answers.antt).
use mathlib.Core.Path.{◌≡◌, refl}
use seplogic.Ra.Ura.{Ura}
use base.Logic.{SProp, emp}
use prog.Memory.{Memory}
use prog.Routine.{Routine}
use types.Logic.{Logic}
use contract.Lifetimes.{Lfts}
use contract.Monad.{Fun, fact}
use denote.Triple.Clauses.{AtExit}
use borrow.Fn.World.{ArgsD, ResD}
use Rattle.rack.specs.Rack.{FeedMet, ResetMet, AlignedMet}
use Rattle.spritbobbin.specs.contracts.rack_face.spritbobbin_rack_feed as feed
use Rattle.spritbobbin.specs.contracts.rack_face.spritbobbin_rack_reset as reset
use Rattle.spritbobbin.specs.contracts.rack_face.spritbobbin_rack_aligned as aligned

-- a : what the call is given, r : what it returns, e : what it leaves
module _ {M : Type 1} {𝓤 : Ura M} (𝓛 : Logic 𝓤) (mem : Memory → SProp 𝓤) (run : Routine → Fun 𝓤) where
  pub rack-feed-met : (κs : Lfts 3) (a : ArgsD feed.signature κs) (r : ResD feed.signature κs) (e : AtExit feed.ended κs)
      → (feed.clauses 𝓛 mem run κs a).ensures tt r e
      ≡ fact 𝓤 (FeedMet a.0.now a.1.0 a.1.1.0.now a.1.1.1.0 a.1.1.1.1.0 r e.0.now e.1.1.1.1.1.0.now)
  rack-feed-met κs a r e = refl

  pub rack-reset-met : (κs : Lfts 1) (a : ArgsD reset.signature κs) (r : ResD reset.signature κs) (e : AtExit reset.ended κs)
      → (reset.clauses 𝓛 mem run κs a).ensures tt r e ≡ fact 𝓤 (ResetMet a.0.now a.1.0 a.1.1.0 r e.0.now)
  rack-reset-met κs a r e = refl

  pub rack-aligned-met : (κs : Lfts 2) (a : ArgsD aligned.signature κs) (r : ResD aligned.signature κs) (e : AtExit aligned.ended κs)
      → (aligned.clauses 𝓛 mem run κs a).ensures tt r e ≡ fact 𝓤 (AlignedMet a.0.now r e.1.0.now)
  rack-aligned-met κs a r e = refl

  pub rack-feed-asks-nothing : (κs : Lfts 3) (a : ArgsD feed.signature κs) → (feed.clauses 𝓛 mem run κs a).requires tt ≡ emp 𝓤
  rack-feed-asks-nothing κs a = refl

  pub rack-reset-asks-nothing : (κs : Lfts 1) (a : ArgsD reset.signature κs) → (reset.clauses 𝓛 mem run κs a).requires tt ≡ emp 𝓤
  rack-reset-asks-nothing κs a = refl

  pub rack-aligned-asks-nothing : (κs : Lfts 2) (a : ArgsD aligned.signature κs) → (aligned.clauses 𝓛 mem run κs a).requires tt ≡ emp 𝓤
  rack-aligned-asks-nothing κs a = refl
