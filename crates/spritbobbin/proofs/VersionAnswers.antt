-- The statement of the C call that answers the version guards the call: no second answer, what it ensures is its statement, and nothing is asked
-- (as proofs/Answers.antt for the other calls).
use mathlib.Core.Path.{◌≡◌, sym, ◌∙◌}
use Prim.Native.Nat.{ℕ}
use contract.Lifetimes.{Lfts}
use denote.Triple.Clauses.{AtExit}
use borrow.Fn.World.{ArgsD, ResD}
use Rattle.version.specs.Version.{VersionMet}
use Rattle.spritbobbin.specs.contracts.version_face.spritbobbin_version as version
use Rattle.spritbobbin.proofs.version_face.spritbobbin_version.Reads as version-reads

pub version-one-answer : (r s : ℕ) → VersionMet r → VersionMet s → r ≡ s
version-one-answer r s x y = x ∙ sym y

pub version-met : (κs : Lfts 0) (a : ArgsD version.signature κs) (r : ResD version.signature κs) (e : AtExit version.ended κs) → version-reads.Learnt κs a r e
    → VersionMet r
version-met κs a r e met = met

pub version-asks-nothing : (κs : Lfts 0) (a : ArgsD version.signature κs) → version-reads.Asked κs a
version-asks-nothing κs a = tt
