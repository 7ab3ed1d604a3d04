-- The statements of the functions guard the functions. Each leaves no second answer: whatever meets it on the same input is the same step,
-- digit or reader (`..-one-answer`). And each is what its function ensures, whole (`..-met`): one whose contract said less would not be
-- proved. Nor does a function ask anything of its caller (`..-asks-nothing`). Of `new` and `next`, whose
-- struct holds a reference, what they ask and ensure is read from their clauses, in any model of the logic, and not from a summary of them.
use mathlib.Core.Path.{◌≡◌, refl}
use mathlib.Core.List.{List}
use Prim.Native.Nat.{ℕ}
use seplogic.Ra.Ura.{Ura}
use base.Logic.{SProp, emp}
use prog.Memory.{Memory}
use prog.Routine.{Routine}
use types.Logic.{Logic}
use contract.Monad.{Fun, fact}
use contract.Lifetimes.{Lfts}
use denote.Ref.{Bor}
use denote.Triple.Clauses.{AtExit}
use borrow.Fn.World.{ArgsD, ResD}
use Rattle.line_reader.specs.declared.LineReader.{LineReader}
use Rattle.line_reader.specs.declared.Step.{Step}
use Rattle.line_reader.specs.Step.{StepMet, NewMet, NextMet, DigitMet}
use Rattle.line_reader.specs.contracts.step_at as step-at
use Rattle.line_reader.proofs.step_at.Reads as step-at-reads
use Rattle.line_reader.specs.contracts.new as new
use Rattle.line_reader.specs.contracts.next as next
use Rattle.line_reader.specs.contracts.line_digit as line-digit
use Rattle.line_reader.proofs.line_digit.Reads as line-digit-reads

-- ---- no second answer

pub step-at-one-answer : (line : List ℕ) (place : ℕ) (a b : Step) → StepMet line place a → StepMet line place b → a ≡ b
step-at-one-answer line place a b x y = cc

pub new-one-answer : (line : Bor (List ℕ)) (place : ℕ) (a b : LineReader) → NewMet line place a → NewMet line place b → a ≡ b
new-one-answer line place a b x y = cc

pub next-one-answer : (r a b : LineReader) (s t : Step) → NextMet r s a → NextMet r t b → (s ≡ t) × (a ≡ b)
next-one-answer r a b s t x y = (cc, cc)

pub line-digit-one-answer : (line : List ℕ) (place a b : ℕ) → DigitMet line place a → DigitMet line place b → a ≡ b
line-digit-one-answer line place a b x y = cc

-- ---- what each function ensures is its statement, and it asks nothing; a : what it is given, r : what it answers, e : what it leaves

pub step-at-met : (κs : Lfts 1) (a : ArgsD step-at.signature κs) (r : ResD step-at.signature κs) (e : AtExit step-at.ended κs)
    → step-at-reads.Learnt κs a r e → StepMet a.0.now a.1.0 r
step-at-met κs a r e met = met

pub line-digit-met : (κs : Lfts 1) (a : ArgsD line-digit.signature κs) (r : ResD line-digit.signature κs) (e : AtExit line-digit.ended κs)
    → line-digit-reads.Learnt κs a r e → DigitMet a.0.now a.1.0 r
line-digit-met κs a r e met = met

pub step-at-asks-nothing : (κs : Lfts 1) (a : ArgsD step-at.signature κs) → step-at-reads.Asked κs a
step-at-asks-nothing κs a = tt

pub line-digit-asks-nothing : (κs : Lfts 1) (a : ArgsD line-digit.signature κs) → line-digit-reads.Asked κs a
line-digit-asks-nothing κs a = tt

module _ {M : Type 1} {𝓤 : Ura M} (𝓛 : Logic 𝓤) (mem : Memory → SProp 𝓤) (run : Routine → Fun 𝓤) where
  pub new-met : (κs : Lfts 1) (a : ArgsD new.signature κs) (r : ResD new.signature κs) (e : AtExit new.ended κs)
      → (new.clauses 𝓛 mem run κs a).ensures tt r e ≡ fact 𝓤 (NewMet a.0 a.1.0 r)
  new-met κs a r e = refl

  pub next-met : (κs : Lfts 2) (a : ArgsD next.signature κs) (r : ResD next.signature κs) (e : AtExit next.ended κs)
      → (next.clauses 𝓛 mem run κs a).ensures tt r e ≡ fact 𝓤 (NextMet a.0.now r e.0.now)
  next-met κs a r e = refl

  pub new-asks-nothing : (κs : Lfts 1) (a : ArgsD new.signature κs) → (new.clauses 𝓛 mem run κs a).requires tt ≡ emp 𝓤
  new-asks-nothing κs a = refl

  pub next-asks-nothing : (κs : Lfts 2) (a : ArgsD next.signature κs) → (next.clauses 𝓛 mem run κs a).requires tt ≡ emp 𝓤
  next-asks-nothing κs a = refl
