-- The statements of the late multiplexer leave no second answer and no second slice (`..-once`), and what each function ensures is its statement
-- (`..-met`).
use contract.Lifetimes.{Lfts}
use denote.Triple.Clauses.{AtExit}
use borrow.Fn.World.{ArgsD, ResD}
use mathlib.Core.Path.{◌≡◌, sym, ◌∙◌}
use mathlib.Core.List.{List}
use Prim.Native.Nat.{ℕ}
use Rattle.levels.specs.Faults.{Counted, numbers_of}
use Rattle.workbench.specs.Bench.{LateLineMet, DelayMet}
use Rattle.workbench.specs.contracts.late_line as late_line
use Rattle.workbench.proofs.late_line.Reads as late_line-reads
use Rattle.workbench.specs.contracts.delay as delay
use Rattle.workbench.proofs.delay.Reads as delay-reads

pub late-line-once : (level earlier : ℕ) (line said notes late buffer : List ℕ) (a b : Counted) (k l m n : List ℕ)
    → LateLineMet level earlier line said notes late buffer a k m → LateLineMet level earlier line said notes late buffer b l n → (a ≡ b) × (k ≡ l) × (m ≡ n)
late-line-once level earlier line said notes late buffer a b k l m n x y = (x.0 ∙ sym y.0, x.1 ∙ sym y.1, x.2 ∙ sym y.2)

pub late-line-met : (κs : Lfts 5) (a : ArgsD late_line.signature κs) (r : ResD late_line.signature κs) (e : AtExit late_line.ended κs) → late_line-reads.Learnt κs a r e
    → LateLineMet a.0 a.1.0 a.1.1.0.now a.1.1.1.0.now a.1.1.1.1.0.now a.1.1.1.1.1.0.now a.1.1.1.1.1.1.0.now (numbers_of r)
    e.1.1.1.0.now e.1.1.0.now
late-line-met κs a r e met = met

pub delay-once : (late notes : List ℕ) (before : ℕ) (l m : List ℕ) → DelayMet late notes before l → DelayMet late notes before m → l ≡ m
delay-once late notes before l m x y = x ∙ sym y

pub delay-met : (κs : Lfts 2) (a : ArgsD delay.signature κs) (r : ResD delay.signature κs) (e : AtExit delay.ended κs) → delay-reads.Learnt κs a r e
    → DelayMet a.0.now a.1.0.now a.1.1.0 e.0.now
delay-met κs a r e met = met
