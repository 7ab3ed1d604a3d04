-- `fresh_on`: refused by its number, or what stands before the blocks and then the blocks.
use mathlib.Core.Path.{◌≡◌, refl, sym, ◌∙◌, ap}
use mathlib.Core.List.{List, ◌++◌}
use Prim.Native.Nat.{ℕ}
use borrow.Author.Tests.{ne_eqb}
use Rattle.std.proofs.lemmas.Result.{err_from_is_err_and}
use Rattle.refusal.proofs.Numbers.{number-some}
use Rattle.verdict_blocks.specs.Blocks.{fresh_block}
use Rattle.verdict_states.specs.States.{blocks_numbers, numbers_of, fresh_state, fresh_fault}
use Rattle.verdict_states.proofs.fresh.fresh_on.Goals as goal

pub returns-in_err-fresh_fault : goal.returns-in_err-fresh_fault
returns-in_err-fresh_fault c =
    let p = err_from_is_err_and c.from_residual.result c.from_residual.ensures.1 in
    let no = c.in_err-fresh_fault in
    rw (p.1, p.2, sym no.ensures, ne_eqb _ 0 (number-some no.field-0.0)) (refl, c.requires)

pub returns : goal.returns
unfolding numbers_of fresh_state
returns c =
    let a = c.args in
    let none : fresh_fault a.row a.earlier a.pattern ≡ 0 = sym c.in_ok-fresh_fault.ensures in
    let head = rw (c.first_vote-last.ensures, c.first_vote-other.ensures) at c.put_head.ensures.1 in (
      sym none,
      rw none (c.put_blocks.ensures ∙ ap (λ (h : List ℕ). h ++ blocks_numbers 16 (λ (b : ℕ). fresh_block a.pattern)) head),
    )
