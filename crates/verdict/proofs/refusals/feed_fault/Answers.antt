-- `feed_fault`: 6, 2, 4, 5.
use mathlib.Core.Path.{◌≡◌, sym, ◌∙◌}
use mathlib.Core.Bool.{true, false, ◌&&◌, not}
use Prim.Native.Nat.{◌%◌}
use lib.Dec.{eqb}
use lib.ListN.{get_or}
use borrow.Author.Tests.{lt-ltb, le-ltb}
use Rattle.levels.specs.Sizes.{bad_line}
use Rattle.verdict.specs.Feed.{feed_fault}
use Rattle.verdict_states.specs.States.{state_from, is_valid}
use Rattle.verdict.proofs.refusals.feed_fault.Goals as goal

pub returns-then-not-is_valid : goal.returns-then-not-is_valid
unfolding feed_fault
returns-then-not-is_valid c =
    let a = c.args in
    let one : is_valid (state_from a.state.now) ≡ false = sym c.is_valid.ensures ∙ c.if-not-is_valid.true in
    rw one

pub returns-then-bad_line : goal.returns-then-bad_line
unfolding feed_fault
returns-then-bad_line c =
    let a = c.args in
    let one : is_valid (state_from a.state.now) ≡ true = sym c.is_valid.ensures ∙ c.if-not-is_valid.false in
    let two : bad_line a.row a.line ≡ true = sym c.bad_line.ensures ∙ c.if-bad_line.true in
    rw (one, two)

pub returns-then-bad_sent : goal.returns-then-bad_sent
unfolding feed_fault state_from
returns-then-bad_sent c =
    let a = c.args in
    let one : is_valid (state_from a.state.now) ≡ true = sym c.is_valid.ensures ∙ c.if-not-is_valid.false in
    let two : bad_line a.row a.line ≡ false = sym c.bad_line.ensures ∙ c.if-bad_line.false in
    let three : (eqb (get_or a.state.now 1 0) 0 && not (eqb (a.sent % 4) 0)) ≡ true = sym c.bad_sent.ensures ∙ c.if-bad_sent.true in
    rw (one, two, three)

pub returns-then-next-gt16 : goal.returns-then-next-gt16
unfolding feed_fault state_from
returns-then-next-gt16 c =
    let a = c.args in
    let one : is_valid (state_from a.state.now) ≡ true = sym c.is_valid.ensures ∙ c.if-not-is_valid.false in
    let two : bad_line a.row a.line ≡ false = sym c.bad_line.ensures ∙ c.if-bad_line.false in
    let three : (eqb (get_or a.state.now 1 0) 0 && not (eqb (a.sent % 4) 0)) ≡ false = sym c.bad_sent.ensures ∙ c.if-bad_sent.false in
    rw (one, two, three, lt-ltb 16 a.next c.if-next-gt16.true)

pub returns-else-next-gt16 : goal.returns-else-next-gt16
unfolding feed_fault state_from
returns-else-next-gt16 c =
    let a = c.args in
    let one : is_valid (state_from a.state.now) ≡ true = sym c.is_valid.ensures ∙ c.if-not-is_valid.false in
    let two : bad_line a.row a.line ≡ false = sym c.bad_line.ensures ∙ c.if-bad_line.false in
    let three : (eqb (get_or a.state.now 1 0) 0 && not (eqb (a.sent % 4) 0)) ≡ false = sym c.bad_sent.ensures ∙ c.if-bad_sent.false in
    rw (one, two, three, le-ltb 16 a.next c.if-next-gt16.false)
