-- `feed_on`: refused by its number, or fed and told.
use mathlib.Core.Path.{refl, sym, ◌∙◌, ap}
use lib.ListN.{length}
use borrow.Author.Tests.{ne_eqb}
use Rattle.std.proofs.lemmas.Result.{err_from_is_err_and}
use Rattle.refusal.proofs.Numbers.{number-some}
use Rattle.verdict.specs.Feed.{lent_to}
use Rattle.verdict.proofs.Unrefused.{feedable, after-low, after-told}
use Rattle.verdict.proofs.feeding.feed_on.Goals as goal

pub returns-in_err-feed_fault : goal.returns-in_err-feed_fault
returns-in_err-feed_fault c =
    let p = err_from_is_err_and c.from_residual.result c.from_residual.ensures.1 in
    let no = c.in_err-feed_fault in
    rw (p.1, p.2, sym no.ensures, ne_eqb _ 0 (number-some no.field-0.0)) (refl, refl, c.requires.2)

pub feed_frames-requires : goal.feed_frames-requires
feed_frames-requires c =
    let p = c.requires in
    let a = c.args in
    feedable a.row p.0 a.state.now (length a.line.now) a.next (length a.sent.now) p.1 (sym c.in_ok-feed_fault.ensures)

pub tell_all-requires : goal.tell_all-requires
tell_all-requires c =
    let p = c.requires in
    let a = c.args in
    let none = sym c.in_ok-feed_fault.ensures in
    let ok = feedable a.row p.0 a.state.now (length a.line.now) a.next (length a.sent.now) p.1 none in (
      c.feed_frames.auto.state ∙ p.1,
      after-low a.row a.state.now a.line.now a.next (lent_to a.sent.now a.first) ok c.feed_frames.new.state c.feed_frames.ensures,
      ap length p.2,
    )

pub shape_of-state : goal.shape_of-state
shape_of-state c = c.feed_frames.auto.state

pub shape_of-answer : goal.shape_of-answer
shape_of-answer c = c.tell_all.auto.out

pub returns : goal.returns
returns c =
    let p = c.requires in
    let a = c.args in
    let none = sym c.in_ok-feed_fault.ensures in
    let ok = feedable a.row p.0 a.state.now (length a.line.now) a.next (length a.sent.now) p.1 none in (
      sym none,
      rw none c.feed_frames.ensures,
      rw none
          (c.tell_all.ensures
          ∙ after-told a.row a.state.now a.line.now a.next (lent_to a.sent.now a.first) ok c.feed_frames.new.state c.feed_frames.ensures),
    )
