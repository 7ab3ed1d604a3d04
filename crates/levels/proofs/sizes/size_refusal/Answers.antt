-- `size_refusal` is `size_refusal`: each return rewrites with the tests that lead to it.
use mathlib.Core.Path.{refl, sym, ◌∙◌}
use borrow.Author.Tests.{ne_eqb}
use Rattle.std.proofs.lemmas.Result.{err_from_is_err_and}
use Rattle.refusal.proofs.Numbers.{number-some}
use Rattle.levels.specs.Sizes.{size_refusal}
use Rattle.levels.proofs.Judged.{framed}
use Rattle.levels.proofs.sizes.size_refusal.Goals as goal

pub returns-in_err-frames_refusal : goal.returns-in_err-frames_refusal
unfolding size_refusal
returns-in_err-frames_refusal c =
    let p = err_from_is_err_and c.from_residual.result c.from_residual.ensures.1 in
    let no = c.in_err-frames_refusal.field-0.0 in
    rw (p.1, p.2, sym c.in_err-frames_refusal.ensures, ne_eqb _ 0 (number-some no)) refl

pub bad_buffer-requires : goal.bad_buffer-requires
bad_buffer-requires c =
    (c.requires.0, (framed _ _ _ (sym c.in_ok-frames_refusal.ensures)).few, c.requires.1)

pub returns-then-bad_buffer : goal.returns-then-bad_buffer
unfolding size_refusal
returns-then-bad_buffer c = rw (sym c.in_ok-frames_refusal.ensures, sym c.bad_buffer.ensures ∙ c.if-bad_buffer.true)

pub returns : goal.returns
unfolding size_refusal
returns c = rw (sym c.in_ok-frames_refusal.ensures, sym c.bad_buffer.ensures ∙ c.if-bad_buffer.false)
