-- `judge_on`: refused by its number, or judged.
use mathlib.Core.Path.{refl, sym}
use borrow.Author.Tests.{ne_eqb}
use Rattle.std.proofs.lemmas.Result.{err_from_is_err_and}
use Rattle.refusal.proofs.Numbers.{number-some}
use Rattle.judge.proofs.Accepted.{judgeable}
use Rattle.judge.proofs.judge_on.Goals as goal

pub returns-in_err-number_of : goal.returns-in_err-number_of
returns-in_err-number_of c =
    let p = err_from_is_err_and c.from_residual.result c.from_residual.ensures.1 in
    let no = c.in_err-number_of in
    rw (p.1, p.2, sym no.ensures, ne_eqb _ 0 (number-some no.field-0.0)) refl

pub judge_frames-requires : goal.judge_frames-requires
judge_frames-requires c = judgeable _ c.requires _ _ _ _ (sym c.in_ok-number_of.ensures)

pub returns : goal.returns
returns c = let z = sym c.in_ok-number_of.ensures in rw z c.judge_frames.ensures
