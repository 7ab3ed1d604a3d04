-- `read_notes_on` answers what reading the frames leaves, or the refusal of the lengths with the notes as they were.
use native.Mathlib.Omega.{arith}
use mathlib.Core.Path.{refl, sym}
use lib.ListN.{length}
use borrow.Author.Tests.{eq-eqb, ne_eqb}
use Rattle.std.proofs.lemmas.Result.{err_from_is_err_and}
use Rattle.refusal.proofs.Numbers.{number-some}
use Rattle.levels.specs.Sizes.{frames_refusal}
use Rattle.levels.proofs.Judged.{framed}
use Rattle.reading.proofs.read_notes_on.Goals as goal

pub returns-in_err-frames_refusal : goal.returns-in_err-frames_refusal
returns-in_err-frames_refusal c =
    let p = err_from_is_err_and c.from_residual.result c.from_residual.ensures.1 in
    let no = c.in_err-frames_refusal in
    rw (p.1, p.2, sym no.ensures, ne_eqb _ 0 (number-some no.field-0.0)) (refl, refl)

pub read_frames-errors-requires : goal.read_frames-errors-requires
read_frames-errors-requires c =
    let a = c.args in
    let ok = framed a.row (length a.line.now) (length a.notes.now) (sym c.in_ok-frames_refusal.ensures) in
    (c.requires, rw ok.noted ok.frames, omega (arith, ok.noted, ok.few))

pub returns : goal.returns
returns c =
    let a = c.args in
    let z = sym c.in_ok-frames_refusal.ensures in
    rw (eq-eqb (frames_refusal a.row (length a.line.now) (length a.notes.now)) 0 z) c.read_frames-errors.ensures
