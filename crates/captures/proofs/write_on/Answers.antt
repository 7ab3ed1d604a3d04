-- Refused, or written (Judging).
use mathlib.Core.Path.{◌≡◌, sym, ◌∙◌, ap}
use lib.ListN.{length}
use Rattle.std.proofs.lemmas.Result.{err_from_is_err_and}
use Rattle.refusal.proofs.Numbers.{number-some}
use Rattle.captures.specs.Captures.{unwritten, write_refusal}
use Rattle.captures.proofs.Judging.{refused-on, written_on_lem, judged-good, short-enough, short-label}
use Rattle.captures.proofs.write_on.Goals as goal

pub returns-in_err-write_refusal : goal.returns-in_err-write_refusal
returns-in_err-write_refusal c =
    let p = err_from_is_err_and c.from_residual.result c.from_residual.ensures.1 in
    let no = c.in_err-write_refusal in
    let a = c.args in
    let both = refused-on a.row a.level a.line.now a.label.now a.labelled a.file.now (λ z. number-some no.field-0.0 (no.ensures ∙ z)) in
    rw (p.1, p.2) (ap unwritten no.ensures ∙ both.0, both.1)

pub put_fields-bytes-requires : goal.put_fields-bytes-requires
put_fields-bytes-requires c =
    let accepted : let a = c.args in write_refusal a.row a.level a.line.now a.label.now a.labelled (length a.file.now) ≡ 0 = sym c.in_ok-write_refusal.ensures in
    let a = c.args in
    let ok = judged-good a.row a.level a.line.now a.label.now a.labelled a.file.now (accepted) in
    (short-enough a.row c.requires.0 _ ok.line_good, short-label a.labelled a.label.now ok.label_short, ok.room)

pub returns : goal.returns
returns c =
    let accepted : let a = c.args in write_refusal a.row a.level a.line.now a.label.now a.labelled (length a.file.now) ≡ 0 = sym c.in_ok-write_refusal.ensures in
    let put = c.put_fields-bytes in
    let a = c.args in
    let both = written_on_lem a.row a.level a.line.now a.label.now a.labelled a.file.now (accepted) _ put.ensures.1 in
    (rw put.ensures.0 both.0, both.1)
