-- `repair_on`: the two refusals in their order, or every frame repaired.
use native.Mathlib.Omega.{arith}
use mathlib.Core.Path.{refl, sym, ◌∙◌}
use Rattle.repair.proofs.Answering.{bad-line-two, bad-earlier-five, none-refused, whole-line, refused_all, repaired-all}
use Rattle.repair.proofs.repair_on.Goals as goal

pub returns-then-bad_line : goal.returns-then-bad_line
returns-then-bad_line c =
    let a = c.args in
    let all = refused_all a.row a.earlier a.line.now a.national 2 (λ z. omega arith)
    (bad-line-two a.row a.earlier a.line.now (sym c.bad_line.ensures ∙ c.if-bad_line.true)) in
    (all.0, all.1)

pub returns-then-bad_earlier : goal.returns-then-bad_earlier
returns-then-bad_earlier c =
    let a = c.args in
    let all = refused_all a.row a.earlier a.line.now a.national 5 (λ z. omega arith)
    (bad-earlier-five a.row a.earlier a.line.now (sym c.bad_line.ensures ∙ c.if-bad_line.false)
    (sym c.bad_earlier.ensures ∙ c.if-bad_earlier.true)) in
    (all.0, all.1)

pub repair_frames-requires : goal.repair_frames-requires
repair_frames-requires c =
    (whole-line c.args.row c.args.earlier c.args.line.now (sym c.bad_line.ensures ∙ c.if-bad_line.false) c.requires, refl)

pub returns : goal.returns
returns c =
    let a = c.args in
    let z = none-refused a.row a.earlier a.line.now (sym c.bad_line.ensures ∙ c.if-bad_line.false)
    (sym c.bad_earlier.ensures ∙ c.if-bad_earlier.false) in
    repaired-all a.row a.earlier a.line.now z c.repair_frames.ensures
