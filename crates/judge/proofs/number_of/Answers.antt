-- `number_of` is `number_of`: each return rewrites with the tests that lead to it. What a test that is passed says is said once, for the returns behind it.
use mathlib.Core.Path.{◌≡◌, sym, ◌∙◌}
use mathlib.Core.Bool.{false, ◌&&◌}
use lib.Dec.{eqb}
use Rattle.levels.specs.Sizes.{bad_line, bad_buffer}
use Rattle.levels.proofs.Judged.{line-frames}
use Rattle.judge.specs.Verdict.{bad_pattern, number_of}
use Rattle.judge.proofs.number_of.Goals as goal

pub returns-then-bad_pattern : goal.returns-then-bad_pattern
unfolding number_of
returns-then-bad_pattern c = rw (sym c.bad_pattern.ensures ∙ c.if-bad_pattern.true)

pub returns-then-bad_line : goal.returns-then-bad_line
unfolding number_of
returns-then-bad_line c =
    let pattern-passed : bad_pattern c.args.pattern ≡ false = sym c.bad_pattern.ensures ∙ c.if-bad_pattern.false in
    rw (pattern-passed, sym c.bad_line.ensures ∙ c.if-bad_line.true)

pub bad_sent-requires : goal.bad_sent-requires
bad_sent-requires c =
    let line-passed : let a = c.args in bad_line a.row a.line ≡ false = sym c.bad_line.ensures ∙ c.if-bad_line.false in
    (c.requires.0, (line-frames c.args.row c.args.line (line-passed)).1, c.requires.1)

pub returns-then-bad_sent : goal.returns-then-bad_sent
unfolding number_of
returns-then-bad_sent c =
    let pattern-passed : bad_pattern c.args.pattern ≡ false = sym c.bad_pattern.ensures ∙ c.if-bad_pattern.false in
    let line-passed : let a = c.args in bad_line a.row a.line ≡ false = sym c.bad_line.ensures ∙ c.if-bad_line.false in
    rw (pattern-passed, line-passed, sym c.bad_sent.ensures ∙ c.if-bad_sent.true)

pub returns-then-bad_earlier : goal.returns-then-bad_earlier
unfolding number_of
returns-then-bad_earlier c =
    let pattern-passed : bad_pattern c.args.pattern ≡ false = sym c.bad_pattern.ensures ∙ c.if-bad_pattern.false in
    let line-passed : let a = c.args in bad_line a.row a.line ≡ false = sym c.bad_line.ensures ∙ c.if-bad_line.false in
    let sent-passed : let a = c.args in (eqb a.pattern 0 && bad_buffer a.row a.line a.buffer) ≡ false = sym c.bad_sent.ensures ∙ c.if-bad_sent.false in
    rw (pattern-passed, line-passed, sent-passed, sym c.bad_earlier.ensures ∙ c.if-bad_earlier.true)

pub returns-else-bad_earlier : goal.returns-else-bad_earlier
unfolding number_of
returns-else-bad_earlier c =
    let pattern-passed : bad_pattern c.args.pattern ≡ false = sym c.bad_pattern.ensures ∙ c.if-bad_pattern.false in
    let line-passed : let a = c.args in bad_line a.row a.line ≡ false = sym c.bad_line.ensures ∙ c.if-bad_line.false in
    let sent-passed : let a = c.args in (eqb a.pattern 0 && bad_buffer a.row a.line a.buffer) ≡ false = sym c.bad_sent.ensures ∙ c.if-bad_sent.false in
    rw (pattern-passed, line-passed, sent-passed, sym c.bad_earlier.ensures ∙ c.if-bad_earlier.false)
