-- `write_refusal` is `write_refusal`: each return rewrites with the tests that lead to it.
use mathlib.Core.Path.{◌≡◌, sym, ◌∙◌}
use mathlib.Core.Bool.{false, ◌&&◌}
use native.Mathlib.Omega.{arith}
use lib.Dec.{ltb}
use lib.ListN.{length}
use Rattle.levels.specs.Sizes.{bad_line}
use borrow.Author.Tests.{lt-ltb, le-ltb}
use Rattle.captures.proofs.Judging.{short-enough}
use Rattle.captures.specs.Captures.{file_of, write_refusal}
use Rattle.captures.proofs.Putting.{file-length}
use Rattle.captures.proofs.write_refusal.Goals as goal

pub returns-then-bad_line : goal.returns-then-bad_line
unfolding write_refusal
returns-then-bad_line c = rw (sym c.bad_line.ensures ∙ c.if-bad_line.true)

pub returns-then-long_label : goal.returns-then-long_label
unfolding write_refusal
returns-then-long_label c =
    let line-passed : let a = c.args in bad_line a.row (length a.line.now) ≡ false = sym c.bad_line.ensures ∙ c.if-bad_line.false in
    rw (line-passed, sym c.long_label.ensures ∙ c.if-long_label.true)

pub file_bytes-requires : goal.file_bytes-requires
file_bytes-requires c =
    let line-passed : let a = c.args in bad_line a.row (length a.line.now) ≡ false = sym c.bad_line.ensures ∙ c.if-bad_line.false in
    (short-enough _ c.requires _ (line-passed), omega arith)

pub returns-then-room-file_bytes : goal.returns-then-room-file_bytes
unfolding write_refusal
returns-then-room-file_bytes c =
    let line-passed : let a = c.args in bad_line a.row (length a.line.now) ≡ false = sym c.bad_line.ensures ∙ c.if-bad_line.false in
    let label-passed : let a = c.args in (a.labelled && ltb 32 (length a.label.now)) ≡ false = sym c.long_label.ensures ∙ c.if-long_label.false in
    let bytes_counted : let a = c.args in length (file_of a.level a.line.now a.label.now a.labelled) ≡ c.file_bytes.result = let a = c.args in
    file-length a.level a.line.now a.label.now a.labelled ∙ sym c.file_bytes.ensures in
    rw (line-passed, label-passed, bytes_counted, lt-ltb _ _ c.if-room-file_bytes.true)

pub returns : goal.returns
unfolding write_refusal
returns c =
    let line-passed : let a = c.args in bad_line a.row (length a.line.now) ≡ false = sym c.bad_line.ensures ∙ c.if-bad_line.false in
    let label-passed : let a = c.args in (a.labelled && ltb 32 (length a.label.now)) ≡ false = sym c.long_label.ensures ∙ c.if-long_label.false in
    let bytes_counted : let a = c.args in length (file_of a.level a.line.now a.label.now a.labelled) ≡ c.file_bytes.result = let a = c.args in
    file-length a.level a.line.now a.label.now a.labelled ∙ sym c.file_bytes.ensures in
    rw (line-passed, label-passed, bytes_counted, le-ltb _ _ c.if-room-file_bytes.false)
