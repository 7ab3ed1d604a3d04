-- `line_reader::step_at` meets its contract: each of its three returns is a sentence of the document, as proofs/Ways.antt has them.
-- Assumes nothing.
use mathlib.Core.Path.{sym}
use native.Mathlib.Omega.{arith}
use Rattle.line_reader.proofs.Ways.{gives, past-last, over-long}
use Rattle.line_reader.proofs.step_at.Goals as goal

pub returns-then-place-bytes : goal.returns-then-place-bytes
returns-then-place-bytes c = rw c.digit_at-digit.ensures.0 (sym (gives _ _ (omega arith) (omega arith)))

pub returns-else-place-bytes : goal.returns-else-place-bytes
returns-else-place-bytes c = sym (past-last _ _ (omega arith))

pub returns-else-bytes-le65536 : goal.returns-else-bytes-le65536
returns-else-bytes-le65536 c = sym (over-long _ _ (omega arith))
