-- `digits::digit_or_zero` meets its contract: a slice's digits end where its bytes end, and past the end a list's default stands.
use native.Mathlib.Omega.{arith}
use mathlib.Core.Path.{sym}
use lib.ListN.{get_or-eq_default}
use Rattle.digits.specs.Digits.{digits_of}
use Rattle.digits.proofs.Laws.{digits-length}
use Rattle.digits.proofs.digit_or_zero.Goals as goal

pub returns-else-p-s : goal.returns-else-p-s
returns-else-p-s c =
    let s = c.args.s.now in
    (sym (get_or-eq_default (digits_of s) 0 (omega (arith, digits-length s))), omega arith)
