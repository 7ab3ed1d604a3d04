-- `wrong_in`: the digits behind the pattern's first; the law is of Counted.
use mathlib.Core.Path.{◌≡◌, ◌∙◌}
use Prim.Native.Nat.{◌≤◌, ◌-◌}
use native.Mathlib.Omega.{arith}
use lib.ListN.{length}
use Rattle.digits.specs.Digits.{digits_of}
use Rattle.digits.specs.Sums.{sum_to}
use Rattle.digits.proofs.Laws.{digits-length}
use Rattle.judge.specs.Counting.{wrong_among}
use Rattle.judge.proofs.Counted.{wrong-counted}
use Rattle.judge.proofs.wrong.wrong_in.Goals as goal

pub returns-then-n-pattern : goal.returns-then-n-pattern
unfolding wrong_among sum_to
returns-then-n-pattern c =
    let a = c.args in
    let h : a.n ≤ length (digits_of a.read.now) = omega (arith, c.requires.0, digits-length a.read.now) in
    let none : a.n - a.pattern ≡ 0 = omega (arith, c.if-n-pattern.true) in
    rw none at (wrong-counted a.pattern (digits_of a.read.now) (digits_of a.sent.now) a.n h)

pub count_wrong-requires : goal.count_wrong-requires
count_wrong-requires c =
    let pre = c.requires in
    (pre.2, λ e. omega (arith, pre.3 e), omega (arith, pre.0, c.if-n-pattern.false), omega (arith, pre.1))

pub returns-else-n-pattern : goal.returns-else-n-pattern
returns-else-n-pattern c =
    let a = c.args in
    let h : a.n ≤ length (digits_of a.read.now) = omega (arith, c.requires.0, digits-length a.read.now) in
    c.count_wrong.ensures ∙ wrong-counted a.pattern (digits_of a.read.now) (digits_of a.sent.now) a.n h
