-- `ahead`: pairs of columns, as many as the set's run has room for.
use native.Mathlib.Omega.{arith}
use Rattle.swap.proofs.ahead.Goals as goal

pub returns-else-k-lt8 : goal.returns-else-k-lt8
returns-else-k-lt8 c =
    let end = c.run_end.ensures in
    let head = c.head_end.ensures in
    record {
      pairs = omega arith;
      eight = λ h. c.if-k-lt8.false;
      inside = omega (arith, end.1, c.requires.2, end.0);
      last = λ h. omega (arith, end.2 h, c.requires.2, end.0);
      run = λ h. (omega (arith, c.if-x-eq1.false), omega (arith, c.if-at-head_end.false, head));
    }
