-- `window_over`: the last 32 digits, or all (proofs/Passing.antt).
use native.Mathlib.Omega.{arith}
use Rattle.digits.proofs.Laws.{digits-binary}
use Rattle.strides.proofs.Passing.{window-none, window-over-is}
use Rattle.strides.proofs.window_over.Goals as goal

pub returns-then-first-at : goal.returns-then-first-at
returns-then-first-at c =
    window-none c.args.len c.requires.0 _ (digits-binary _) c.args.first c.args.window c.requires.2 _ (omega (arith, c.if-first-at.true))

pub returns : goal.returns
returns c =
    window-over-is c.args.len c.requires.0 _ (digits-binary _) c.args.first c.args.window c.requires.2 c.args.at _ _ _ c.requires.4
    c.min-n.ensures c.read_digits.ensures.0 c.read_digits.ensures.1 c.requires.1
