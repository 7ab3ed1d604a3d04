-- `read_digits` loads eight bytes, shifts the digits asked for down to the end and cuts off what stands before them.
use mathlib.Core.Path.{refl}
use native.Mathlib.Omega.{arith}
use Rattle.digits.proofs.Laws.{digits-binary}
use Rattle.digits.proofs.Windows.{window-lt}
use Rattle.words.proofs.Loads.{window-part}
use Rattle.words.proofs.read_digits.Goals as goal

pub overflow_add-result : goal.overflow_add-result
overflow_add-result c =
    omega (arith, c.load_from-at.ensures.2 c.args.n c.requires.2 c.requires.0)

pub overflow_sub-result-2 : goal.overflow_sub-result-2
overflow_sub-result-2 c =
    omega (arith, c.load_from-at.ensures.2 c.args.n c.requires.2 c.requires.0)

pub returns : goal.returns
returns c =
    let load_from = c.load_from-at in
    let b = c.args in
    let pre = c.requires in
    let from = load_from.ensures in
    rw (c.load8.ensures, c.ones.ensures, window-part b.s.now load_from.result b.p b.n from.1 (from.2 b.n pre.2 pre.0))
    (refl, window-lt _ (digits-binary b.s.now) b.p b.n)
