-- `group_ones` counts the four groups of a frame. The invariant: the ones among the columns read so far.
use mathlib.Core.Path.{refl, sym, ◌∙◌, ap₂}
use Prim.Native.Nat.{◌+◌}
use native.Mathlib.Omega.{arith}
use lib.ListN.{length}
use Rattle.digits.specs.Digits.{digits_of}
use Rattle.digits.proofs.Laws.{digits-binary}
use Rattle.reading.proofs.Lanes.{column-inside, ones-few, ones_none, column-more, columns-all}
use Rattle.reading.proofs.group_ones.Goals as goal

pub loop-k-init : goal.loop-k-init
loop-k-init c =
    let a = c.args in
    sym (ones_none a.row (digits_of a.line.now) (digits-binary a.line.now) a.f)

pub overflow_mul-p-in-loop-k : goal.overflow_mul-p-in-loop-k
overflow_mul-p-in-loop-k c =
    let l = c.loop-k in
    omega (arith, column-inside _ c.requires.0 c.args.f (length c.args.line.now) c.requires.2 c.requires.1 l.k c.loop-k-test.true)

pub overflow_add-p : goal.overflow_add-p
overflow_add-p c =
    let l = c.loop-k in
    omega (arith, column-inside _ c.requires.0 c.args.f (length c.args.line.now) c.requires.2 c.requires.1 l.k c.loop-k-test.true)

pub overflow_add-p-in-loop-k : goal.overflow_add-p-in-loop-k
overflow_add-p-in-loop-k c =
    let l = c.loop-k in
    omega (arith, column-inside _ c.requires.0 c.args.f (length c.args.line.now) c.requires.2 c.requires.1 l.k c.loop-k-test.true)

pub column_at-requires : goal.column_at-requires
column_at-requires c =
    let l = c.loop-k in
    let inside = column-inside _ c.requires.0 c.args.f (length c.args.line.now) c.requires.2 c.requires.1 l.k c.loop-k-test.true in
    (inside.2, inside.1)

pub overflow_add-ones : goal.overflow_add-ones
overflow_add-ones c =
    let l = c.loop-k in
    let few = ones-few c.args.row (digits_of c.args.line.now) (digits-binary c.args.line.now) c.args.f l.k in
    let sh = c.requires.0 in
    omega (arith, l.invariant, c.apart-ones.ensures, c.column_at.ensures.1, few 0, few 1, few 2, few 3, sh.group, sh.few_sets)

pub loop-k-preserved : goal.loop-k-preserved
loop-k-preserved c =
    let l = c.loop-k in
    let a = c.args in
    let column = c.column_at in
    ap₂ ◌+◌ l.invariant c.apart-ones.ensures
    ∙ column-more a.row (digits_of a.line.now) (digits-binary a.line.now) a.f l.k _ column.result refl column.ensures.0

pub returns : goal.returns
returns c =
    let l = c.loop-k in
    let a = c.args in
    columns-all a.row (digits_of a.line.now) (digits-binary a.line.now) a.f l.k _ (omega arith) l.invariant
