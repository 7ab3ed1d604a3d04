-- `good_lanes`: lane after lane.
use mathlib.Core.Path.{◌≡◌, sym, ◌∙◌}
use Prim.Native.Nat.{◌+◌}
use native.Mathlib.Omega.{arith}
use lib.ListN.{get_or}
use borrow.Author.Tests.{le-leb, lt-leb}
use Rattle.verdict_states.proofs.Good.{lanes-first, lanes_next, lanes-bad, lane_low}
use Rattle.verdict_states.proofs.validity.good_lanes.Goals as goal

pub returns-then-v-gt4611686018427387904 : goal.returns-then-v-gt4611686018427387904
returns-then-v-gt4611686018427387904 c =
    let v = c.args.v.now in
    sym (lanes-bad v 0 16 (omega arith) (sym (lanes-first v) ∙ lt-leb (get_or v 0 0) 4611686018427387904 c.if-v-gt4611686018427387904.true))

pub loop-k-init : goal.loop-k-init
loop-k-init c =
    let v = c.args.v.now in
    sym (lanes-first v) ∙ le-leb (get_or v 0 0) 4611686018427387904 c.if-v-gt4611686018427387904.false

pub good_pair-requires : goal.good_pair-requires
good_pair-requires c =
    let l = c.loop-k in
    lane_low c.args.v.now l.k l.invariant

pub returns-then-not-good_pair : goal.returns-then-not-good_pair
returns-then-not-good_pair c =
    let v = c.args.v.now in
    let l = c.loop-k in
    let next = lanes_next v l.k c.good_pair.result l.invariant c.good_pair.ensures in
    sym (lanes-bad v (l.k + 1) 16 (omega arith) (sym next ∙ c.if-not-good_pair.true))

pub loop-k-preserved : goal.loop-k-preserved
loop-k-preserved c =
    let v = c.args.v.now in
    let l = c.loop-k in
    let next = lanes_next v l.k c.good_pair.result l.invariant c.good_pair.ensures in
    sym next ∙ c.if-not-good_pair.false

pub returns : goal.returns
returns c =
    let l = c.loop-k in
    let end : l.k ≡ 16 = omega arith in
    sym (rw end at l.invariant)
