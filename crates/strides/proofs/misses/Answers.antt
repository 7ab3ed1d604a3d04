-- `misses`: one digit of the word after the other, as many as it has (proofs/Missing.antt).
use mathlib.Core.Path.{◌≡◌}
use native.Mathlib.Omega.{arith}
use Rattle.strides.proofs.Missing.{miss-none, miss-as}
use Rattle.strides.proofs.misses.Goals as goal

pub miss_more-one-requires : goal.miss_more-one-requires
miss_more-one-requires c = (omega arith, miss-none _ _)

pub returns-then-len-eq7 : goal.returns-then-len-eq7
returns-then-len-eq7 c = miss-as _ _ 7 c.args.len _ c.miss_more-seven.ensures (omega (arith, c.if-len-eq7.true))

pub returns-then-len-eq8 : goal.returns-then-len-eq8
returns-then-len-eq8 c = miss-as _ _ 8 c.args.len _ c.miss_more-eight.ensures (omega (arith, c.if-len-eq8.true))

pub returns-then-len-eq9 : goal.returns-then-len-eq9
returns-then-len-eq9 c = miss-as _ _ 9 c.args.len _ c.miss_more-nine.ensures (omega (arith, c.if-len-eq9.true))

pub returns-then-len-eq10 : goal.returns-then-len-eq10
returns-then-len-eq10 c = miss-as _ _ 10 c.args.len _ c.miss_more-ten.ensures (omega (arith, c.if-len-eq10.true))

pub returns-then-len-eq11 : goal.returns-then-len-eq11
returns-then-len-eq11 c = miss-as _ _ 11 c.args.len _ c.miss_more-eleven.ensures (omega (arith, c.if-len-eq11.true))

pub returns : goal.returns
returns c =
    let e : c.args.len ≡ 12 =
    omega (arith, c.requires.0, c.requires.1, c.if-len-eq11.false, c.if-len-eq10.false, c.if-len-eq9.false, c.if-len-eq8.false, c.if-len-eq7.false) in
    miss-as _ _ 12 c.args.len _ c.miss_more.ensures e
