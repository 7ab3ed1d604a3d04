-- Each byte by its call. The places are numbers, so that each need is answered by itself: a search would look through all calls before.
use mathlib.Core.Path.{refl}
use lib.Dec.{lit<}
use Rattle.digits.specs.Digits.{tab}
use Rattle.multiframe.proofs.Lists.{and_then}
use Rattle.multiframe.proofs.first_bytes.Goals as goal

pub returns : goal.returns
unfolding tab
returns c =
    and_then c.with_word.ensures
    (and_then c.without_word.ensures
    (and_then c.with_word-2.ensures
    (and_then c.without_word-2.ensures
    (and_then c.with_word-3.ensures
    (and_then c.without_word-3.ensures
    (and_then c.with_word-4.ensures
    (and_then c.without_word-4.ensures
    (and_then c.with_word-5.ensures
    (and_then c.without_word-5.ensures
    (and_then c.with_word-6.ensures
    (and_then c.without_word-6.ensures
    (and_then c.with_word-7.ensures
    (and_then c.without_word-7.ensures
    (and_then c.with_word-8.ensures
    (and_then c.without_word-8.ensures refl)))))))))))))))

pub with_word-requires : goal.with_word-requires
with_word-requires c = (c.requires, lit< tt)

pub without_word-requires : goal.without_word-requires
without_word-requires c = (c.requires, lit< tt)

pub with_word-requires-2 : goal.with_word-requires-2
with_word-requires-2 c = (c.requires, lit< tt)

pub without_word-requires-2 : goal.without_word-requires-2
without_word-requires-2 c = (c.requires, lit< tt)

pub with_word-requires-3 : goal.with_word-requires-3
with_word-requires-3 c = (c.requires, lit< tt)

pub without_word-requires-3 : goal.without_word-requires-3
without_word-requires-3 c = (c.requires, lit< tt)

pub with_word-requires-4 : goal.with_word-requires-4
with_word-requires-4 c = (c.requires, lit< tt)

pub without_word-requires-4 : goal.without_word-requires-4
without_word-requires-4 c = (c.requires, lit< tt)

pub with_word-requires-5 : goal.with_word-requires-5
with_word-requires-5 c = (c.requires, lit< tt)

pub without_word-requires-5 : goal.without_word-requires-5
without_word-requires-5 c = (c.requires, lit< tt)

pub with_word-requires-6 : goal.with_word-requires-6
with_word-requires-6 c = (c.requires, lit< tt)

pub without_word-requires-6 : goal.without_word-requires-6
without_word-requires-6 c = (c.requires, lit< tt)

pub with_word-requires-7 : goal.with_word-requires-7
with_word-requires-7 c = (c.requires, lit< tt)

pub without_word-requires-7 : goal.without_word-requires-7
without_word-requires-7 c = (c.requires, lit< tt)

pub with_word-requires-8 : goal.with_word-requires-8
with_word-requires-8 c = (c.requires, lit< tt)

pub without_word-requires-8 : goal.without_word-requires-8
without_word-requires-8 c = (c.requires, lit< tt)
