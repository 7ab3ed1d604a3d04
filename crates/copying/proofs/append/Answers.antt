-- `append` goes by words. The invariant: what is appended are the first digits, 32 a turn.
use mathlib.Core.Path.{◌≡◌}
use Prim.Native.Nat.{◌+◌, ◌*◌, ◌/◌, ◌%◌}
use native.Mathlib.Omega.{arith}
use Rattle.words.proofs.Writing.{appended-none, appended-more}
use Rattle.copying.proofs.Carried.{more-from}
use Rattle.copying.proofs.append.Goals as goal

pub loop-turn-init : goal.loop-turn-init
loop-turn-init c = appended-none _ _ c.requires.0

pub put-w-requires : goal.put-w-requires
put-w-requires c =
    let l = c.loop-turn in
    let pre = c.requires in
    (l.invariant.ready, omega arith, c.word_at-word.ensures.1, omega (arith, l.invariant.place, pre.1))

pub loop-turn-preserved : goal.loop-turn-preserved
loop-turn-preserved c =
    let l = c.loop-turn in
    let a = c.args in
    let on : 32 * (l.turn + 1) ≡ 32 * l.turn + 32 = omega arith in
    let place : 8 * (a.first / 8 + 4 * l.turn) + a.first % 8 ≡ a.first + 32 * l.turn = omega arith in
    rw (on, more-from a.from.now a.first (32 * l.turn) 32, ← place, ← c.word_at-word.ensures.0) (appended-more l.invariant c.put-w.ensures)

pub put-requires : goal.put-requires
put-requires c =
    let l = c.loop-turn in
    let pre = c.requires in
    (l.invariant.ready, omega arith, c.word_at-word-2.ensures.1, omega (arith, l.invariant.place, pre.1))

pub returns : goal.returns
returns c =
    let a = c.args in
    let end : c.loop-turn.turn ≡ a.count / 32 = omega arith in
    let done = 32 * (a.count / 32) in
    let place : 8 * (a.first / 8 + 4 * (a.count / 32)) + a.first % 8 ≡ a.first + done = omega arith in
    let all : done + a.count % 32 ≡ a.count = omega arith in
    let out = appended-more (rw end at c.loop-turn.invariant) c.put.ensures in
    rw all at (rw (← more-from a.from.now a.first done (a.count % 32)) at (rw (c.word_at-word-2.ensures.0, place) at out))
