-- `take`: one place after the other, by the laws of Counting and Handing.
use mathlib.Core.Path.{◌≡◌}
use Prim.Native.Nat.{ℕ, ◌*◌, ◌/◌}
use native.Mathlib.Omega.{arith}
use lib.ListN.{length, replicate, length-replicate}
use Rattle.engine.proofs.Counting.{frame_noted, line_short, counted_start, counted-all}
use Rattle.plain.proofs.Handing.{taken_start, taken-all}
use Rattle.plain.proofs.take.take.Goals as goal

pub overflow_mul-end : goal.overflow_mul-end
overflow_mul-end c =
    omega (arith, line_short _ c.requires.0 _ _ c.requires.1)

pub loop-p-init : goal.loop-p-init
loop-p-init c =
    let n = length c.args.buffer.now in
    let size = length-replicate {A = ℕ} n 0 in
    let cleared : c.fill.new.self ≡ replicate n 0 = c.fill.ensures.after (λ y e. e) in (
      omega (arith, line_short _ c.requires.0 _ _ c.requires.1),
      omega arith,
      counted_start _ _ _,
      rw (cleared, size) (taken_start _ _ _ _ n (n / 4) c.requires.2),
    )

pub take_place-requires : goal.take_place-requires
take_place-requires c =
    let i = c.loop-p.invariant in
    (c.requires.0, omega arith, frame_noted _ c.requires.0 _ _ c.requires.1 _ (omega arith), i.2, i.3)

pub count_place-requires : goal.count_place-requires
count_place-requires c =
    let i = c.loop-p.invariant in
    (c.requires.0, omega arith, frame_noted _ c.requires.0 _ _ c.requires.1 _ (omega arith), i.2)

pub loop-p-preserved : goal.loop-p-preserved
loop-p-preserved c =
    let i = c.loop-p.invariant in
    let t = c.take_place in
    (i.0, omega arith, c.count_place.ensures, rw t.auto.buffer t.ensures)

pub returns : goal.returns
returns c =
    let i = c.loop-p.invariant in
    let n = length c.args.buffer.now in
    let end : c.loop-p.p ≡ 8 * length c.args.line.now = omega arith in
    let size : length c.loop-p.buffer ≡ n = omega arith in
    let done = rw size at i.3 in
    (rw end at (counted-all _ _ _ _ _ i.2), taken-all _ _ _ _ (n / 4) _ n _ done end c.requires.2)
