-- `write_pattern`: byte after byte.
use mathlib.Core.Path.{refl}
use Prim.Native.Nat.{◌/◌, ◌^◌}
use native.Mathlib.Omega.{arith}
use Rattle.patterns.specs.Patterns.{window_after}
use Rattle.patterns.proofs.Eights.{stored-none, stored_more, stored-all, eights-next}
use Rattle.patterns.proofs.write_pattern.Goals as goal

pub loop-byte-init : goal.loop-byte-init
unfolding window_after
loop-byte-init c = (refl, c.requires.2, stored-none _ _ c.args.dst.now c.requires.0)

pub loop-byte-preserved : goal.loop-byte-preserved
loop-byte-preserved c =
    let l = c.loop-byte in (
      eights-next _ _ l.byte-index l.w c.push_eight-w.result l.invariant.0 c.push_eight-w.ensures.0,
      c.push_eight-w.ensures.1,
      stored_more _ _ l.byte-index l.dst (l.w / 2 ^ 15) (omega arith) l.invariant.2 (rw (← l.invariant.0)),
    )

pub returns : goal.returns
returns c = let l = c.loop-byte in stored-all _ _ l.byte-index l.dst c.requires.2 (omega (arith, l.invariant.2.size)) l.invariant.2
