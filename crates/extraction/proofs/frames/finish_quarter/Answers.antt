-- `finish_quarter` leaves the digits put out and zeros behind them: `quarter-ended`, of a writer's end and zero bytes.
use mathlib.Core.Path.{refl}
use native.Mathlib.Omega.{arith}
use Rattle.extraction.proofs.Ends.{quarter-ended}
use Rattle.extraction.proofs.frames.finish_quarter.Goals as goal

pub returns : goal.returns
returns c = (
  refl,
  quarter-ended c.args.quarter.now c.finish-end.new.s c.fill.new.self c.args.w c.finish-end.result
      c.finish-end.ensures c.finish-end.auto.s (omega (arith, c.requires.0.room)) (c.fill.ensures.after (λ y same. same))
      (λ i. omega (arith, c.type_inv.quarter i)),
)
