-- After c turns channels 1 to c are taken (Channels).
use mathlib.Core.Path.{◌≡◌}
use lib.ListN.{length}
use Rattle.multiframe.proofs.Channels.{Channelling}
use Rattle.multiframe.proofs.take_channels.Given as goal

abbrev pub invariant-loop-c : goal.invariant-loop-c
invariant-loop-c l = (length l.channels ≡ 480) × Channelling l.channels l.c l.multiframe
