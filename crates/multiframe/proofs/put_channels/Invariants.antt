-- After c turns the columns of channels 1 to c are put (Channels).
use mathlib.Core.Path.{◌≡◌}
use lib.ListN.{length}
use Rattle.multiframe.proofs.Channels.{Channelling}
use Rattle.multiframe.proofs.put_channels.Given as goal

abbrev pub invariant-loop-c : goal.invariant-loop-c
invariant-loop-c l = (length l.multiframe ≡ 512) × Channelling l.channels l.c l.multiframe
