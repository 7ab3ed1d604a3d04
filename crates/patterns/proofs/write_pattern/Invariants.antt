-- `write_pattern`: byte after byte.
use mathlib.Core.Path.{◌≡◌}
use Prim.Native.Nat.{◌*◌, ◌^◌, ◌<◌}
use Rattle.patterns.specs.Patterns.{window_after}
use Rattle.patterns.proofs.Eights.{Stored}
use Rattle.patterns.proofs.write_pattern.Given as goal

abbrev pub invariant-loop-byte : goal.invariant-loop-byte
invariant-loop-byte l =
    (l.w ≡ window_after l.pattern l.window (l.byte-index * 8)) × (l.w < 2 ^ 23) × Stored l.pattern l.window l.byte-index l.dst
