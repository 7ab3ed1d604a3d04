-- `append` goes by words. The invariant: what is appended are the first digits, 32 a turn.
use Prim.Native.Nat.{◌*◌}
use Rattle.words.specs.Words.{Appended}
use Rattle.copying.specs.Copying.{digits_from}
use Rattle.copying.proofs.append.Given as goal

abbrev pub invariant-loop-turn : goal.invariant-loop-turn
invariant-loop-turn l = Appended l.initial.to l.to l.initial.w l.w (32 * l.turn) (digits_from l.from l.first (32 * l.turn))
