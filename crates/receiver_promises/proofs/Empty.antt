-- "An empty piece takes 0 and changes nothing": from any state, whether it is refused or not.
use Rattle.std.specs.Prelude.{Option, Some, None}
use mathlib.Core.Path.{refl}
use mathlib.Core.List.{List}
use Prim.Native.Nat.{ℕ}
use lib.Dec.{eqb}
use lib.ListN.{length}
use Rattle.digits.proofs.Tests.{cond-told}
use Rattle.table.specs.declared.Row.{Row}
use Rattle.table.specs.Table.{level_of}
use Rattle.receiver.specs.declared.State.{State}
use Rattle.receiver.specs.Feed.{core_of, refusal_of, run_of, feed_row, feed_at, feed_of}
use Rattle.receiver_promises.specs.History.{Unmoved}

pub empty-piece : (s : State) (slice : List ℕ) (first : ℕ) → Unmoved s (feed_of s slice first 0)
unfolding feed_row run_of
empty-piece s slice first = at_level (level_of s.level)
  where
    at_level : (level : Option Row) → Unmoved s (feed_at level s slice first 0)
    at_level None = (refl, refl, refl, refl)
    at_level (Some row) =
        cond-told (Unmoved s) (eqb (refusal_of row (core_of s) s.stretch (length slice) first 0) 0) (λ _. (refl, refl, refl, refl)) (λ _. (refl, refl, refl, refl))
