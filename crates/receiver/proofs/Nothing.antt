-- A refused call reports nothing and leaves the state (specs/Nothing.antt).
use Rattle.std.specs.Prelude.{Option, Some, None}
use mathlib.Core.Path.{◌≡◌, refl}
use mathlib.Core.List.{List, [], ◌∷◌}
use Prim.Native.Nat.{ℕ, suc, ◌+◌}
use lib.Dec.{eqb}
use lib.ListN.{length}
use Rattle.digits.proofs.Tests.{cond-told}
use Rattle.table.specs.declared.Row.{Row}
use Rattle.table.specs.Table.{level_of}
use Rattle.receiver.specs.declared.State.{State}
use Rattle.receiver.specs.declared.Fed.{Fed}
use Rattle.modes.specs.Modes.{tested_at}
use Rattle.pieces.specs.Frame.{ready_of}
use Rattle.digits.specs.Runs.{piece_of}
use Rattle.receiver.specs.Feed.{core_of, after_of, run_of, refusal_of, feed_row, feed_at, feed_of}
use Rattle.receiver.specs.Nothing.{Nothing}

run-accepted : (row : Row) (ds : List ℕ) (taken words : ℕ) (s : State) → (run_of row ds taken words s).refusal ≡ 0
unfolding run_of
run-accepted row [] taken words s = refl
run-accepted row (d ∷ ds) taken words s =
    cond-told (λ (f : Fed). f.refusal ≡ 0) (ready_of row (core_of (after_of row s d))) (λ _. refl)
    (λ _. run-accepted row ds (suc taken) (words + tested_at row (core_of s)) (after_of row s d))

pub refused-nothing : (s : State) (slice : List ℕ) (first count : ℕ) → ((feed_of s slice first count).refusal ≡ 0 → ⊥) → Nothing s (feed_of s slice first count)
unfolding feed_row
refused-nothing s slice first count = at_level (level_of s.level)
  where
    at_level : (level : Option Row) → ((feed_at level s slice first count).refusal ≡ 0 → ⊥) → Nothing s (feed_at level s slice first count)
    at_level None = λ h. record { taken = refl; ready = refl; alarm = refl; words = refl; state = refl }
    at_level (Some row) =
        cond-told (λ (f : Fed). (f.refusal ≡ 0 → ⊥) → Nothing s f) (eqb (refusal_of row (core_of s) s.stretch (length slice) first count) 0)
        (λ _ h. absurd (h (run-accepted row (piece_of slice first count) 0 0 s)))
        (λ _ h. record { taken = refl; ready = refl; alarm = refl; words = refl; state = refl })
