-- When words are tested (document 02, request 8): "the digits at which the mode's rule asks for good, none in hunting before the L-th". From reset the first L - 1 digits
-- test none; hunting, each digit from the L-th on tests one; else the digit at which the place comes to N does, and no other.
use mathlib.Core.Path.{◌≡◌, refl}
use mathlib.Core.Logic.{◌≢◌}
use mathlib.Core.Bool.{true, false}
use mathlib.Core.List.{List, [], ◌∷◌}
use Prim.Native.Nat.{ℕ, ◌+◌, ◌≤◌, ◌<◌}
use native.Mathlib.Omega.{arith}
use lib.Dec.{ltb}
use borrow.Author.Tests.{lt-ltb, ltb-false, lt-leb, le-leb, eq-eqb, ne_eqb}
use lib.ListN.{length}
use Rattle.digits.proofs.Tests.{cond-told}
use Rattle.table.specs.declared.Row.{Row}
use Rattle.receiver.specs.declared.State.{State}
use Rattle.modes.specs.declared.Core.{Core}
use Rattle.modes.specs.Modes.{hunting, seen_of, asks, after_digit, step_of, tested_at}
use Rattle.receiver.specs.Feed.{core_of, fresh_state, after_of}
use Rattle.receiver_promises.specs.History.{tested_by}

module _ (row : Row) where
  -- hunting, with fewer than L digits: none is tested, and the hunt goes on
  early : (c : Core) (d : ℕ) → hunting c.mode ≡ true → c.seen + 1 < row.len
      → (tested_at row c ≡ 0) × ((step_of row c d).mode ≡ c.mode) × ((step_of row c d).seen ≡ c.seen + 1)
  unfolding tested_at asks seen_of step_of after_digit
  early c d hunts few =
      let more = lt-ltb c.seen row.len (omega arith) in
      let short = lt-leb row.len (c.seen + 1) few in
      rw (more, hunts, short) (refl, refl, refl)

  none-early : (ds : List ℕ) (s : State) → hunting s.mode ≡ true → s.seen + length ds < row.len → tested_by row s ds ≡ 0
  unfolding tested_by after_of
  none-early [] s hunts few = refl
  none-early (d ∷ ds) s hunts few =
      let now = early (core_of s) d hunts (omega arith) in
      let rest = none-early ds (after_of row s d) (rw now.1 hunts) (omega (arith, now.2)) in
      omega (arith, now.0, rest)

  -- from reset: "none in hunting before the L-th"
  pub none-before-the-L-th : (level : ℕ) (ds : List ℕ) → length ds < row.len → tested_by row (fresh_state level) ds ≡ 0
  none-before-the-L-th level ds few = none-early ds (fresh_state level) refl (omega arith)

  grown : (c : Core) → c.seen ≤ row.len → row.len ≤ c.seen + 1 → row.len ≤ seen_of row c.seen
  unfolding seen_of
  grown c most enough = cond-told (λ (n : ℕ). row.len ≤ n) (ltb c.seen row.len) (λ _. enough) (λ e. ltb-false c.seen row.len e)

  -- hunting, the L-th digit and each after it
  pub tested-in-hunting : (c : Core) → hunting c.mode ≡ true → c.seen ≤ row.len → row.len ≤ c.seen + 1 → tested_at row c ≡ 1
  unfolding tested_at asks
  tested-in-hunting c hunts most enough = rw (hunts, le-leb row.len (seen_of row c.seen) (grown c most enough))

  -- outside hunting, the digit at which the place comes to N, and no other
  pub tested-at-the-word : (c : Core) → hunting c.mode ≡ false → c.place + 1 ≡ row.digits → tested_at row c ≡ 1
  unfolding tested_at asks
  tested-at-the-word c held here = rw (held, eq-eqb (c.place + 1) row.digits here)

  pub tested-nowhere-else : (c : Core) → hunting c.mode ≡ false → c.place + 1 ≢ row.digits → tested_at row c ≡ 0
  unfolding tested_at asks
  tested-nowhere-else c held other = rw (held, ne_eqb (c.place + 1) row.digits other)
