-- Where a line that fits has room: each set of each frame lies in it, and so do a tributary's digits up to any column in its quarter.
use mathlib.Core.Path.{◌≡◌, sym, ◌∙◌, ap}
use mathlib.Core.List.{List}
use Prim.Native.Nat.{ℕ, ◌+◌, ◌*◌, ◌-◌, ◌≤◌, ◌<◌}
use native.Mathlib.Omega.{arith}
use native.Mathlib.Nat.{add-mul, mul_left_comm, mul-le-mul_right}
use Rattle.table.specs.declared.Row.{Row}
use Rattle.levels.specs.Table.{Shared}
use Rattle.levels.specs.Order.{actions, before}
use Rattle.levels.specs.Sizes.{Fits}
use Rattle.levels.proofs.Counts.{count-of, count_room}
use Rattle.levels.proofs.Inverse.{before-rises}
use Rattle.levels.proofs.Judged.{room_small}
use Rattle.levels.proofs.Positions.{in_frame}

module _ (row : Row) (line F quarter : ℕ) (fits : Fits row line F quarter) where
  abbrev sh : Shared row
  sh = fits.shared

  pub line_whole : 8 * line ≡ F * row.digits
  line_whole = ap (λ (k : ℕ). 8 * k) fits.whole ∙ mul_left_comm 8 F row.bytes ∙ ap (λ (k : ℕ). F * k) (sym sh.packed)

  -- a set of a frame lies in the line
  pub set-in-line : (f s : ℕ) → f < F → s < row.sets → f * row.digits + (s * row.set + row.set) ≤ 8 * line
  set-in-line f s hf hs =
      let last = in_frame row sh s (row.set - 1) hs (omega (arith, sh.room)) in
      let later : (f + 1) * row.digits ≤ F * row.digits = mul-le-mul_right {m = f + 1} {n = F} row.digits (omega arith) in
      omega (arith, line_whole, last, later, add-mul f 1 row.digits, sh.room)

  -- a tributary's digits up to any column of it have room
  pub before-room : (earlier : ℕ) (notes : List ℕ) (j : ℕ) → j < 4 → (x : ℕ) → x ≤ 2 * line
      → (before row (actions row earlier notes j) j x ≤ 8 * quarter) × (before row (actions row earlier notes j) j x < 65536)
  before-room earlier notes j jh x h =
      let rises = before-rises row (actions row earlier notes j) j x (2 * line) h in
      let all = count-of row sh j jh (actions row earlier notes j) F line fits.whole in
      let most = count_room row sh j jh (actions row earlier notes j) F in
      (omega (arith, rises, all, most, fits.room), omega (arith, rises, all, most, room_small row sh F fits.few))
