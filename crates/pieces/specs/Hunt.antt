-- The hunt in a hurry: the core that still hunts, and how many words it tested.
use Rattle.std.specs.Prelude.{ℕ, ◌+◌, ◌-◌, min}
use Rattle.table.specs.declared.Row.{Row}
use Rattle.modes.specs.declared.Mode.TheVariants.{Hunting}
use Rattle.modes.specs.declared.Core.{Core}

unfoldable pub still_hunting : Row → ℕ → ℕ → Core
still_hunting row w came = record { window = w; seen = min came row.len; mode = Hunting; place = 0 }

-- hunting, every digit from the L-th since reset on tests a word: so many while the digits that came grow from seen to came
abbrev pub tested_in : Row → ℕ → ℕ → ℕ
tested_in row seen came = came + 1 - row.len - (seen + 1 - row.len)
