-- Digits in a hurry outside hunting: the core that they lead to.
use Rattle.std.specs.Prelude.{List, ℕ, ◌+◌}
use Rattle.table.specs.declared.Row.{Row}
use Rattle.digits.specs.Digits.{digits_of}
use Rattle.strides.specs.Strides.{window_from}
use Rattle.modes.specs.declared.Core.{Core}

-- a core after k digits, from place p of a slice on, at which no rule looks
unfoldable pub gone_on : Row → List ℕ → ℕ → Core → ℕ → Core
gone_on row slice p c k =
    record { window = window_from row.len (digits_of slice) p c.window k; seen = c.seen; mode = c.mode; place = c.place + k }
