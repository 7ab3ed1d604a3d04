-- What a place of a frame is, as numbers: 0 word, 1 remote alarm, 2 national or other service, 3 control, 4 justification, 5 negative, 6 ordinary; and the
-- tributary that owns it, 1 to 4. `PlaceMet` is the whole statement of `place`.
use Rattle.std.specs.Prelude.{◌≡◌, cond, ℕ, ◌+◌, ◌%◌, ltb, Result, Ok, Err}
use Rattle.table.specs.declared.Row.{Row}
use Rattle.table.specs.Table.{level_of}
use Rattle.levels.specs.declared.places.Kind.{Kind}
use Rattle.levels.specs.declared.places.Kind.TheVariants.{Word, Service, Control, Justification, Tributary}
use Rattle.levels.specs.declared.places.ServiceDigit.{ServiceDigit}
use Rattle.levels.specs.declared.places.ServiceDigit.TheVariants.{RemoteAlarm, FirstNational, SecondNational, ThirdNational, Fixed}
use Rattle.levels.specs.declared.places.Sign.{Sign}
use Rattle.levels.specs.declared.places.Sign.TheVariants.{Negative, Positive}
use Rattle.levels.specs.Places.{kind_at, is_own}
use Rattle.levels.specs.Sizes.{on_level}
use Rattle.refusal.specs.declared.Refusal.{Refusal}
use Rattle.refusal.specs.Refusal.{number_of}
use Rattle.naming.specs.declared.PlaceName.{PlaceName}

abbrev pub service_number : ServiceDigit → ℕ
service_number RemoteAlarm = 1
service_number FirstNational = 2
service_number SecondNational = 2
service_number ThirdNational = 2
service_number Fixed = 2

abbrev pub sign_number : Sign → ℕ
sign_number Positive = 4
sign_number Negative = 5

abbrev pub kind_number : Kind → ℕ
kind_number Word = 0
kind_number (Service s) = service_number s
kind_number Control = 3
kind_number (Justification sign) = sign_number sign
kind_number Tributary = 6

-- "whose it is, only on its remainder by four": control, justification and tributary digits are a tributary's own
abbrev pub owner_of : Kind → ℕ → ℕ
owner_of kind p = cond (is_own kind) (p % 4 + 1) 0

-- the call's answer as numbers: the refusal, 0 for none, the number of the place's kind, and its tributary or 0
pub record Placed : Type 0 where
  pub refusal : ℕ
  pub kind : ℕ
  pub tributary : ℕ

abbrev pub refused_with : ℕ → Placed
refused_with n = record { refusal = n; kind = 0; tributary = 0 }

-- the numbers of what the code answers
abbrev pub numbers_of : Result PlaceName Refusal → Placed
numbers_of (Ok place) = record { refusal = 0; kind = place.kind; tributary = place.tributary }
numbers_of (Err refusal) = refused_with (number_of refusal)

-- place p of a frame: refused with 7 where the frame has no such place
unfoldable pub place_in : Row → ℕ → Placed
place_in row p =
    cond (ltb p row.digits) (record { refusal = 0; kind = kind_number (kind_at row p); tributary = owner_of (kind_at row p) p }) (refused_with 7)

-- refused with 1 where there is no such level
abbrev pub placed : ℕ → ℕ → Placed
placed level p = on_level (level_of level) (λ (row : Row). place_in row p) (refused_with 1)

abbrev pub PlaceMet : ℕ → ℕ → Placed → Type 0
PlaceMet level p answer = answer ≡ placed level p
