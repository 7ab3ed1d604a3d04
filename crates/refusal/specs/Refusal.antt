-- The number of each refusal, as the table of docs/GUIDE.md and include/spritbobbin.h have it, and the number that a call answers C with.
use Rattle.std.specs.Prelude.{ℕ, Result, Ok, Err}
use Rattle.refusal.specs.declared.Refusal.{Refusal}
use Rattle.refusal.specs.declared.Refusal.TheVariants.{Level, Line, Notes, Buffer, NoteBits, State, Digits, RackLine, Field, National, Signalling, Tributary, Pattern}

abbrev pub number_of : Refusal → ℕ
number_of Level = 1
number_of Line = 2
number_of Notes = 3
number_of Buffer = 4
number_of NoteBits = 5
number_of State = 6
number_of Digits = 7
number_of RackLine = 8
number_of Field = 9
number_of National = 10
number_of Signalling = 11
number_of Tributary = 12
number_of Pattern = 13

-- 0 is accepted
abbrev pub refusal_in : {A : Type 0} → Result A Refusal → ℕ
refusal_in (Ok _) = 0
refusal_in (Err refusal) = number_of refusal
