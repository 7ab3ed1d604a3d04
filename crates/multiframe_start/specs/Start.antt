-- Which of sixteen frames of 2048 kbit/s in a row begins the multiframe. Tables 1 and 2 of document 000: byte 0 of an even frame ends in the word 0011011, and
-- byte 16 of frame 0 begins with 0000, which no signalling of channels 1 to 15 is. `StartMet` is the whole statement of `multiframe_start`.
use Rattle.std.specs.Prelude.{◌≡◌, Bool, cond, ◌&&◌, List, ℕ, zero, suc, ◌+◌, ◌-◌, ◌*◌, ◌/◌, ◌%◌, eqb, length, get_or, Option, unwrap_or, Result, Ok, Err}
use Rattle.refusal.specs.declared.Refusal.{Refusal}
use Rattle.refusal.specs.Refusal.{number_of}

-- the word 0011011 as a number
abbrev pub word : ℕ
word = 27

-- frame f begins the multiframe: the last seven digits of its byte 0 are the word, and the first four of its byte 16 are 0000
unfoldable pub is_start : List ℕ → ℕ → Bool
is_start frames f = eqb (get_or frames (32 * f) 0 % 128) word && eqb (get_or frames (32 * f + 16) 0 / 16) 0

-- the first of the last k of the sixteen frames that does, or 16
unfoldable pub start_among : List ℕ → ℕ → ℕ
start_among frames zero = 16
start_among frames (suc k) = cond (is_start frames (15 - k)) (15 - k) (start_among frames k)

-- the call's answer as numbers: the refusal, 0 for none, and the frame, from 0, or 16 where none begins the multiframe
pub record Started : Type 0 where
  pub refusal : ℕ
  pub frame : ℕ

-- the numbers of what the code answers
abbrev pub numbers_of : Result (Option ℕ) Refusal → Started
numbers_of (Ok frame) = record { refusal = 0; frame = unwrap_or frame 16 }
numbers_of (Err refusal) = record { refusal = number_of refusal; frame = 0 }

-- refused with 2 where the frames are not sixteen whole ones
abbrev pub started : List ℕ → Started
started frames = cond (eqb (length frames) 512) (record { refusal = 0; frame = start_among frames 16 }) (record { refusal = 2; frame = 0 })

abbrev pub StartMet : List ℕ → Started → Type 0
StartMet frames answer = answer ≡ started frames
