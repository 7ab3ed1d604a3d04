-- What a place of the multiframe of 2048 kbit/s is, as numbers: 0 a digit of the word, 1 the second digit of a frame without it, 2 a digit of the 0000 that
-- starts the multiframe; spare digits 3 for international use, 4 alarm, 5 for use at home, 6 X, 7 Y; 8 signalling and 9 a digit of a channel. With the first
-- three comes the digit, with the last two the channel. `MultiframePlaceMet` is the whole statement of `multiframe_place`.
use Rattle.std.specs.Prelude.{◌≡◌, cond, ℕ, ◌/◌, ◌%◌, eqb, ltb, Result, Ok, Err}
use Rattle.multiframe.specs.declared.SpareDigit.{SpareDigit}
use Rattle.multiframe.specs.declared.SpareDigit.TheVariants.{International, Alarm, National, Extra, MultiframeAlarm}
use Rattle.multiframe.specs.declared.Kind.{Kind}
use Rattle.multiframe.specs.declared.Kind.TheVariants.{Fixed, Spare, Signalling, Channel}
use Rattle.multiframe.specs.Multiframe.{kind_at}
use Rattle.refusal.specs.declared.Refusal.{Refusal}
use Rattle.refusal.specs.Refusal.{number_of as refusal_number}
use Rattle.naming.specs.declared.multiframes.MultiframePlaceName.{MultiframePlaceName}

abbrev pub spare_number : SpareDigit → ℕ
spare_number International = 3
spare_number Alarm = 4
spare_number National = 5
spare_number Extra = 6
spare_number MultiframeAlarm = 7

-- a fixed digit at place p: in byte 0 of even frames the word, of odd frames the second digit; in byte 16 the start of the multiframe
unfoldable pub fixed_number : ℕ → ℕ
fixed_number p = cond (eqb (p / 8 % 32) 0) (cond (eqb (p / 256 % 2) 0) 0 1) 2

abbrev pub kind_number : Kind → ℕ → ℕ
kind_number (Fixed d) p = fixed_number p
kind_number (Spare s) p = spare_number s
kind_number (Signalling c) p = 8
kind_number (Channel c) p = 9

abbrev pub number_of : Kind → ℕ
number_of (Fixed d) = d
number_of (Spare s) = 0
number_of (Signalling c) = c
number_of (Channel c) = c

-- the call's answer as numbers: the refusal, 0 for none, the number of the place's kind, and the digit fixed there or the channel, or 0
pub record MultiframePlaced : Type 0 where
  pub refusal : ℕ
  pub kind : ℕ
  pub number : ℕ

-- the numbers of what the code answers
abbrev pub numbers_of : Result MultiframePlaceName Refusal → MultiframePlaced
numbers_of (Ok place) = record { refusal = 0; kind = place.kind; number = place.number }
numbers_of (Err refusal) = record { refusal = refusal_number refusal; kind = 0; number = 0 }

-- no place of a multiframe
abbrev pub nowhere : MultiframePlaced
nowhere = record { refusal = 7; kind = 0; number = 0 }

abbrev pub multiframe_placed : ℕ → MultiframePlaced
multiframe_placed p = cond (ltb p 4096) (record { refusal = 0; kind = kind_number (kind_at p) p; number = number_of (kind_at p) }) nowhere

abbrev pub MultiframePlaceMet : ℕ → MultiframePlaced → Type 0
MultiframePlaceMet p answer = answer ≡ multiframe_placed p
