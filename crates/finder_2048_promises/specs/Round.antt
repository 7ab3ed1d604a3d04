-- A multiframe sent over and over: after its last digit comes its first again.
use Rattle.std.specs.Prelude.{◌≡◌, List, ℕ, ◌%◌, ◌<◌, get_or, replicate}
use Rattle.digits.specs.Digits.{digits_of, tab}
use Rattle.finder_2048.specs.Modes.{word}
use Rattle.multiframe.specs.Multiframe.{multiframe_of}

-- its digit p, counted on from one sending to the next
abbrev pub round_digit : List ℕ → ℕ → ℕ
round_digit multiframe p = get_or (digits_of multiframe) (p % 4096) 0

-- n digits of it, begun at its digit o
abbrev pub sent_over : List ℕ → ℕ → ℕ → List ℕ
sent_over multiframe o n = tab n o (round_digit multiframe)

-- no seven digits in a row equal the word but the true words, which begin with the second digit of every other frame
abbrev pub NoFalseWord : List ℕ → Type 0
NoFalseWord multiframe = (p : ℕ) → p < 4096 → tab 7 p (round_digit multiframe) ≡ word → p % 512 ≡ 1

-- such a multiframe: every digit that is lent for it is 1. proofs/Round.antt
abbrev pub ones : ℕ → List ℕ
ones bytes = replicate bytes 255

abbrev pub ones_multiframe : List ℕ
ones_multiframe = multiframe_of (ones 480) (ones 15) (ones 9)
