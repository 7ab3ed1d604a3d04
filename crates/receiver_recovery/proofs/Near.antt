-- How near the sharper bound is: 7 N + L - 2 digits, that is 5,944, 10,760, 20,506, at level 12 7,398 and at level 14 15,240. Here are, at each level, a valid
-- state and a line with which it takes 7 N + 3 = 5,939, 10,755 and 15,235, 7 N + 4 = 20,500, and 7 N = 7,392. The window ends with the word's first digits, up
-- to its last 1; the line begins with all but one of the zeros that end the word, and then a 0 that is no word's; and a check is due there. Window and line
-- together make a false word at that very check, one digit after a true one. So four frames pass until it is lost, the next true word comes N - 1 digits after
-- that, and two frames more.
use mathlib.Core.Path.{◌≡◌, refl, sym}
use mathlib.Core.Bool.{true≢false}
use Prim.Native.Nat.{ℕ, ◌+◌, ◌^◌, ◌<◌}
use native.Mathlib.Omega.{arith}
use lib.ListN.{replicate}
use Rattle.digits.specs.Digits.{written, tab}
use Rattle.digits.specs.Runs as runs
use Rattle.table.specs.declared.Row.{Row}
use Rattle.table.specs.Table.{row2, row3, row4, row12, row14}
use Rattle.modes.specs.declared.Mode.TheVariants.{TwoFound, Aligned}
use Rattle.receiver.specs.declared.State.{State}
use Rattle.pieces.specs.Alarm.{fresh_stretch}
use Rattle.modes.specs.Modes.{window_of, seen_of, good, asks, place_after, after_digit, step_of}
use Rattle.receiver.specs.Feed.{state_of, after_of, core_of}
use Rattle.modes.specs.Modes.{Valid}
use Rattle.receiver_promises.specs.History.{heard}
use Rattle.receiver_recovery.specs.Line.{zero_line}

-- aligned at a wrong place, with no word missed
abbrev pub late : ℕ → ℕ → ℕ → ℕ → State
late level window seen place = state_of level (record { window = window; seen = seen; mode = Aligned 0; place = place }) (replicate 366 0) fresh_stretch

-- after so many digits of the line begun at place o it is not aligned, and after one more it is
abbrev Takes : Row → State → ℕ → ℕ → Type 0
Takes row s o k = Valid row (core_of s) × ((heard row s (zero_line row o k)).mode ≡ TwoFound) × ((heard row s (zero_line row o (k + 1))).mode ≡ Aligned 0)

late-valid : (row : Row) (level window place : ℕ) → window < 2 ^ row.len → place < row.digits → Valid row (core_of (late level window row.len place))
late-valid row level window place small under =
    record { window = small; seen = omega arith; missed = omega arith; place = under; rests = λ e. absurd (true≢false (sym e)); came = λ _. omega arith }

pub near : Takes row2 (late 2 0b111101 10 844) 7 5938
unfolding runs.heard after_of step_of after_digit window_of seen_of good asks place_after written tab
near = (late-valid row2 2 0b111101 844 (omega arith) (omega arith), refl, refl)

pub near-at-34368 : Takes row3 (late 3 0b111101 10 1532) 7 10754
unfolding runs.heard after_of step_of after_digit window_of seen_of good asks place_after written tab
near-at-34368 = (late-valid row3 3 0b111101 1532 (omega arith) (omega arith), refl, refl)

pub near-at-139264 : Takes row4 (late 4 0b1111101 12 2923) 8 20499
unfolding runs.heard after_of step_of after_digit window_of seen_of good asks place_after written tab
near-at-139264 = (late-valid row4 4 0b1111101 2923 (omega arith) (omega arith), refl, refl)

pub near-at-level-12 : Takes row12 (late 12 0b1110011 8 1055) 8 7391
unfolding runs.heard after_of step_of after_digit window_of seen_of good asks place_after written tab
near-at-level-12 = (late-valid row12 12 0b1110011 1055 (omega arith) (omega arith), refl, refl)

pub near-at-level-14 : Takes row14 (late 14 0b111101 10 2172) 7 15234
unfolding runs.heard after_of step_of after_digit window_of seen_of good asks place_after written tab
near-at-level-14 = (late-valid row14 14 0b111101 2172 (omega arith) (omega arith), refl, refl)
