-- Calls in turn. A stream of digits comes in pieces; a call stops at a frame, and the caller calls again with the rest of its piece (crate digits,
-- specs/Runs.antt). Here is what such calls hand over and test, and what the stream of all their digits does. proofs/Calls.antt says that the two are one.
use Rattle.std.specs.Prelude.{List, [], ◌∷◌, map, ℕ, ◌+◌}
use Rattle.digits.specs.Runs.{Run, Stop, stops_of, Piece, said_by}
use Rattle.table.specs.declared.Row.{Row}
use Rattle.receiver.specs.declared.State.{State}
use Rattle.receiver.specs.declared.Fed.{Fed}
use Rattle.receiver.specs.Feed.{after_of, feed_of}
use Rattle.receiver_promises.specs.History.{ready_at}

abbrev pub answer_to : State → Piece → Fed
answer_to s p = feed_of s p.slice p.first p.count

-- an answer as a run, and so a call: it stopped where a frame is ready
abbrev pub as_run : Fed → Run State
as_run f = record { taken = f.taken; stopped = f.ready; state = f.state }

abbrev pub call_of : State → Piece → Run State
call_of s p = as_run (answer_to s p)

-- a frame handed over where it stops: after how many digits of the stream, and the array
pub record Delivered : Type 0 where
  pub after : ℕ
  pub frame : List ℕ

abbrev pub delivered : Stop State → Delivered
delivered stop = record { after = stop.after; frame = stop.state.frame }

-- what these digits hand over, where so many came before
abbrev pub streamed : Row → ℕ → State → List ℕ → List Delivered
streamed row before s ds = map delivered (stops_of (after_of row) (ready_at row) before s ds)

-- what calls hand over, where so many digits came before
abbrev pub handed_by : ℕ → State → List Piece → List Delivered
handed_by before s ps = map delivered (said_by call_of before s ps)

-- the words that they test
unfoldable pub words_by : State → List Piece → ℕ
words_by s [] = 0
words_by s (p ∷ ps) = (answer_to s p).words + words_by (answer_to s p).state ps
