-- A record: a receiver's state as nine numbers and the frame in hand, and what feeding makes of it. The receiver's own definitions (crate
-- receiver, specs/Feed.antt) say what feeding is; what a reset makes of a record is crate rack's (specs/Rack.antt, `kept_reset`).
use Rattle.std.specs.Prelude.{Bool, cond, List, ℕ, eqb}
use Rattle.digits.specs.Digits.{is_yes}
use Rattle.receiver.specs.declared.State.{State}
use Rattle.receiver.specs.declared.Fed.{Fed}
use Rattle.pieces.specs.Frame.{aligned}
use Rattle.receiver.specs.Numbers.{mode_number, mode_of, fed_by}
use Rattle.records.specs.declared.record.Record.{Record}
use Rattle.records.specs.declared.record.Kept.{Kept}

-- the state that a record keeps, and the record of a state
abbrev pub state_from : Record → State
state_from r =
    record {
      level = r.level;
      window = r.window;
      seen = r.seen;
      mode = mode_of r.mode;
      place = r.place;
      frame = r.frame;
      stretch = record { digits = r.digits; zeros = r.zeros; few = is_yes r.few; alarm = is_yes r.alarm };
    }

abbrev pub record_of : State → Record
record_of s =
    record {
      level = s.level;
      window = s.window;
      seen = s.seen;
      mode = mode_number s.mode;
      place = s.place;
      digits = s.stretch.digits;
      zeros = s.stretch.zeros;
      few = cond s.stretch.few 1 0;
      alarm = cond s.stretch.alarm 1 0;
      frame = s.frame;
    }

-- ---- what feeding makes of one record

-- a piece fed to the receiver that a record keeps
abbrev pub fed_record : Record → List ℕ → ℕ → ℕ → Fed
fed_record r piece first count = fed_by (state_from r) r.few r.alarm piece first count

-- "Under a refusal nothing lent is written": the record stays as it was
abbrev pub kept_after : Fed → Record → Kept
kept_after f r = record { refusal = f.refusal; kept = cond (eqb f.refusal 0) (record_of f.state) r }

-- a record in mode aligned; "neither asks whether a record is valid"
unfoldable pub is_aligned : ℕ → Bool
is_aligned mode = aligned (mode_of mode)
