-- What a refused piece reports and leaves, a second time: specs/Feed.antt has it as one record. proofs/Nothing.antt shows it of every refused piece.
use Rattle.std.specs.Prelude.{◌≡◌, false}
use Rattle.receiver.specs.declared.State.{State}
use Rattle.receiver.specs.declared.Fed.{Fed}

-- "Under a refusal .. digits taken are 0, no frame is ready, a state comes back equal"; "A call reports the alarm at its end, under a refusal none"
pub record Nothing (s : State) (fed : Fed) : Type 0 where
  pub taken : fed.taken ≡ 0
  pub ready : fed.ready ≡ false
  pub alarm : fed.alarm ≡ false
  pub words : fed.words ≡ 0
  pub state : fed.state ≡ s
