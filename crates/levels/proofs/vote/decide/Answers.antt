-- `decide` is `vote_by`: the smaller part dissents.
use Rattle.levels.specs.Vote.{vote_by}
use Rattle.levels.proofs.vote.decide.Goals as goal

pub returns : goal.returns
unfolding vote_by
returns c = rw c.min.ensures
