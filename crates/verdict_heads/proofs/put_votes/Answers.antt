-- `put_votes`: five stores.
use mathlib.Core.List.{[], ◌∷◌}
use native.Mathlib.Omega.{arith}
use lib.Seq.{length-sets}
use Rattle.verdict_heads.proofs.put_votes.Goals as goal

pub vote_at-now_older-requires : goal.vote_at-now_older-requires
vote_at-now_older-requires c = omega (arith, c.requires.1)

pub vote_at-now_last-requires : goal.vote_at-now_last-requires
vote_at-now_last-requires c = omega (arith, c.requires.1)

pub vote_at-now_older_all-requires : goal.vote_at-now_older_all-requires
vote_at-now_older_all-requires c = omega (arith, c.requires.1)

pub vote_at-now_last_all-requires : goal.vote_at-now_last_all-requires
vote_at-now_last_all-requires c = omega (arith, c.requires.1)

pub overflow_add-frames : goal.overflow_add-frames
overflow_add-frames c = omega (arith, c.requires.1)

pub overflow_add-frames-2 : goal.overflow_add-frames-2
overflow_add-frames-2 c = omega (arith, c.requires.1)

pub bounds-state-6 : goal.bounds-state-6
bounds-state-6 c = omega (arith, length-sets c.args.state.now 2 (c.came_after.result ∷ c.vote_at-now_older.result ∷ c.vote_at-now_last.result ∷ c.vote_at-now_older_all.result ∷ []), c.requires.0)

pub shape_of-state : goal.shape_of-state
shape_of-state c = length-sets c.args.state.now 2 (c.came_after.result ∷ c.vote_at-now_older.result ∷ c.vote_at-now_last.result ∷ c.vote_at-now_older_all.result ∷ c.vote_at-now_last_all.result ∷ [])

pub returns : goal.returns
returns c = rw (c.came_after.ensures, c.vote_at-now_older.ensures, c.vote_at-now_last.ensures, c.vote_at-now_older_all.ensures, c.vote_at-now_last_all.ensures)
