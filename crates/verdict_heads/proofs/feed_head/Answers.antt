-- `feed_head`: the changes, by votes that have the one before the line's in front of them; then the votes.
use mathlib.Core.Path.{◌∙◌, ap}
use mathlib.Core.List.{List}
use Prim.Native.Nat.{ℕ}
use lib.ListN.{get_or}
use lib.Seq.{sets}
use Rattle.verdict_heads.specs.Heads.{votes_after}
use Rattle.verdict_heads.proofs.feed_head.Goals as goal

pub returns : goal.returns
returns c =
    let a = c.args in
    let st = a.state.now in
    c.put_votes.ensures
    ∙ ap (λ (l : List ℕ). sets l 2 (votes_after (get_or st 2 0) (get_or st 3 0) (get_or st 4 0) (get_or st 5 0) (get_or st 6 0) a.votes a.frames)) c.put_changes.ensures
