-- `before_by`: the votes moved towards the end, the vote before them first.
use mathlib.Core.Path.{◌≡◌, ◌∙◌, ap}
use Prim.Native.Nat.{ℕ, ◌-◌, ◌/◌}
use native.Mathlib.Omega.{arith}
use lib.ListN.{length, set, take}
use Rattle.judge.specs.Readings.{majorities, before_votes}
use Rattle.judge.proofs.Quartered.{by-votes, lent_length, moved_fit, late-votes}
use Rattle.judge.proofs.readings.before_by.Goals as goal

pub slice_bounds-wrong_by-end : goal.slice_bounds-wrong_by-end
slice_bounds-wrong_by-end c =
    omega (arith, moved_fit c.requires.1 c.requires.0.accepted.framed.few 0 c.vote_before.result)

pub wrong_by-requires : goal.wrong_by-requires
wrong_by-requires c =
    let F = length c.args.line.now / c.args.row.bytes in
    let w = c.vote_before.result in
    let fits = moved_fit c.requires.1 c.requires.0.accepted.framed.few 0 w in
    (c.requires.0, omega (arith, lent_length 0 F (set c.args.votes 0 w) (omega (arith, fits))))

pub returns : goal.returns
returns c =
    let w = c.vote_before in
    let a = c.args in
    let line = a.line.now in
    let F = length line / a.row.bytes in
    let e : F - 0 ≡ F = omega arith in
    let notes =
    ap (λ (n : ℕ). take n (set a.votes 0 w.result)) e
    ∙ ap (λ (x : ℕ). take F (set a.votes 0 x)) w.ensures
    ∙ late-votes c.requires.1 _ in
    c.wrong_by.ensures
    ∙ by-votes a.row line a.pattern a.buffer.now (before_votes a.row a.earlier (majorities a.row line) a.unknown) c.from.ensures notes
