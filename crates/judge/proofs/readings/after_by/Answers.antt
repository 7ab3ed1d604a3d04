-- `after_by`: the votes moved towards the beginning, the unknown one behind them.
use mathlib.Core.Path.{◌≡◌, ◌∙◌, ap}
use Prim.Native.Nat.{ℕ, ◌+◌, ◌-◌, ◌/◌}
use native.Mathlib.Omega.{arith}
use lib.ListN.{length, set, take, drop}
use Rattle.judge.specs.Readings.{majorities, after_votes}
use Rattle.judge.proofs.Quartered.{by-votes, lent_length, moved_fit, early-first, early-votes}
use Rattle.judge.proofs.readings.after_by.Goals as goal

pub slice_bounds-wrong_by-end : goal.slice_bounds-wrong_by-end
slice_bounds-wrong_by-end c =
    omega (arith, moved_fit c.requires.1 c.requires.0.accepted.framed.few (length c.args.line.now / c.args.row.bytes + 1) c.args.unknown)

pub wrong_by-requires : goal.wrong_by-requires
wrong_by-requires c =
    let F = length c.args.line.now / c.args.row.bytes in
    let fits = moved_fit c.requires.1 c.requires.0.accepted.framed.few (F + 1) c.args.unknown in
    (c.requires.0, omega (arith, lent_length 2 (F + 2) (set c.args.votes (F + 1) c.args.unknown) fits))

pub returns : goal.returns
returns c =
    let a = c.args in
    let line = a.line.now in
    let F = length line / a.row.bytes in
    let few = c.requires.0.accepted.framed.few in
    let e : F + 2 - 2 ≡ F = omega arith in
    let moved = set a.votes (F + 1) a.unknown in
    let notes = ap (λ (n : ℕ). take n (drop 2 moved)) e ∙ early-votes c.requires.1 a.unknown few in
    let first = c.from-first.ensures ∙ early-first c.requires.1 a.unknown few in
    c.wrong_by.ensures
    ∙ by-votes a.row line a.pattern a.buffer.now (after_votes (majorities a.row line) a.unknown) first notes
