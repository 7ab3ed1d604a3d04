-- `unmade_at` counts ones of the sum of the digits and the two stages that are fed back; the law is of Differing.
use mathlib.Core.Path.{◌≡◌}
use mathlib.Core.List.{List, []}
use Prim.Native.Nat.{ℕ, ◌+◌, ◌≤◌}
use native.Mathlib.Omega.{arith}
use lib.Bits.{bit_xor}
use lib.Count.{ones}
use Rattle.digits.specs.Digits.{digits_of}
use Rattle.digits.proofs.Laws.{digits-binary}
use Rattle.judge.specs.Counting.{wrong_among}
use Rattle.judge.proofs.Differing.{unmade-more, unmade-few}
use Rattle.judge.proofs.wrong.unmade_at.Goals as goal

-- the ones in the sum of the digits and the two stages, as they are read
abbrev sum_ones : ℕ → ℕ → ℕ → ℕ
sum_ones read stage other = ones (bit_xor other (bit_xor read stage))

pub overflow_sub-stage : goal.overflow_sub-stage
overflow_sub-stage c =
    omega (arith, c.stage_of.ensures, c.requires.1.stage c.requires.0)

pub overflow_cast-result : goal.overflow_cast-result
overflow_cast-result c =
    let made : (sent : List ℕ) → let a = c.args in let ds = digits_of a.read.now in let all = sum_ones c.read_digits.result c.read_digits-2.result c.read_digits-3.result in (all ≤ a.n) × (wrong_among a.pattern sent ds (a.p + a.n) + all ≡ wrong_among a.pattern sent ds a.p + a.n) = λ sent. let a = c.args in
    let few = unmade-few a.pattern (digits_of a.read.now) (digits-binary a.read.now) c.requires.0 (c.requires.1.stage c.requires.0) sent a.p a.n in
    let more = unmade-more a.pattern (digits_of a.read.now) (digits-binary a.read.now) c.requires.0 (c.requires.1.stage c.requires.0) sent a.p a.n in
    let staged = c.stage_of.ensures in
    rw (c.read_digits-3.ensures.0, c.read_digits.ensures.0, c.read_digits-2.ensures.0, staged) (few, more) in
    omega (arith, (made []).0)

pub overflow_sub-result : goal.overflow_sub-result
overflow_sub-result c =
    let made : (sent : List ℕ) → let a = c.args in let ds = digits_of a.read.now in let all = sum_ones c.read_digits.result c.read_digits-2.result c.read_digits-3.result in (all ≤ a.n) × (wrong_among a.pattern sent ds (a.p + a.n) + all ≡ wrong_among a.pattern sent ds a.p + a.n) = λ sent. let a = c.args in
    let few = unmade-few a.pattern (digits_of a.read.now) (digits-binary a.read.now) c.requires.0 (c.requires.1.stage c.requires.0) sent a.p a.n in
    let more = unmade-more a.pattern (digits_of a.read.now) (digits-binary a.read.now) c.requires.0 (c.requires.1.stage c.requires.0) sent a.p a.n in
    let staged = c.stage_of.ensures in
    rw (c.read_digits-3.ensures.0, c.read_digits.ensures.0, c.read_digits-2.ensures.0, staged) (few, more) in
    omega (arith, (made []).0)

pub returns : goal.returns
returns c =
    let made : (sent : List ℕ) → let a = c.args in let ds = digits_of a.read.now in let all = sum_ones c.read_digits.result c.read_digits-2.result c.read_digits-3.result in (all ≤ a.n) × (wrong_among a.pattern sent ds (a.p + a.n) + all ≡ wrong_among a.pattern sent ds a.p + a.n) = λ sent. let a = c.args in
    let few = unmade-few a.pattern (digits_of a.read.now) (digits-binary a.read.now) c.requires.0 (c.requires.1.stage c.requires.0) sent a.p a.n in
    let more = unmade-more a.pattern (digits_of a.read.now) (digits-binary a.read.now) c.requires.0 (c.requires.1.stage c.requires.0) sent a.p a.n in
    let staged = c.stage_of.ensures in
    rw (c.read_digits-3.ensures.0, c.read_digits.ensures.0, c.read_digits-2.ensures.0, staged) (few, more) in
    (λ sent. omega (arith, (made sent).0, (made sent).1), omega arith)
