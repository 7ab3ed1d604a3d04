-- `is_invalid` is `invalid`.
use native.Mathlib.Omega.{arith}
use lib.Pow.{pow_pos}
use Rattle.std.proofs.lemmas.Grind.{common_steps}
use Rattle.std.proofs.lemmas.Bool.Decides.{nat_tests}
use Rattle.receiver.specs.Feed.{invalid}
use Rattle.receiver.proofs.is_invalid.Goals as goal
use Rattle.receiver.proofs.is_invalid.Goals.{then-mask_of-c, else-mask_of-c, then-row-c, else-row-c, then-missed_of-gt3, else-missed_of-gt3}

pub returns-then-row-c-2 : goal.returns-then-row-c-2
unfolding invalid
returns-then-row-c-2 c =
    elim c.if-mask_of-c.branch [
      | then-mask_of-c u ↦ grind (arith, common_steps, nat_tests, pow_pos c.args.row.len)
      | else-mask_of-c u ↦
          elim c.if-row-c.branch [
            | then-row-c v ↦ grind (arith, common_steps, nat_tests, pow_pos c.args.row.len)
            | else-row-c v ↦
                elim c.if-missed_of-gt3.branch [
                  | then-missed_of-gt3 w ↦ grind (arith, common_steps, nat_tests, pow_pos c.args.row.len)
                  | else-missed_of-gt3 w ↦ grind (arith, common_steps, nat_tests, pow_pos c.args.row.len)
                ]
          ]
    ]

pub returns-then-is_hunting : goal.returns-then-is_hunting
unfolding invalid
returns-then-is_hunting c = grind (arith, common_steps, nat_tests, pow_pos c.args.row.len)

pub returns-else-is_hunting : goal.returns-else-is_hunting
unfolding invalid
returns-else-is_hunting c = grind (arith, common_steps, nat_tests, pow_pos c.args.row.len)
