-- `count_columns`: by fourteen, by eight and by eight again are all of up to 192, and each group sum is a tributary's.
use native.Mathlib.Omega.{arith}
use native.Mathlib.Decide.{dec_le}
use mathlib.Core.Path.{◌≡◌, ◌∙◌, ap}
use Prim.Native.Nat.{ℕ, ◌+◌, ◌≤◌, ◌<◌}
use Rattle.masks.specs.Masks.{columns_of}
use Rattle.masks.proofs.Added.{four-of}
use Rattle.masks.proofs.count_columns.Goals as goal

-- what is left after the first turns is at most twice eight
all_of : (k most next all : ℕ) → k < most + 16 → (k ≤ most + 8 → next ≡ k) → (most + 8 ≤ k → next ≡ most + 8) → (k ≤ next + 8 → all ≡ k) → all ≡ k
all_of k most next all few one two done =
    elim (dec_le k (most + 8)) [
      | yes h ↦ done (omega (arith, one h))
      | no h ↦ done (omega (arith, two (omega arith)))
    ]

pub by_fourteen-most-requires : goal.by_fourteen-most-requires
by_fourteen-most-requires c = (c.requires.0, c.requires.1, c.requires.2)

pub by_eight-next-requires : goal.by_eight-next-requires
by_eight-next-requires c =
    let a = c.by_fourteen-most.ensures in
    (c.requires.0, c.requires.1, c.requires.2, omega arith, a.1, a.0)

pub by_eight-all-requires : goal.by_eight-all-requires
by_eight-all-requires c =
    let a = c.by_eight-next.ensures in
    (c.requires.0, c.requires.1, c.requires.2, omega arith, a.1, a.0)

pub add_four-requires : goal.add_four-requires
add_four-requires c = (c.requires.3, c.requires.4, c.group_sum.ensures.1, c.group_sum-2.ensures.1, c.group_sum-3.ensures.1, c.group_sum-4.ensures.1)

pub returns : goal.returns
returns c =
    let a = c.args in
    let x = c.by_fourteen-most.ensures in
    let y = c.by_eight-next.ensures in
    let z = c.by_eight-all.ensures in
    let all = all_of a.k c.by_fourteen-most.result.columns c.by_eight-next.result.columns c.by_eight-all.result.columns x.2 y.2 y.3 z.2 in
    let held = z.0 in
    let same : (j : ℕ) → columns_of a.one.now a.other.now a.p j c.by_eight-all.result.columns ≡ columns_of a.one.now a.other.now a.p j a.k = λ j. ap (columns_of a.one.now a.other.now a.p j) all in
    four-of a.sums.now _ a.base c.group_sum.result c.group_sum-2.result c.group_sum-3.result c.group_sum-4.result
    (λ (j : ℕ). columns_of a.one.now a.other.now a.p j a.k) c.add_four.ensures (c.group_sum.ensures.0 ∙ held.first.sum ∙ same 0)
    (c.group_sum-2.ensures.0 ∙ held.second.sum ∙ same 1) (c.group_sum-3.ensures.0 ∙ held.third.sum ∙ same 2) (c.group_sum-4.ensures.0 ∙ held.fourth.sum ∙ same 3)
