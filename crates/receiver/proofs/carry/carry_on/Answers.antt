-- `carry_on` leaves the same to do (proofs/Carries.antt).
use mathlib.Core.Path.{◌≡◌, refl, sym, ap, ◌∙◌}
use Prim.Native.Nat.{◌+◌, ◌-◌}
use native.Mathlib.Omega.{arith}
use Rattle.pieces.specs.Carry.{gone_on}
use Rattle.receiver.proofs.Carries.{go-below, go-before, go-fits, carried_none, carried-copy, carried-past, carried-is}
use Rattle.receiver.proofs.carry.carry_on.Goals as goal

pub returns-then-is_hunting : goal.returns-then-is_hunting
returns-then-is_hunting c =
    carried_none c.args.row c.requires.0 c.args.piece.now c.args.end c.args.first c.args.c _ c.requires.2 c.requires.4

pub copy-requires : goal.copy-requires
copy-requires c =
    let n = c.min.ensures in
    let t = c.if-c-last.true in (
      omega arith,
      omega (arith, n, c.requires.4, c.requires.5),
      c.requires.3,
      go-fits c.args.row.len c.args.row.digits c.args.c.place _ c.args.first (go-below _ _ _ _ n t) c.requires.0.short,
    )

pub gone_on-requires : goal.gone_on-requires
gone_on-requires c =
    (c.requires.0, c.requires.1, c.requires.2, c.requires.3, omega arith, omega (arith, c.min.ensures, c.requires.4, c.requires.5))

pub returns-then-c-last : goal.returns-then-c-last
returns-then-c-last c =
    let n = c.min.result in
    let e = c.min.ensures in
    let t = c.if-c-last.true in
    let hunts = sym c.is_hunting.ensures ∙ c.if-is_hunting.false in
    let k : c.args.first + n - c.args.first ≡ n = omega arith in
    carried-is c.args.row c.requires.0 _ _ _ _ _ _ _ _ _ _ _ (c.gone_on.ensures.0 ∙ ap (gone_on c.args.row c.args.piece.now c.args.first c.args.c) k)
    c.gone_on.ensures.1 c.copy.ensures
    (carried-copy c.args.row c.requires.0 c.args.piece.now c.args.end c.args.first c.args.c c.requires.2 hunts c.requires.5 _ n (go-below _ _ _ _ e t)
    (go-before _ _ _ _ e c.requires.4))

pub gone_on-requires-else-c-last : goal.gone_on-requires-else-c-last
gone_on-requires-else-c-last c =
    (c.requires.0, c.requires.1, c.requires.2, c.requires.3, omega arith, omega (arith, c.min-else-c-last.ensures, c.requires.4, c.requires.5))

pub returns-else-c-last : goal.returns-else-c-last
returns-else-c-last c =
    let n = c.min-else-c-last.result in
    let e = c.min-else-c-last.ensures in
    let t = c.if-c-last.false in
    let hunts = sym c.is_hunting.ensures ∙ c.if-is_hunting.false in
    let k : c.args.first + n - c.args.first ≡ n = omega arith in
    carried-is c.args.row c.requires.0 _ _ _ _ _ _ _ _ _ _ _ (c.gone_on-else-c-last.ensures.0 ∙ ap (gone_on c.args.row c.args.piece.now c.args.first c.args.c) k)
    c.gone_on-else-c-last.ensures.1 refl
    (carried-past c.args.row c.requires.0 c.args.piece.now c.args.end c.args.first c.args.c c.requires.2 hunts c.requires.5 _ n t
    (go-below _ _ _ _ e c.requires.2.place) (go-before _ _ _ _ e c.requires.4))
