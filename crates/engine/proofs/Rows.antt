-- Every row of the table is as the code needs it: shown of each by computation, and handed out by the level's number.
use Rattle.std.specs.Prelude.{Option, Some, None}
use mathlib.Core.Path.{◌≡◌, subst}
use mathlib.Core.Bool.{Bool, cond, true, false}
use Prim.Native.Nat.{ℕ}
use native.Mathlib.Omega.{arith}
use lib.Dec.{eqb}
use Rattle.table.specs.declared.Row.{Row}
use Rattle.table.specs.Table.{level_of, row2, row3, row4, row12, row14}
use Rattle.engine.specs.Walk.{Regular}

regular2 : Regular row2
regular2 = omega arith

regular3 : Regular row3
regular3 = omega arith

regular4 : Regular row4
regular4 = omega arith

regular12 : Regular row12
regular12 = omega arith

regular14 : Regular row14
regular14 = omega arith

abbrev Known : Option Row → Type 0
Known (Some row) = Regular row
Known None = Unit {0}

-- a property of both answers is one of the answer that is taken
pub cond-by {ℓ} : {A : Type 0} (P : A → Type ℓ) (t : Bool) {a b : A} → P a → P b → P (cond t a b)
cond-by P true x y = x
cond-by P false x y = y

known : (level : ℕ) → Known (level_of level)
unfolding level_of
known level =
    cond-by Known (eqb level 2) regular2
    (cond-by Known (eqb level 3) regular3
    (cond-by Known (eqb level 4) regular4 (cond-by Known (eqb level 12) regular12 (cond-by Known (eqb level 14) regular14 tt))))

pub regular-row : (level : ℕ) (row : Row) → level_of level ≡ Some row → Regular row
regular-row level row e = subst Known e (known level)
