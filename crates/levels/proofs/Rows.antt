-- Every row of the table has the facts that all rows share: shown of each by computation, and handed out by the level's number.
use Rattle.std.specs.Prelude.{Option, Some, None}
use mathlib.Core.Path.{◌≡◌, refl, subst}
use mathlib.Core.Bool.{Bool, cond, true, false}
use Prim.Native.Nat.{ℕ, ◌<◌}
use native.Mathlib.Omega.{arith}
use lib.Dec.{eqb, lit<}
use borrow.Author.Tests.{eqb-true}
use Rattle.digits.specs.Digits.{written, zeros_in}
use Rattle.table.specs.declared.Row.{Row}
use Rattle.table.specs.Table.{level_of, row2, row3, row4, row12, row14}
use Rattle.levels.specs.Table.{Shared}
use Rattle.levels.proofs.Choice.{cond-by}

pub shared2 : Shared row2
unfolding zeros_in written
shared2 = omega arith

pub shared3 : Shared row3
unfolding zeros_in written
shared3 = omega arith

pub shared4 : Shared row4
unfolding zeros_in written
shared4 = omega arith

pub shared12 : Shared row12
unfolding zeros_in written
shared12 = omega arith

pub shared14 : Shared row14
unfolding zeros_in written
shared14 = omega arith

-- a level's row, where there is one, has the shared facts
abbrev Known : Option Row → Type 0
Known (Some row) = Shared row
Known None = Unit {0}

known : (level : ℕ) → Known (level_of level)
unfolding level_of
known level =
    cond-by Known (eqb level 2) shared2
    (cond-by Known (eqb level 3) shared3
    (cond-by Known (eqb level 4) shared4 (cond-by Known (eqb level 12) shared12 (cond-by Known (eqb level 14) shared14 tt))))

pub shared-row : (level : ℕ) (row : Row) → level_of level ≡ Some row → Shared row
shared-row level row e = subst Known e (known level)

-- the number of a level, where it is one, is below 256: a byte holds it
abbrev Byte : ℕ → Option Row → Type 0
Byte level (Some row) = level < 256
Byte level None = Unit {0}

byte-by : (level n : ℕ) → n < 256 → (row : Row) (other : Option Row) → Byte level other → Byte level (cond (eqb level n) (Some row) other)
byte-by level n h row other b = go (eqb level n) refl
  where
    go : (t : Bool) → eqb level n ≡ t → Byte level (cond t (Some row) other)
    go true e = omega (arith, eqb-true level n e)
    go false e = b

pub level-byte : (level : ℕ) (row : Row) → level_of level ≡ Some row → level < 256
unfolding level_of
level-byte level row e =
    let fourteen = byte-by level 14 (lit< tt) row14 None tt in
    let twelve = byte-by level 12 (lit< tt) row12 _ fourteen in
    subst (Byte level) e (byte-by level 2 (lit< tt) row2 _ (byte-by level 3 (lit< tt) row3 _ (byte-by level 4 (lit< tt) row4 _ twelve)))
