-- Laws of tests: what is asked with `cond`, with "or" and with "and" tells what was asked.
use mathlib.Core.Path.{◌≡◌, refl, sym}
use mathlib.Core.Bool.{Bool, cond, true, false, not, ◌&&◌, ◌||◌, true≢false}

-- what the test says may be used in either answer
pub cond-told : {A : Type 0} (P : A → Type 0) (t : Bool) {a b : A} → (t ≡ true → P a) → (t ≡ false → P b) → P (cond t a b)
cond-told P true x y = x refl
cond-told P false x y = y refl

-- neither of two
pub or-neither : (a b : Bool) → (a || b) ≡ false → (a ≡ false) × (b ≡ false)
or-neither false b e = (refl, e)
or-neither true b e = absurd (true≢false e)

-- a test that is asked only where another holds
pub and-asked : (a b : Bool) → (a && b) ≡ false → a ≡ true → b ≡ false
and-asked true b e h = e
and-asked false b e h = absurd (true≢false (sym h))

pub and_both : (a b : Bool) → (a && b) ≡ true → (a ≡ true) × (b ≡ true)
and_both true b e = (refl, e)
and_both false b e = absurd (true≢false (sym e))

pub not-true : (t : Bool) → not t ≡ false → t ≡ true
not-true true e = refl
not-true false e = absurd (true≢false e)
