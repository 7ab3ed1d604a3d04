-- What is known of a place by what stands there: a digit of the alignment signal is one of its first digits, a service digit one of those
-- after it.
use mathlib.Core.Path.{◌≡◌, refl, subst}
use mathlib.Core.Bool.{Bool, cond, true, false}
use Prim.Native.Nat.{ℕ, ◌+◌, ◌%◌, ◌≤◌, ◌<◌}
use lib.Dec.{ltb}
use borrow.Author.Tests.{ltb-true, ltb-false}
use Rattle.table.specs.declared.Row.{Row}
use Rattle.engine.specs.declared.frame.Place.{Place}
use Rattle.engine.specs.declared.frame.Place.TheVariants.{Alignment, Service, Fixed, Control, Negative, Positive, Tributary}
use Rattle.engine.specs.Engine.{place_in}
use Rattle.engine.proofs.Rows.{cond-by}

-- the same where the test says what it found
pub cond-known {ℓ} : {A : Type 0} (P : A → Type ℓ) (t : Bool) {a b : A} → (t ≡ true → P a) → (t ≡ false → P b) → P (cond t a b)
cond-known P true x y = x refl
cond-known P false x y = y refl

module _ (row : Row) (q : ℕ) where
  abbrev Known : Place → Type 0
  Known Alignment = q < row.len
  Known Service = (row.len ≤ q) × (q < row.len + row.alarms + row.nationals)
  Known Fixed = Unit {0}
  Known Control = Unit {0}
  Known Negative = Unit {0}
  Known Positive = Unit {0}
  Known Tributary = Unit {0}

  known : Known (place_in row q)
  unfolding place_in
  known =
      cond-known Known (ltb q row.len) (λ e. ltb-true q row.len e)
      (λ n.
      cond-known Known (ltb q (row.len + row.alarms + row.nationals))
      (λ e. (ltb-false q row.len n, ltb-true q (row.len + row.alarms + row.nationals) e))
      (λ _.
      cond-by Known (ltb q row.first) tt
      (cond-by Known (ltb q row.set) tt
      (cond-by Known (ltb (q % row.set) 4) tt
      (cond-by Known (ltb (q + row.set) row.digits) (cond-by Known (ltb (q % row.set) row.middle) tt tt)
      (cond-by Known (ltb (q % row.set + 4) row.last) tt (cond-by Known (ltb (q % row.set) row.last) tt tt)))))))

  pub in-word : place_in row q ≡ Alignment → q < row.len
  in-word e = subst Known e known

  pub in-service : place_in row q ≡ Service → (row.len ≤ q) × (q < row.len + row.alarms + row.nationals)
  in-service e = subst Known e known
