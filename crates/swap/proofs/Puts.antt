-- The three ways of one place of a walk, as `Put` states them.
use mathlib.Core.Path.{◌≡◌, refl}
use mathlib.Core.Bool.{true, false, true≢false}
use mathlib.Core.List.{List}
use Prim.Native.Nat.{ℕ, ◌+◌}
use native.Mathlib.Omega.{arith}
use lib.ListN.{get_or, set}
use Rattle.digits.specs.Digits.{digits_of, Bytes}
use Rattle.table.specs.declared.Row.{Row}
use Rattle.levels.specs.declared.order.Action.{Action}
use Rattle.levels.specs.declared.places.At.{At}
use Rattle.levels.specs.declared.places.Kind.{Kind}
use Rattle.levels.specs.declared.places.Kind.TheVariants.{Word, Service, Control, Justification, Tributary}
use Rattle.levels.specs.Places.{is_own, kind_of}
use Rattle.levels.specs.Order.{carried}
use Rattle.levels.specs.Line.{digit_by}
use Rattle.levels.proofs.Line.{digit-carried}
use Rattle.swap.specs.Filling.{Put}

-- a place that is no own place carries nothing
none-carried : (k : Kind) (act : Action) → is_own k ≡ false → carried k act ≡ false
none-carried Word act o = refl
none-carried (Service s) act o = refl
none-carried Control act o = refl
none-carried (Justification sign) act o = absurd (true≢false o)
none-carried Tributary act o = o

module _ (row : Row) (at : At) (old : List ℕ) (p : ℕ) (ds : List ℕ) (i note : ℕ) (act : Action) (j : ℕ) where
  abbrev kind : Kind
  kind = kind_of row at.set at.place

  pub put-none : is_own kind ≡ false → Put row at old p ds i note act j i old
  put-none o = record { index = rw (none-carried kind act o) (omega arith); digits = rw o; bytes = λ b. b }

  module _ (own : is_own kind ≡ true) (new : List ℕ) (bytes : Bytes new) where
    pub put-carried : carried kind act ≡ true → digits_of new ≡ set (digits_of old) p (get_or ds i 0) → Put row at old p ds i note act j (i + 1) new
    put-carried c e =
        record {
          index = rw c;
          digits = rw (own, digit-carried row note act j at.place (get_or ds i 0) kind c) e;
          bytes = λ b. bytes;
        }

    pub put-idle : carried kind act ≡ false → (d : ℕ) → d ≡ digit_by row note act j at.place (get_or ds i 0) kind → digits_of new ≡ set (digits_of old) p d
        → Put row at old p ds i note act j i new
    put-idle c d is e =
        record {
          index = rw c (omega arith);
          digits = rw (own, ← is) e;
          bytes = λ b. bytes;
        }
