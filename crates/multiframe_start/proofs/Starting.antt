-- The next of the frames that are left: it begins the multiframe, or one after it does.
use mathlib.Core.Path.{◌≡◌, refl}
use mathlib.Core.Bool.{cond}
use mathlib.Core.List.{List}
use Prim.Native.Nat.{ℕ, suc, ◌+◌, ◌-◌, ◌<◌}
use native.Mathlib.Omega.{arith}
use Rattle.multiframe_start.specs.Start.{is_start, start_among}

pub start-step : (frames : List ℕ) (f : ℕ) → f < 16 → start_among frames (16 - f) ≡ cond (is_start frames f) f (start_among frames (16 - (f + 1)))
unfolding start_among
start-step frames f h =
    let left : 16 - f ≡ suc (15 - f) = omega arith in
    let here : 15 - (15 - f) ≡ f = omega arith in
    let less : 16 - (f + 1) ≡ 15 - f = omega arith in
    rw (left, less, here) refl
