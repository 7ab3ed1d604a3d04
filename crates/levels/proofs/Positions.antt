-- Where a place stands: frame, set and place in the set are the one way to write it as a sum, so a walk may carry the
-- three along and never divide.
use mathlib.Core.Path.{◌≡◌, sym, ◌∙◌, ap}
use Prim.Native.Nat.{ℕ, ◌+◌, ◌*◌, ◌%◌, ◌-◌, ◌≤◌, ◌<◌}
use native.Mathlib.Omega.{arith}
use native.Mathlib.Nat.{div-add-mod', mod-lt, div-lt_iff_lt-mul, add-mul}
use lib.Arith.{digits_lt, digits_div, digits_mod}
use Rattle.table.specs.declared.Row.{Row}
use Rattle.levels.specs.declared.places.At.{At}
use Rattle.levels.specs.Table.{Shared}
use Rattle.levels.specs.Places.{pos_of}

module _ (row : Row) (sh : Shared row) where
  -- a place in a set before the frame's end is a place in the frame
  pub in_frame : (s r : ℕ) → s < row.sets → r < row.set → s * row.set + r < row.digits
  in_frame s r hs hr = rw sh.whole (digits_lt hs hr)

  pub pos-unique : (f s r : ℕ) → s < row.sets → r < row.set → pos_of row (f * row.digits + (s * row.set + r)) ≡ record { frame = f; set = s; place = r }
  unfolding pos_of
  pos-unique f s r hs hr =
      rw (digits_div f (in_frame s r hs hr), digits_mod f (in_frame s r hs hr), digits_div s hr, digits_mod s hr)

  -- what a position says of its place
  pub record Stands (p : ℕ) (at : At) : Type 0 where
    pub sum : p ≡ at.frame * row.digits + (at.set * row.set + at.place)
    pub set_in : at.set < row.sets
    pub place_in : at.place < row.set

  pub stands : (p : ℕ) → Stands p (pos_of row p)
  unfolding pos_of
  stands p =
      let set-some : 0 < row.set = omega (arith, sh.room) in
      let digits-some : 0 < row.digits = omega (arith, in_frame 0 0 (omega (arith, sh.later_set)) set-some) in
      let r = p % row.digits in
      let inside : r < row.sets * row.set = omega (arith, sh.whole, mod-lt p digits-some) in
      record {
        sum = omega (arith, div-add-mod' p row.digits, div-add-mod' r row.set);
        set_in = (div-lt_iff_lt-mul set-some).1 inside;
        place_in = mod-lt r set-some;
      }

  pub stands_at : (p : ℕ) (at : At) → at ≡ pos_of row p → Stands p at
  stands_at p at e = rw e (stands p)

  pub pos-of-sum : (p f s r : ℕ) → p ≡ f * row.digits + (s * row.set + r) → s < row.sets → r < row.set → pos_of row p ≡ record { frame = f; set = s; place = r }
  pos-of-sum p f s r e hs hr = rw e (pos-unique f s r hs hr)

  -- four places on: in the same set, in the next set, in the next frame
  module _ (p : ℕ) (at : At) (e : at ≡ pos_of row p) where
    pub next-in-set : at.place + 4 < row.set → record { frame = at.frame; set = at.set; place = at.place + 4 } ≡ pos_of row (p + 4)
    next-in-set h =
        let st = stands_at p at e in
        sym (pos-of-sum (p + 4) at.frame at.set (at.place + 4) (omega (arith, st.sum)) st.set_in h)

    pub next-set : row.set ≤ at.place + 4 → at.set + 1 < row.sets → record { frame = at.frame; set = at.set + 1; place = at.place + 4 - row.set } ≡ pos_of row (p + 4)
    next-set h hs =
        let st = stands_at p at e in
        let next : p + 4 ≡ at.frame * row.digits + ((at.set + 1) * row.set + (at.place + 4 - row.set)) = omega (arith, st.sum, add-mul at.set 1 row.set) in
        sym (pos-of-sum (p + 4) at.frame (at.set + 1) (at.place + 4 - row.set) next hs (omega (arith, st.place_in, sh.room)))

    pub next-frame : row.set ≤ at.place + 4 → row.sets ≤ at.set + 1 → record { frame = at.frame + 1; set = 0; place = at.place + 4 - row.set } ≡ pos_of row (p + 4)
    next-frame h hs =
        let st = stands_at p at e in
        let last : at.set + 1 ≡ row.sets = omega (arith, st.set_in) in
        let whole : (at.set + 1) * row.set ≡ row.digits = ap (λ (k : ℕ). k * row.set) last ∙ sym sh.whole in
        let next : p + 4 ≡ (at.frame + 1) * row.digits + (0 * row.set + (at.place + 4 - row.set)) =
        omega (arith, st.sum, whole, add-mul at.set 1 row.set, add-mul at.frame 1 row.digits) in
        sym (pos-of-sum (p + 4) (at.frame + 1) 0 (at.place + 4 - row.set) next (omega (arith, sh.later_set)) (omega (arith, st.place_in, sh.room)))
