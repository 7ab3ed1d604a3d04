-- The walk along one tributary's columns, as the multiplexer's pass and the demultiplexer's extraction both make it: what they carry
-- along, how it moves on, and what is known of a column inside a line of F frames.
use mathlib.Core.Path.{◌≡◌, refl, sym, ◌∙◌, ap}
use mathlib.Core.Bool.{cond, true}
use Prim.Native.Nat.{ℕ, suc, ◌+◌, ◌*◌, ◌≤◌, ◌<◌}
use native.Mathlib.Omega.{arith}
use native.Mathlib.Numerals.{add-one}
use native.Mathlib.Nat.{lt_of_mul-lt-mul_right, mul_left_comm}
use Rattle.table.specs.declared.Row.{Row}
use Rattle.levels.specs.declared.places.At.{At}
use Rattle.levels.specs.Table.{Shared}
use Rattle.levels.specs.Places.{kind_of, pos_of}
use Rattle.levels.specs.Sizes.{Fits}
use Rattle.levels.specs.declared.order.Action.{Action}
use Rattle.levels.specs.Order.{carried, carries, before}
use Rattle.levels.proofs.Positions.{Stands, stands_at, pos-of-sum}
use Rattle.levels.proofs.Counts.{count-of, count_room}
use Rattle.levels.proofs.Inverse.{before-rises}
use Rattle.levels.proofs.Judged.{room_small, short-line}

module _ (row : Row) (sh : Shared row) (j : ℕ) (jh : j < 4) (acts : ℕ → Action) where
  -- at column x: the number of the tributary's next digit, and where the column stands
  pub record Walking (x i : ℕ) (at : At) : Type 0 where
    pub index : i ≡ before row acts j x
    pub place : at ≡ pos_of row (4 * x + j)

  pub walk_start : Walking 0 0 (record { frame = 0; set = 0; place = j })
  unfolding before
  walk_start =
      record {
        index = refl;
        place = sym (pos-of-sum row sh (4 * 0 + j) 0 0 j (omega arith) (omega (arith, sh.later_set)) (omega (arith, sh.room)));
      }

  -- the column's kind and what the frame does say whether it carries a digit
  pub here : (x i : ℕ) (at : At) → Walking x i at → carried (kind_of row at.set at.place) (acts at.frame) ≡ carries row acts (4 * x + j)
  unfolding carries
  here x i at w = rw w.place

  -- one column on
  pub walk-next : (x i : ℕ) (at : At) → Walking x i at → (i' : ℕ) (at' : At)
      → i' ≡ i + cond (carried (kind_of row at.set at.place) (acts at.frame)) 1 0
      → ((p : ℕ) → at ≡ pos_of row p → at' ≡ pos_of row (p + 4))
      → Walking (x + 1) i' at'
  unfolding before
  walk-next x i at w i' at' ei ea =
      let four : 4 * x + j + 4 ≡ 4 * (x + 1) + j = omega arith in
      record {
        index = ei ∙ rw (here x i at w, w.index, add-one x) refl;
        place = ea (4 * x + j) w.place ∙ ap (λ (p : ℕ). pos_of row p) four;
      }

-- what a walk may rely on at a column inside a line that fits its notes and its quarter
pub record Column (row : Row) (line notes quarter j : ℕ) (acts : ℕ → Action) (x i : ℕ) (at : At) : Type 0 where
  pub line_short : line ≤ 65536
  pub place_in_line : 4 * x + j < 8 * line
  pub frame_noted : at.frame < notes
  pub frame_few : at.frame ≤ 64
  pub set_in : at.set < row.sets
  pub place_in : at.place < row.set
  pub index_small : i < 65536
  pub index_room : carried (kind_of row at.set at.place) (acts at.frame) ≡ true → i < 8 * quarter

module _ {row : Row} {line notes quarter j : ℕ} (fits : Fits row line notes quarter) (jh : j < 4) {acts : ℕ → Action} {x i : ℕ} {at : At}
    (w : Walking row fits.shared j jh acts x i at) (h : x < 2 * line) where
  abbrev sh : Shared row
  sh = fits.shared

  stands : Stands row sh (4 * x + j) at
  stands = stands_at row sh (4 * x + j) at w.place

  line-digits : 8 * line ≡ notes * row.digits
  line-digits = ap (λ (k : ℕ). 8 * k) fits.whole ∙ mul_left_comm 8 notes row.bytes ∙ ap (λ (k : ℕ). notes * k) (sym sh.packed)

  frame-in : at.frame < notes
  frame-in = lt_of_mul-lt-mul_right row.digits (omega (arith, stands.sum, line-digits))

  most : before row acts j (2 * line) ≤ notes * row.room
  most = omega (arith, count-of row sh j jh acts notes line fits.whole, count_room row sh j jh acts notes)

  -- a column that carries a digit has one of those that there is room for
  has_room : carried (kind_of row at.set at.place) (acts at.frame) ≡ true → i < 8 * quarter
  unfolding before
  has_room c =
      let one : cond {A = ℕ} (carries row acts (4 * x + j)) 1 0 ≡ 1 = rw (sym (here row sh j jh acts x i at w) ∙ c) in
      omega (arith, w.index, one, before-rises row acts j (suc x) (2 * line) (omega arith), most, fits.room)

  pub column : Column row line notes quarter j acts x i at
  column =
      record {
        line_short = short-line row sh notes line fits.few fits.whole;
        place_in_line = omega arith;
        frame_noted = frame-in;
        frame_few = omega (arith, frame-in, fits.few);
        set_in = stands.set_in;
        place_in = stands.place_in;
        index_small = omega (arith, w.index, before-rises row acts j x (2 * line) (omega arith), most, room_small row sh notes fits.few);
        index_room = has_room;
      }
