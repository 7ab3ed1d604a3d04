-- What a call may rely on where its lengths are accepted: the line is F whole frames, F at most 64; there are F notes; the
-- buffer is four quarters, and each has room for F frames.
use mathlib.Core.Path.{◌≡◌, refl}
use mathlib.Core.Bool.{Bool, cond, true, false, not, ◌||◌, true≢false}
use Prim.Native.Nat.{ℕ, ◌*◌, ◌/◌, ◌%◌, ◌≤◌}
use native.Mathlib.Omega.{arith}
use native.Mathlib.Nat.{mul-le-mul, div-add-mod'}
use lib.Dec.{eqb, ltb}
use native.Mathlib.Decide.{ℕ_discrete}
use borrow.Author.Tests.{eq-eqb, ne_eqb, le-ltb, eqb-true, ltb-false, not-false}
use Rattle.table.specs.declared.Row.{Row}
use Rattle.levels.specs.Table.{Shared}
use Rattle.levels.specs.Sizes.{frames_of, bad_line, bad_notes, bad_buffer, frames_refusal, size_refusal, Framed, Accepted, Fits}

pub room_small : (row : Row) → Shared row → (f : ℕ) → f ≤ 64 → f * row.room ≤ 47360
room_small row sh f h = omega (arith, mul-le-mul {n₁ = f} {m₁ = row.room} {n₂ = 64} {m₂ = 740} h (omega (arith, sh.counted, sh.most, sh.last_most, sh.short)))

-- where neither of two faults is there
neither : (a b : Bool) → not a || b ≡ false → (a ≡ true) × (b ≡ false)
neither true b e = (refl, e)
neither false b e = absurd (true≢false e)

pub line-frames : (row : Row) (line : ℕ) → bad_line row line ≡ false → (line % row.bytes ≡ 0) × (frames_of row line ≤ 64)
line-frames row line e =
    let both = neither (eqb (line % row.bytes) 0) (ltb 64 (frames_of row line)) e in
    (eqb-true (line % row.bytes) 0 both.0, ltb-false 64 (frames_of row line) both.1)

-- a refusal number that is 0 was given by no test
pub unrefused : (t : Bool) (a b : ℕ) → (a ≡ 0 → ⊥) → cond t a b ≡ 0 → (t ≡ false) × (b ≡ 0)
unrefused true a b n e = absurd (n e)
unrefused false a b n e = (refl, e)

pub framed : (row : Row) (line notes : ℕ) → frames_refusal row line notes ≡ 0 → Framed row line notes
unfolding frames_refusal
framed row line notes e =
    let two = unrefused (bad_line row line) 2 _ (λ z. omega arith) e in
    let three = unrefused (bad_notes row line notes) 3 0 (λ z. omega arith) two.1 in
    let whole = line-frames row line two.0 in
    record {
      frames = omega (arith, div-add-mod' line row.bytes, whole.0);
      few = whole.1;
      noted = eqb-true notes (frames_of row line) (not-false (eqb notes (frames_of row line)) three.0);
    }

-- a number that is 0 before another comes up is 0, and so is the other
pub neither-refused : (n m : ℕ) → cond (eqb n 0) m n ≡ 0 → (n ≡ 0) × (m ≡ 0)
neither-refused n m e =
    elim (ℕ_discrete n 0) [
      | yes z ↦ (z, rw (eq-eqb n 0 z) at e)
      | no z ↦ absurd (z (rw (ne_eqb n 0 z) at e))
    ]

pub accepted : (row : Row) (line notes buffer : ℕ) → size_refusal row line notes buffer ≡ 0 → Accepted row line notes buffer
unfolding size_refusal
accepted row line notes buffer e =
    let both = neither-refused (frames_refusal row line notes) (cond (bad_buffer row line buffer) 4 0) e in
    let four = unrefused (bad_buffer row line buffer) 4 0 (λ z. omega arith) both.1 in
    let room = neither (eqb (buffer % 4) 0) (ltb (8 * (buffer / 4)) (frames_of row line * row.room)) four.0 in
    let fours = eqb-true (buffer % 4) 0 room.0 in
    record {
      framed = framed row line notes both.0;
      quarters = omega arith;
      room = ltb-false (8 * (buffer / 4)) (frames_of row line * row.room) room.1;
    }

-- and lengths that are as accepted ones are refused by no test
pub no-frames-refused : (row : Row) (line notes : ℕ) → Framed row line notes → frames_refusal row line notes ≡ 0
unfolding frames_refusal
no-frames-refused row line notes ok =
    let whole : line % row.bytes ≡ 0 = omega (arith, ok.frames, div-add-mod' line row.bytes) in
    rw (whole, le-ltb 64 (frames_of row line) ok.few, eq-eqb notes (frames_of row line) ok.noted)

pub no-size-refused : (row : Row) (line notes buffer : ℕ) → Accepted row line notes buffer → size_refusal row line notes buffer ≡ 0
unfolding size_refusal
no-size-refused row line notes buffer ok =
    let fours : buffer % 4 ≡ 0 = omega (arith, ok.quarters) in
    rw (no-frames-refused row line notes ok.framed, fours, le-ltb (8 * (buffer / 4)) (frames_of row line * row.room) ok.room)

-- so a quarter fits its tributary
pub fits-quarter : {row : Row} {line notes buffer : ℕ} → Shared row → Accepted row line notes buffer → Fits row line notes (buffer / 4)
fits-quarter sh ok = rw ok.framed.noted (record { shared = sh; whole = ok.framed.frames; few = ok.framed.few; room = ok.room })

-- a line of at most 64 frames is short
pub short-line : (row : Row) → Shared row → (F bytes : ℕ) → F ≤ 64 → bytes ≡ F * row.bytes → bytes ≤ 65536
short-line row sh F bytes h e =
    omega (arith, mul-le-mul {n₁ = F} {m₁ = row.bytes} {n₂ = 64} {m₂ = 366} h (omega (arith, sh.packed, sh.short)))
