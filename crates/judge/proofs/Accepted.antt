-- What a call that is not refused may rely on.
use mathlib.Core.Path.{◌≡◌, refl}
use mathlib.Core.Logic.{◌≢◌}
use mathlib.Core.Bool.{false, not, ◌&&◌, true≢false}
use mathlib.Core.List.{List}
use Prim.Native.Nat.{ℕ, ◌*◌, ◌/◌, ◌%◌, ◌≤◌}
use native.Mathlib.Omega.{arith}
use native.Mathlib.Nat.{div-add-mod'}
use native.Mathlib.Decide.{ℕ_discrete}
use lib.Dec.{eqb, ltb, lit≤}
use lib.ListN.{length}
use borrow.Author.Tests.{eq-eqb, ne_eqb, ltb-false}
use Rattle.digits.proofs.Tests.{or-neither, and-asked}
use Rattle.table.specs.declared.Row.{Row}
use Rattle.levels.specs.Table.{Shared}
use Rattle.levels.specs.Sizes.{frames_of, bad_line, bad_buffer, Framed}
use Rattle.levels.specs.Faults.{bad_earlier}
use Rattle.levels.proofs.Judged.{line-frames, unrefused}
use Rattle.judge.specs.Verdict.{bad_pattern, number_of}
use Rattle.judge.specs.Counting.{Known, Judgeable, Accepting}

known : (pattern : ℕ) → bad_pattern pattern ≡ false → Known pattern
known pattern good =
    elim (ℕ_discrete pattern 0) [
      | yes z ↦ record { short = omega arith; stage = λ n. absurd (n z) }
      | no n₀ ↦ elim (ℕ_discrete pattern 15) [ yes e ↦ rw e (record { short = lit≤ tt; stage = λ _. lit≤ tt }) | no n₁ ↦ last n₀ n₁ ]
    ]
  where
    last : pattern ≢ 0 → pattern ≢ 15 → Known pattern
    last n₀ n₁ =
        elim (ℕ_discrete pattern 23) [
          | yes e ↦ rw e (record { short = lit≤ tt; stage = λ _. lit≤ tt })
          | no n₂ ↦ absurd (true≢false (rw (ne_eqb pattern 0 n₀, ne_eqb pattern 15 n₁, ne_eqb pattern 23 n₂) at good))
        ]

pub framed : (row : Row) (line : ℕ) → bad_line row line ≡ false → Framed row line (frames_of row line)
framed row line e =
    let whole = line-frames row line e in
    record { frames = omega (arith, div-add-mod' line row.bytes, whole.0); few = whole.1; noted = refl }

-- and a reading may, with room of its own
pub accepting : {row : Row} {earlier : ℕ} {line : List ℕ} {pattern buffer : ℕ} → Judgeable row earlier line pattern buffer → (size lent : ℕ) → lent ≡ size → size ≡ 4 * (size / 4)
    → frames_of row (length line) * row.room ≤ 8 * (size / 4) → Accepting row line pattern buffer lent
accepting ok size lent e quarters room =
    rw e (record { shared = ok.shared; accepted = record { framed = ok.framed; quarters = quarters; room = room }; known = ok.known; sent = ok.sent })

pub judgeable : (row : Row) → Shared row → (earlier : ℕ) (line : List ℕ) (pattern buffer : ℕ) → number_of row earlier (length line) pattern buffer ≡ 0
    → Judgeable row earlier line pattern buffer
unfolding number_of
judgeable row sh earlier line pattern buffer none =
    let thirteen = unrefused (bad_pattern pattern) 13 _ (λ z. omega arith) none in
    let two = unrefused (bad_line row (length line)) 2 _ (λ z. omega arith) thirteen.1 in
    let four = unrefused (eqb pattern 0 && bad_buffer row (length line) buffer) 4 _ (λ z. omega arith) two.1 in
    let room = frames_of row (length line) * row.room in
    let bad = bad_buffer row (length line) buffer in
    let has_room : pattern ≡ 0 → ltb (8 * (buffer / 4)) room ≡ false =
    λ z. (or-neither (not (eqb (buffer % 4) 0)) _ (and-asked (eqb pattern 0) bad four.0 (eq-eqb pattern 0 z))).1 in
    let five = unrefused (bad_earlier row earlier) 5 0 (λ z. omega arith) four.1 in
    record {
      shared = sh;
      framed = framed row (length line) two.0;
      known = known pattern thirteen.0;
      sent = λ z. ltb-false (8 * (buffer / 4)) room (has_room z);
      earlier_fits = five.0;
    }
