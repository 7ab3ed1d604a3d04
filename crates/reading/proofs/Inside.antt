-- The places that are read of a frame lie inside the line: its control digits, its service digits, its alignment word.
use mathlib.Core.Path.{◌≡◌, ◌∙◌, ap}
use Prim.Native.Nat.{ℕ, ◌+◌, ◌*◌, ◌≤◌, ◌<◌}
use native.Mathlib.Omega.{arith}
use native.Mathlib.Nat.{add-mul, mul_left_comm, mul-le-mul_right}
use Rattle.table.specs.declared.Row.{Row}
use Rattle.levels.specs.Table.{Shared}
use Rattle.levels.specs.Places.{noted_of}
use Rattle.levels.proofs.Positions.{in_frame}

module _ (row : Row) (sh : Shared row) where
  -- frame f of F is whole
  pub frame-whole : (f F bytes : ℕ) → f < F → bytes ≡ F * row.bytes → (f + 1) * row.bytes ≤ bytes
  frame-whole f F bytes h e = omega (arith, mul-le-mul_right {m = f + 1} {n = F} row.bytes (omega arith))

  module _ (f bytes : ℕ) (whole : (f + 1) * row.bytes ≤ bytes) where
    pub frame-end : f * row.digits + row.digits ≤ 8 * bytes
    frame-end =
        let start : f * row.digits ≡ 8 * (f * row.bytes) = ap (λ (k : ℕ). f * k) sh.packed ∙ mul_left_comm f 8 row.bytes in
        omega (arith, start, sh.packed, add-mul f 1 row.bytes)

    in_line : (s r : ℕ) → s < row.sets → r < row.set → f * row.digits + (s * row.set + r) < 8 * bytes
    in_line s r hs hr = omega (arith, frame-end, in_frame row sh s r hs hr)

    control-inside : (j k : ℕ) → j < 4 → k < row.control → f * row.digits + (row.set + j) + k * row.set < 8 * bytes
    control-inside j k hj hk =
        omega (arith, in_line (k + 1) j (omega (arith, sh.group)) (omega (arith, sh.room)), add-mul k 1 row.set)

    -- what the vote of a control group asks
    pub group-asks : (j : ℕ) → j < 4 → bytes ≤ 65536
        → (row.control ≤ 5) × (bytes ≤ 65536) × ((k : ℕ) → k < row.control → f * row.digits + (row.set + j) + k * row.set < 8 * bytes)
    group-asks j hj short = (omega (arith, sh.group, sh.few_sets), short, λ k hk. control-inside j k hj hk)

    pub service-inside : (k : ℕ) → k < noted_of row → f * row.digits + (row.alarm + k) < 8 * bytes
    service-inside k h =
        omega (arith, in_line 0 (row.alarm + k) (omega (arith, sh.later_set)) (omega (arith, sh.national_next, sh.first_next, sh.room)))

    pub word-inside : f * row.digits + row.len ≤ 8 * bytes
    word-inside =
        omega (arith, in_line 0 row.len (omega (arith, sh.later_set)) (omega (arith, sh.alarm_next, sh.national_next, sh.first_next, sh.room)))
