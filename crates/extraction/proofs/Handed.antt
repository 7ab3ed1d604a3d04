-- What a quarter holds, digit by digit: digit i of a tributary is the line's digit at the place that carries digit i, and the further
-- digits are zero. The quarters of what an extraction leaves are those of its tributaries.
use mathlib.Core.Path.{◌≡◌, refl, sym, ◌∙◌}
use mathlib.Core.List.{List, [], ◌∷◌, ◌++◌, map, append_assoc, append-nil}
use Prim.Native.Nat.{ℕ, zero, suc, ◌+◌, ◌*◌, ◌-◌, ◌≤◌, ◌<◌}
use native.Mathlib.Omega.{arith}
use lib.Dec.{lit<}
use lib.ListN.{length, get_or, take, replicate, length-append, length-replicate, get_or-append}
use lib.Seq.{get_or-append-add, take_at}
use Rattle.digits.specs.Digits.{Binary, digits_of}
use Rattle.digits.proofs.Laws.{digits-binary, digits-of-bytes, bytes-length, binary-append, zeros-at, map_at}
use Rattle.digits.proofs.Lists.{of_four}
use Rattle.table.specs.declared.Row.{Row}
use Rattle.levels.specs.declared.order.Action.{Action}
use Rattle.levels.specs.Table.{Shared}
use Rattle.levels.specs.Sizes.{quarter_of}
use Rattle.levels.specs.Order.{before, actions, places_of, count_of}
use Rattle.levels.proofs.Buffers.{quarter-at}
use Rattle.levels.proofs.Counts.{count-of, count_room}
use Rattle.levels.proofs.Inverse.{places-length}
use Rattle.extraction.specs.Quarters.{taken_to, quarter_from, quarters_from}
use Rattle.extraction.proofs.Taking.{taken-length}

binary-map : (f : ℕ → ℕ) (l : List ℕ) → ((k : ℕ) → f k < 2) → Binary (map f l)
binary-map f [] h i = lit< tt
binary-map f (x ∷ l) h zero = h x
binary-map f (x ∷ l) h (suc i) = binary-map f l h i

module _ (row : Row) (earlier : ℕ) (notes line : List ℕ) (q j : ℕ) where
  abbrev acts : ℕ → Action
  acts = actions row earlier notes j

  -- how many digits the tributary has, and they
  abbrev count : ℕ
  count = before row acts j (2 * length line)

  abbrev taken : List ℕ
  taken = taken_to row earlier notes (digits_of line) j (2 * length line)

  taken-binary : Binary taken
  unfolding taken_to
  taken-binary = binary-map (λ (p : ℕ). get_or (digits_of line) p 0) (places_of row acts j (2 * length line)) (digits-binary line)

  module _ (room : count ≤ 8 * q) where
    pub quarter-digits : digits_of (quarter_from row earlier notes line q j) ≡ taken ++ replicate (8 * q - count) 0
    unfolding quarter_from
    quarter-digits =
        let zeros = replicate {A = ℕ} (8 * q - count) 0 in
        let binary : Binary (taken ++ zeros) = binary-append taken zeros taken-binary (λ i. rw (zeros-at (8 * q - count) i) (lit< tt)) in
        let size : length (taken ++ zeros) ≡ 8 * q =
        length-append taken zeros ∙ omega (arith, taken-length row earlier notes (digits_of line) j (2 * length line), length-replicate {A = ℕ} (8 * q - count) 0) in
        rw (taken-length row earlier notes (digits_of line) j (2 * length line)) (digits-of-bytes q (taken ++ zeros) binary size)

    pub digit-handed : (i : ℕ) → i < count → get_or (digits_of (quarter_from row earlier notes line q j)) i 0 ≡ get_or (digits_of line) (get_or (places_of row acts j (2 * length line)) i 0) 0
    unfolding taken_to
    digit-handed i h =
        rw quarter-digits
        (get_or-append taken (replicate (8 * q - count) 0) 0 i (omega (arith, taken-length row earlier notes (digits_of line) j (2 * length line)))
        ∙ map_at (λ (p : ℕ). get_or (digits_of line) p 0) (places_of row acts j (2 * length line)) i (omega (arith, places-length row acts j (2 * length line))))

    pub digit-after : (i : ℕ) → count ≤ i → get_or (digits_of (quarter_from row earlier notes line q j)) i 0 ≡ 0
    digit-after i h =
        let e : i ≡ length taken + (i - count) = omega (arith, taken-length row earlier notes (digits_of line) j (2 * length line)) in
        rw (quarter-digits, e) (get_or-append-add taken (replicate (8 * q - count) 0) (i - count) 0 ∙ zeros-at (8 * q - count) (i - count))

module _ (row : Row) (earlier : ℕ) (notes line : List ℕ) (q : ℕ) where
  abbrev part : ℕ → List ℕ
  part j = quarter_from row earlier notes line q j

  long : (j : ℕ) → length (part j) ≡ q
  unfolding quarter_from
  long j = bytes-length q _

  pub quarters-length : length (quarters_from row earlier notes line q) ≡ 4 * q
  unfolding quarters_from
  quarters-length = simp length-append (omega (arith, long 0, long 1, long 2, long 3))

  pub quarter-is : (j : ℕ) → j < 4 → quarter_of (quarters_from row earlier notes line q) j ≡ part j
  unfolding quarters_from
  quarter-is =
      of_four (λ (j : ℕ). quarter_of all j ≡ part j)
      (quarter-at all [] (part 0) (part 1 ++ (part 2 ++ part 3)) 0 q refl quarters-length (omega arith) (long 0))
      (quarter-at all (part 0) (part 1) (part 2 ++ part 3) 1 q refl quarters-length (omega (arith, long 0)) (long 1))
      (quarter-at all (part 0 ++ part 1) (part 2) (part 3) 2 q (sym (append_assoc (part 0) (part 1) (part 2 ++ part 3))) quarters-length (two ∙ omega arith) (long 2))
      (quarter-at all ((part 0 ++ part 1) ++ part 2) (part 3) [] 3 q last quarters-length (length-append (part 0 ++ part 1) (part 2) ∙ omega (arith, two, long 2)) (long 3))
    where
      all : List ℕ
      all = quarters_from row earlier notes line q

      two : length (part 0 ++ part 1) ≡ q + q
      two = length-append (part 0) (part 1) ∙ omega (arith, long 0, long 1)

      last : all ≡ ((part 0 ++ part 1) ++ part 2) ++ (part 3 ++ [])
      last = simp (append-nil, append_assoc)

-- a quarter with room for F frames has its tributary's digits first, as many as are counted
pub quarter-first : (row : Row) → Shared row → (earlier : ℕ) (notes line : List ℕ) (F q j : ℕ) → j < 4 → length line ≡ F * row.bytes → F * row.room ≤ 8 * q
    → take (count_of row (actions row earlier notes j) F) (digits_of (quarter_of (quarters_from row earlier notes line q) j)) ≡ taken_to row earlier notes (digits_of line) j (2 * length line)
quarter-first row sh earlier notes line F q j hj whole room =
    let acts = actions row earlier notes j in
    let counted = count-of row sh j hj acts F (length line) whole in
    let fits : before row acts j (2 * length line) ≤ 8 * q = omega (arith, counted, count_room row sh j hj acts F, room) in
    let digits = taken_to row earlier notes (digits_of line) j (2 * length line) in
    rw (quarter-is row earlier notes line q j hj, quarter-digits row earlier notes line q j fits, ← counted)
    (take_at digits (replicate (8 * q - before row acts j (2 * length line)) 0) (before row acts j (2 * length line)) (taken-length row earlier notes (digits_of line) j (2 * length line)))
