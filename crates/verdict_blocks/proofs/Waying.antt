-- A way of reading: what an extraction leaves in a quarter is the tributary's reading; and a state's blocks stand apart from each other.
use mathlib.Core.Path.{◌≡◌, refl, sym, ◌∙◌, ap}
use mathlib.Core.Logic.{◌≢◌}
use mathlib.Core.List.{List, ◌++◌}
use Prim.Native.Nat.{ℕ, zero, suc, ◌+◌, ◌-◌, ◌*◌, ◌≤◌, ◌<◌}
use native.Mathlib.Omega.{arith}
use native.Mathlib.Decide.{dec_lt}
use lib.ListN.{length, get_or, take, drop, replicate, length-drop, get_or-append, get_or-eq_default}
use lib.Seq.{length-take-le, get_or-take, get_or-drop, get_or-append-add, ext_get_or}
use borrow.Rule.Slice.PartMut.{same_len_mid}
use Rattle.digits.specs.Digits.{digits_of}
use Rattle.digits.proofs.Laws.{zeros-at}
use Rattle.digits.proofs.Lists.{part_at}
use Rattle.table.specs.declared.Row.{Row}
use Rattle.levels.specs.Table.{Shared}
use Rattle.levels.specs.Sizes.{quarter_of}
use Rattle.levels.specs.Order.{actions, before}
use Rattle.levels.proofs.Counts.{count-of, count_room}
use Rattle.extraction.specs.Quarters.{taken_to, quarters_from}
use Rattle.extraction.proofs.Handed.{quarter-is, quarter-digits}
use Rattle.verdict_blocks.specs.Blocks.{Block, digits_to, frame_to, start_of, frames_to}
use Rattle.verdict_blocks.specs.Keeping.{block_numbers, block_from, block_at, with_block}

-- ---- only the digits count

digits_same : (pattern : ℕ) (lent : ℕ → ℕ) (ds es : List ℕ) → ((i : ℕ) → get_or ds i 0 ≡ get_or es i 0) → (p : ℕ) (b : Block) (n : ℕ)
    → digits_to pattern lent ds p b n ≡ digits_to pattern lent es p b n
unfolding digits_to
digits_same pattern lent ds es same p b zero = refl
digits_same pattern lent ds es same p b (suc n) = rw (digits_same pattern lent ds es same p b n, same (p + n))

pub frames-same : (pattern : ℕ) (lent : ℕ → ℕ) (ds es : List ℕ) → ((i : ℕ) → get_or ds i 0 ≡ get_or es i 0) → (counts : ℕ → ℕ) (b : Block) (f : ℕ)
    → frames_to pattern lent ds counts b f ≡ frames_to pattern lent es counts b f
unfolding frames_to frame_to
frames-same pattern lent ds es same counts b zero = refl
frames-same pattern lent ds es same counts b (suc f) =
    rw (frames-same pattern lent ds es same counts b f, digits_same pattern lent ds es same (start_of counts f) (frames_to pattern lent es counts b f) (counts f))

zeros-behind : (xs : List ℕ) (n i : ℕ) → get_or (xs ++ replicate n 0) i 0 ≡ get_or xs i 0
zeros-behind xs n i =
    elim (dec_lt i (length xs)) [
      | yes l ↦ get_or-append xs (replicate n 0) 0 i l
      | no l ↦
          let e : length xs + (i - length xs) ≡ i = omega arith in
          let there : get_or (xs ++ replicate n 0) (length xs + (i - length xs)) 0 ≡ 0 = get_or-append-add xs (replicate n 0) (i - length xs) 0 ∙ zeros-at n (i - length xs) in
          (rw e at there) ∙ sym (get_or-eq_default xs 0 {n = i} (omega arith))
    ]

pub quarter-reads : (row : Row) → Shared row → (earlier : ℕ) (notes line : List ℕ) (F q j : ℕ) → j < 4 → length line ≡ F * row.bytes → F * row.room ≤ 8 * q
    → (i : ℕ) → get_or (digits_of (quarter_of (quarters_from row earlier notes line q) j)) i 0 ≡ get_or (taken_to row earlier notes (digits_of line) j (2 * length line)) i 0
quarter-reads row sh earlier notes line F q j hj whole room i =
    let acts = actions row earlier notes j in
    let counted = count-of row sh j hj acts F (length line) whole in
    let fits : before row acts j (2 * length line) ≤ 8 * q = omega (arith, counted, count_room row sh j hj acts F, room) in
    rw (quarter-is row earlier notes line q j hj, quarter-digits row earlier notes line q j fits)
    (zeros-behind (taken_to row earlier notes (digits_of line) j (2 * length line)) (8 * q - before row acts j (2 * length line)) i)

-- ---- a part that is put

module _ (a : ℕ) (xs ys : List ℕ) (long : a + 42 ≤ length xs) (size : length ys ≡ 42) where
  abbrev new : List ℕ
  new = take a xs ++ (ys ++ drop 42 (drop a xs))

  head : length (take a xs) ≡ a
  head = length-take-le a xs (omega arith)

  put_low : (i : ℕ) → i < a → get_or new i 0 ≡ get_or xs i 0
  put_low i h = get_or-append (take a xs) (ys ++ drop 42 (drop a xs)) 0 i (omega (arith, head)) ∙ get_or-take a xs i 0 h

  put-high : (i : ℕ) → a + 42 ≤ i → get_or new i 0 ≡ get_or xs i 0
  put-high i h =
      let r = i - (a + 42) in
      let e : length (take a xs) + (length ys + r) ≡ i = omega (arith, head, size) in
      let g : a + (42 + r) ≡ i = omega arith in
      let far : get_or new (length (take a xs) + (length ys + r)) 0 ≡ get_or xs (a + (42 + r)) 0 =
      get_or-append-add (take a xs) (ys ++ drop 42 (drop a xs)) (length ys + r) 0
      ∙ get_or-append-add ys (drop 42 (drop a xs)) r 0
      ∙ get_or-drop 42 (drop a xs) r 0
      ∙ get_or-drop a xs (42 + r) 0 in
      rw (e, g) at far

  pub put-length : length new ≡ length xs
  put-length = same_len_mid a 42 xs ys (size ∙ sym (length-take-le 42 (drop a xs) (omega (arith, length-drop a xs))))

-- ---- block by block

module _ (ns : List ℕ) (b : ℕ) (blk : Block) (size : length ns ≡ 683) (hb : b < 16) (whole : length (block_numbers blk) ≡ 42) where
  pub with-length : length (with_block ns b blk) ≡ 683
  unfolding with_block
  with-length = put-length (11 + 42 * b) ns (block_numbers blk) (omega arith) whole ∙ size

  with-low : (i : ℕ) → i < 11 + 42 * b → get_or (with_block ns b blk) i 0 ≡ get_or ns i 0
  unfolding with_block
  with-low i h = put_low (11 + 42 * b) ns (block_numbers blk) (omega arith) whole i h

  with-high : (i : ℕ) → 11 + 42 * b + 42 ≤ i → get_or (with_block ns b blk) i 0 ≡ get_or ns i 0
  unfolding with_block
  with-high i h = put-high (11 + 42 * b) ns (block_numbers blk) (omega arith) whole i h

  part-long : (c : ℕ) → c < 16 → (xs : List ℕ) → length xs ≡ 683 → length (take 42 (drop (11 + 42 * c) xs)) ≡ 42
  part-long c hc xs h = length-take-le 42 (drop (11 + 42 * c) xs) (omega (arith, h, length-drop (11 + 42 * c) xs))

  pub with_part : (c : ℕ) → c < 16 → c ≢ b → take 42 (drop (11 + 42 * c) (with_block ns b blk)) ≡ take 42 (drop (11 + 42 * c) ns)
  with_part c hc far =
      ext_get_or 0 _ _ (part-long c hc (with_block ns b blk) with-length ∙ sym (part-long c hc ns size))
      (λ i hi.
      let h : i < 42 = omega (arith, part-long c hc (with_block ns b blk) with-length) in
      get_or-take 42 (drop (11 + 42 * c) (with_block ns b blk)) i 0 h
      ∙ get_or-drop (11 + 42 * c) (with_block ns b blk) i 0
      ∙ each i h
      ∙ sym (get_or-take 42 (drop (11 + 42 * c) ns) i 0 h ∙ get_or-drop (11 + 42 * c) ns i 0))
    where
      each : (i : ℕ) → i < 42 → get_or (with_block ns b blk) (11 + 42 * c + i) 0 ≡ get_or ns (11 + 42 * c + i) 0
      each i hi =
          elim (dec_lt c b) [
            | yes l ↦ with-low (11 + 42 * c + i) (omega arith)
            | no l ↦ with-high (11 + 42 * c + i) (omega (arith, far))
          ]

  pub with-others : (c : ℕ) → c < 16 → c ≢ b → block_at (with_block ns b blk) c ≡ block_at ns c
  with-others c hc far = ap block_from (with_part c hc far)

  pub with-there : take 42 (drop (11 + 42 * b) (with_block ns b blk)) ≡ block_numbers blk
  unfolding with_block
  with-there =
      part_at (take (11 + 42 * b) ns) (block_numbers blk) (drop 42 (drop (11 + 42 * b) ns)) (11 + 42 * b) 42 (length-take-le (11 + 42 * b) ns (omega arith)) whole

  pub with-head : take 11 (with_block ns b blk) ≡ take 11 ns
  with-head =
      let long = length-take-le 11 (with_block ns b blk) (omega (arith, with-length)) in
      ext_get_or 0 _ _ (long ∙ sym (length-take-le 11 ns (omega arith)))
      (λ i hi.
      let h : i < 11 = omega (arith, long) in
      get_or-take 11 (with_block ns b blk) i 0 h ∙ with-low i (omega arith) ∙ sym (get_or-take 11 ns i 0 h))
