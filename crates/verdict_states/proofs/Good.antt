-- What the tests of a state's validity say, and the room that a valid state leaves.
use mathlib.Core.Path.{◌≡◌, refl, sym, ◌∙◌}
use mathlib.Core.Logic.{◌≢◌}
use mathlib.Core.Bool.{Bool, true, false, ◌&&◌, ◌||◌, not, true≢false}
use mathlib.Core.List.{List}
use Prim.Native.Nat.{ℕ, zero, suc, ◌+◌, ◌-◌, ◌*◌, ◌^◌, ◌≤◌, ◌<◌}
use native.Mathlib.Omega.{arith}
use native.Mathlib.Decide.{dec_lt, ℕ_discrete}
use native.Mathlib.Nat.{add-suc, add-zero}
use native.Mathlib.Numerals.{add-one}
use lib.Dec.{eqb, leb, ltb}
use lib.ListN.{length, get_or, take, drop, length-drop, get_or-eq_default}
use lib.Seq.{length-take-le}
use borrow.Author.Tests.{leb-true, ltb-true, eq-eqb, ne_eqb}
use Rattle.digits.proofs.Tests.{and_both}
use Rattle.slips.specs.Slips.{step_price, Room, Closed}
use Rattle.verdict_blocks.specs.declared.standing.Standing.{Standing}
use Rattle.patterns.specs.Patterns.{OneOfTwo}
use Rattle.verdict_blocks.specs.Blocks.{Block}
use Rattle.verdict_blocks.specs.Going.{Sound}
use Rattle.verdict_blocks.specs.Keeping.{block_from, block_at}
use Rattle.verdict_states.specs.States.{state_from, bad_pattern, good_lanes, good_standing, good_window, good_block, good_blocks, few_changes, good_head, is_valid}
use Rattle.verdict_blocks.proofs.Kept.{loaded-length}

-- ---- lanes

-- a lane behind its neighbour
abbrev pub pair_well : ℕ → ℕ → Bool
pair_well a b = leb b 4611686018427387904 && (leb b (a + step_price) && leb a (b + step_price))

and-false : (a b : Bool) → a ≡ false → (a && b) ≡ false
and-false a b e = rw e

module _ (v : List ℕ) where
  pub lanes-first : leb (get_or v 0 0) 4611686018427387904 ≡ good_lanes v 0
  unfolding good_lanes
  lanes-first = refl

  pub lanes_next : (k : ℕ) (r : Bool) → good_lanes v k ≡ true → r ≡ pair_well (get_or v k 0) (get_or v (k + 1) 0) → r ≡ good_lanes v (k + 1)
  unfolding good_lanes
  lanes_next k r good e = rw (add-one k, good) (rw (add-one k) at e)

  pub lanes-bad : (k n : ℕ) → k ≤ n → good_lanes v k ≡ false → good_lanes v n ≡ false
  unfolding good_lanes
  lanes-bad k zero h e = let z : k ≡ 0 = omega arith in rw z at e
  lanes-bad k (suc n) h e =
      elim (ℕ_discrete k (suc n)) [
        | yes same ↦ rw same at e
        | no far ↦ and-false (good_lanes v n) _ (lanes-bad k n (omega (arith, far)) e)
      ]

  lanes-less : (n k : ℕ) → k ≤ n → good_lanes v n ≡ true → good_lanes v k ≡ true
  unfolding good_lanes
  lanes-less zero k h good = let z : k ≡ 0 = omega arith in rw z good
  lanes-less (suc n) k h good =
      elim (ℕ_discrete k (suc n)) [
        | yes same ↦ rw same good
        | no far ↦ lanes-less n k (omega (arith, far)) (and_both (good_lanes v n) (pair_well (get_or v n 0) (get_or v (suc n) 0)) good).0
      ]

  pub lane_low : (k : ℕ) → good_lanes v k ≡ true → get_or v k 0 ≤ 4611686018427387904
  unfolding good_lanes
  lane_low zero good = leb-true (get_or v 0 0) 4611686018427387904 good
  lane_low (suc k) good =
      leb-true (get_or v (suc k) 0) 4611686018427387904
      (and_both (leb (get_or v (suc k) 0) 4611686018427387904) (leb (get_or v (suc k) 0) (get_or v k 0 + step_price) && leb (get_or v k 0) (get_or v (suc k) 0 + step_price))
      (and_both (good_lanes v k) (pair_well (get_or v k 0) (get_or v (suc k) 0)) good).1).0

  near : (k : ℕ) → good_lanes v (suc k) ≡ true → (get_or v (suc k) 0 ≤ get_or v k 0 + step_price) × (get_or v k 0 ≤ get_or v (suc k) 0 + step_price)
  unfolding good_lanes
  near k good =
      let up = leb (get_or v (suc k) 0) (get_or v k 0 + step_price) in
      let down = leb (get_or v k 0) (get_or v (suc k) 0 + step_price) in
      let both =
      and_both up down
      (and_both (leb (get_or v (suc k) 0) 4611686018427387904) (up && down) (and_both (good_lanes v k) (pair_well (get_or v k 0) (get_or v (suc k) 0)) good).1).1 in
      (leb-true (get_or v (suc k) 0) (get_or v k 0 + step_price) both.0, leb-true (get_or v k 0) (get_or v (suc k) 0 + step_price) both.1)

  module _ (good : good_lanes v 16 ≡ true) where
    -- d lanes apart is no more than d steps
    far-off : (k d : ℕ) → k + d ≤ 16 → (get_or v (k + d) 0 ≤ get_or v k 0 + step_price * d) × (get_or v k 0 ≤ get_or v (k + d) 0 + step_price * d)
    far-off k zero h = rw (add-zero k) (omega arith, omega arith)
    far-off k (suc d) h =
        let so_far = far-off k d (omega arith) in
        let one = near (k + d) (lanes-less 16 (suc (k + d)) (omega arith) good) in
        rw (add-suc k d) (omega (arith, so_far.0, one.0), omega (arith, so_far.1, one.1))

    pub closed-good : Closed v
    closed-good k m hk hm =
        elim (dec_lt k m) [
          | yes l ↦
              let e : k + (m - k) ≡ m = omega arith in
              let told = far-off k (m - k) (omega arith) in
              let up : get_or v k 0 ≤ get_or v m 0 + step_price * (m - k) = rw e at told.1 in
              omega (arith, up)
          | no l ↦
              let e : m + (k - m) ≡ k = omega arith in
              let told = far-off m (k - m) (omega arith) in
              let down : get_or v k 0 ≤ get_or v m 0 + step_price * (k - m) = rw e at told.0 in
              omega (arith, down)
        ]

    pub room-good : length v ≡ 17 → Room 64000 v
    room-good size =
        record {
          lanes = size;
          low =
              λ k.
              elim (dec_lt k 17) [
                | yes l ↦ omega (arith, lane_low k (lanes-less 16 k (omega arith) good))
                | no l ↦ rw (get_or-eq_default v 0 {n = k} (omega (arith, size))) (omega arith)
              ];
        }

-- ---- what stands beside them

abbrev pub counts_well : Standing → Bool
counts_well s = leb s.read 1152921504606846976 && leb (s.from + s.right) s.read

abbrev pub taken_well : ℕ → ℕ → Bool
taken_well pattern taken = leb taken 1 && (eqb taken 1 || not (eqb pattern 0))

abbrev pub places_well : Standing → Bool
places_well s =
    leb 1152921504606846976 s.low
    && (leb s.low 3458764513820540928 && (leb s.at 6917529027641081856 && ltb s.window (2 ^ 23)))

abbrev pub follows_well : ℕ → Standing → Bool
follows_well pattern s = ltb s.follows 64 && (eqb s.follows 0 || leb (pattern + s.follows) s.read)

together : (a b c d e f g h rest : Bool)
    → (a && (b && (c && (d && (e && (f && (g && (h && rest)))))))) ≡ ((a && b) && ((c && d) && ((e && (f && (g && h))) && rest)))
together false b c d e f g h rest = refl
together true false c d e f g h rest = refl
together true true false d e f g h rest = refl
together true true true false e f g h rest = refl
together true true true true false f g h rest = refl
together true true true true true false g h rest = refl
together true true true true true true false h rest = refl
together true true true true true true true h rest = refl

module _ (pattern : ℕ) (s : Standing) where
  pub standing-parts : good_standing pattern s ≡ (counts_well s && (taken_well pattern s.taken && (places_well s && follows_well pattern s)))
  unfolding good_standing
  standing-parts =
      together (leb s.read 1152921504606846976) (leb (s.from + s.right) s.read) (leb s.taken 1) (eqb s.taken 1 || not (eqb pattern 0))
      (leb 1152921504606846976 s.low) (leb s.low 3458764513820540928) (leb s.at 6917529027641081856) (ltb s.window (2 ^ 23)) (follows_well pattern s)

  module _ (good : good_standing pattern s ≡ true) where
    parts : (counts_well s ≡ true) × ((taken_well pattern s.taken && (places_well s && follows_well pattern s)) ≡ true)
    parts = and_both (counts_well s) (taken_well pattern s.taken && (places_well s && follows_well pattern s)) (sym standing-parts ∙ good)

    counts : (leb s.read 1152921504606846976 ≡ true) × (leb (s.from + s.right) s.read ≡ true)
    counts = and_both (leb s.read 1152921504606846976) (leb (s.from + s.right) s.read) parts.0

    later : (taken_well pattern s.taken ≡ true) × ((places_well s && follows_well pattern s) ≡ true)
    later = and_both (taken_well pattern s.taken) (places_well s && follows_well pattern s) parts.1

    taken : (leb s.taken 1 ≡ true) × ((eqb s.taken 1 || not (eqb pattern 0)) ≡ true)
    taken = and_both (leb s.taken 1) (eqb s.taken 1 || not (eqb pattern 0)) later.0

    last : (places_well s ≡ true) × (follows_well pattern s ≡ true)
    last = and_both (places_well s) (follows_well pattern s) later.1

    low : (leb 1152921504606846976 s.low ≡ true) × ((leb s.low 3458764513820540928 && (leb s.at 6917529027641081856 && ltb s.window (2 ^ 23))) ≡ true)
    low =
        and_both (leb 1152921504606846976 s.low) (leb s.low 3458764513820540928 && (leb s.at 6917529027641081856 && ltb s.window (2 ^ 23))) last.0

    most : (leb s.low 3458764513820540928 ≡ true) × ((leb s.at 6917529027641081856 && ltb s.window (2 ^ 23)) ≡ true)
    most = and_both (leb s.low 3458764513820540928) (leb s.at 6917529027641081856 && ltb s.window (2 ^ 23)) low.1

    held : (leb s.at 6917529027641081856 ≡ true) × (ltb s.window (2 ^ 23) ≡ true)
    held = and_both (leb s.at 6917529027641081856) (ltb s.window (2 ^ 23)) most.1

    follows : (ltb s.follows 64 ≡ true) × ((eqb s.follows 0 || leb (pattern + s.follows) s.read) ≡ true)
    follows = and_both (ltb s.follows 64) (eqb s.follows 0 || leb (pattern + s.follows) s.read) last.1

    followed : s.follows ≢ 0 → pattern + s.follows ≤ s.read
    followed some = leb-true (pattern + s.follows) s.read (rw (ne_eqb s.follows 0 some) at follows.1)

    pub standing-taken : pattern ≡ 0 → s.taken ≡ 1
    standing-taken z =
        elim (ℕ_discrete s.taken 1) [
          | yes e ↦ e
          | no far ↦ absurd (true≢false (sym (rw (ne_eqb s.taken 1 far, eq-eqb pattern 0 z) at taken.1)))
        ]

    pub standing-sound : (v e : List ℕ) → good_lanes v 16 ≡ true → length v ≡ 17 → length e ≡ 17 → Sound pattern 64000 (record { standing = s; lanes = v; marks = e })
    standing-sound v e lanes size marked =
        record {
          room = room-good v lanes size;
          closed = closed-good v lanes;
          marked = marked;
          read = omega (arith, leb-true s.read 1152921504606846976 counts.0);
          right = leb-true (s.from + s.right) s.read counts.1;
          taken = leb-true s.taken 1 taken.0;
          low_least = omega (arith, leb-true 1152921504606846976 s.low low.0);
          low_most = omega (arith, leb-true s.low 3458764513820540928 most.0);
          at = leb-true s.at 6917529027641081856 held.0;
          window = ltb-true s.window (2 ^ 23) held.1;
          follows = ltb-true s.follows 64 follows.0;
          followed = followed;
        }

-- a good block has room for 64 frames
pub block-sound : (pattern : ℕ) (b : Block) → good_block pattern b ≡ true → length b.lanes ≡ 17 → length b.marks ≡ 17 → Sound pattern 64000 b
block-sound pattern b good size marked =
    let both = and_both (good_standing pattern b.standing) (good_window pattern b.standing && good_lanes b.lanes 16) good in
    standing-sound pattern b.standing both.0 b.lanes b.marks (and_both (good_window pattern b.standing) (good_lanes b.lanes 16) both.1).1 size
    marked

-- ---- the blocks

module _ (pattern : ℕ) (g : ℕ → Block) where
  pub blocks-none : good_blocks pattern g 0 ≡ true
  unfolding good_blocks
  blocks-none = refl

  pub blocks-next : (n : ℕ) (r : Bool) → good_blocks pattern g n ≡ true → r ≡ good_block pattern (g n) → r ≡ good_blocks pattern g (n + 1)
  unfolding good_blocks
  blocks-next n r good e = rw (add-one n, good) e

  pub blocks-bad : (k n : ℕ) → k ≤ n → good_blocks pattern g k ≡ false → good_blocks pattern g n ≡ false
  unfolding good_blocks
  blocks-bad k zero h e = let z : k ≡ 0 = omega arith in rw z at e
  blocks-bad k (suc n) h e =
      elim (ℕ_discrete k (suc n)) [
        | yes same ↦ rw same at e
        | no far ↦ and-false (good_blocks pattern g n) _ (blocks-bad k n (omega (arith, far)) e)
      ]

  pub block-good : (n b : ℕ) → b < n → good_blocks pattern g n ≡ true → good_block pattern (g b) ≡ true
  unfolding good_blocks
  block-good zero b h good = absurd (none h)
    where
      none : b < 0 → ⊥
      none l = omega arith
  block-good (suc n) b h good =
      let both = and_both (good_blocks pattern g n) (good_block pattern (g n)) good in
      elim (ℕ_discrete b n) [
        | yes same ↦ rw same both.1
        | no far ↦ block-good n b (omega (arith, far)) both.0
      ]

-- ---- a pattern that is not refused

pub pattern-one : (pattern : ℕ) → bad_pattern pattern ≡ false → pattern ≢ 0 → OneOfTwo pattern
pattern-one pattern good some far =
    elim (ℕ_discrete pattern 23) [
      | yes e ↦ e
      | no other ↦ absurd (true≢false (rw (ne_eqb pattern 0 some, ne_eqb pattern 15 far, ne_eqb pattern 23 other) at good))
    ]

pub pattern-low : (pattern : ℕ) → bad_pattern pattern ≡ false → pattern ≤ 23
pattern-low pattern good =
    elim (ℕ_discrete pattern 0) [
      | yes z ↦ omega arith
      | no some ↦
          elim (ℕ_discrete pattern 15) [
            | yes e ↦ omega arith
            | no far ↦ omega (arith, pattern-one pattern good some far)
          ]
    ]

-- ---- what stands before the blocks

abbrev pub votes_well : List ℕ → Bool
votes_well ns = leb (get_or ns 3 0) 15 && (leb (get_or ns 4 0) 15 && (leb (get_or ns 5 0) 15 && leb (get_or ns 6 0) 15))

abbrev pub changes_well : List ℕ → Bool
changes_well ns = few_changes (λ (j : ℕ). get_or ns (7 + j) 0)

four-and : (p q a b c d rest : Bool) → (p && (q && (a && (b && (c && (d && rest)))))) ≡ (p && (q && ((a && (b && (c && d))) && rest)))
four-and p q false b c d rest = refl
four-and p q true false c d rest = refl
four-and p q true true false d rest = refl
four-and p q true true true d rest = refl

pub head-parts : (ns : List ℕ)
    → good_head (state_from ns) ≡ (not (bad_pattern (get_or ns 1 0)) && (leb (get_or ns 2 0) 1 && (votes_well ns && changes_well ns)))
unfolding good_head state_from
head-parts ns =
    four-and (not (bad_pattern (get_or ns 1 0))) (leb (get_or ns 2 0) 1) (leb (get_or ns 3 0) 15) (leb (get_or ns 4 0) 15) (leb (get_or ns 5 0) 15) (leb (get_or ns 6 0) 15)
    (changes_well ns)

pub head-pattern : (ns : List ℕ) → good_head (state_from ns) ≡ true → bad_pattern (get_or ns 1 0) ≡ false
head-pattern ns good =
    not_good (bad_pattern (get_or ns 1 0))
    (and_both (not (bad_pattern (get_or ns 1 0))) (leb (get_or ns 2 0) 1 && (votes_well ns && changes_well ns)) (sym (head-parts ns) ∙ good)).0
  where
    not_good : (t : Bool) → not t ≡ true → t ≡ false
    not_good true e = sym e
    not_good false e = refl

-- ---- the whole

module _ (ns : List ℕ) (size : length ns ≡ 683) (valid : is_valid (state_from ns) ≡ true) where
  halves : (good_head (state_from ns) ≡ true) × (good_blocks (state_from ns).pattern (state_from ns).blocks 16 ≡ true)
  halves = and_both (good_head (state_from ns)) (good_blocks (state_from ns).pattern (state_from ns).blocks 16) valid

  good-pattern : bad_pattern (get_or ns 1 0) ≡ false
  good-pattern = head-pattern ns halves.0

  block-valid : (b : ℕ) → b < 16 → good_block (get_or ns 1 0) (block_at ns b) ≡ true
  unfolding state_from
  block-valid b h = block-good (get_or ns 1 0) (block_at ns) 16 b h halves.1

  -- what feeding asks of a state
  pub valid-pattern : get_or ns 1 0 ≢ 0 → OneOfTwo (get_or ns 1 0)
  valid-pattern some = pattern-one (get_or ns 1 0) good-pattern some

  pub valid-taken : get_or ns 1 0 ≡ 0 → (b : ℕ) → b < 16 → (block_at ns b).standing.taken ≡ 1
  valid-taken z b h =
      standing-taken (get_or ns 1 0) (block_at ns b).standing
      (and_both (good_standing (get_or ns 1 0) (block_at ns b).standing)
      (good_window (get_or ns 1 0) (block_at ns b).standing && good_lanes (block_at ns b).lanes 16) (block-valid b h)).0
      z

  part : (b : ℕ) → b < 16 → length (take 42 (drop (11 + 42 * b) ns)) ≡ 42
  part b h = length-take-le 42 (drop (11 + 42 * b) ns) (omega (arith, size, length-drop (11 + 42 * b) ns))

  pub valid-sound : (b : ℕ) → b < 16 → Sound (get_or ns 1 0) 64000 (block_at ns b)
  unfolding block_from
  valid-sound b h =
      let long = part b h in
      block-sound (get_or ns 1 0) (block_at ns b) (block-valid b h) (loaded-length (take 42 (drop (11 + 42 * b) ns)) 8 (omega (arith, long)))
      (loaded-length (take 42 (drop (11 + 42 * b) ns)) 25 (omega (arith, long)))
