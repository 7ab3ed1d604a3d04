-- The columns of the channels, one after the other: after c of them the bytes of channels 1 to c are right, in the multiframe that is
-- built or in the channels that are taken.
use mathlib.Core.Path.{◌≡◌, sym, ap, ◌∙◌}
use mathlib.Core.List.{List, ◌++◌}
use Prim.Native.Nat.{ℕ, ◌+◌, ◌-◌, ◌*◌, ◌/◌, ◌%◌, ◌≤◌, ◌<◌}
use native.Mathlib.Omega.{arith}
use native.Mathlib.Decide.{dec_lt, ℕ_discrete}
use native.Mathlib.Nat.{add-sub_cancel_left}
use lib.ListN.{length, get_or, take, drop, get_or-append}
use lib.Seq.{get_or-append-add, get_or-take, get_or-drop, length-take-le}
use borrow.Author.Tests.{lt-ltb, le-ltb}
use borrow.Rule.Slice.PartMut.{put_mid, post_of}
use Rattle.multiframe.specs.Multiframe.{channel_of, channel_from}
use Rattle.multiframe.specs.Steps.{column_of, Channelled, ColumnPut}

-- ---- a channel's byte in a frame, and the channel of a byte

channel-low : (b : ℕ) → b < 16 → channel_of b ≡ b
channel-low b h = rw (lt-ltb b 16 h)

channel-high : (b : ℕ) → 16 ≤ b → channel_of b ≡ b - 1
channel-high b h = rw (le-ltb b 16 h)

column-low : (c : ℕ) → c < 15 → column_of c ≡ c + 1
column-low c h = rw (lt-ltb c 15 h)

column-high : (c : ℕ) → 15 ≤ c → column_of c ≡ c + 2
column-high c h = rw (le-ltb c 15 h)

pub channel-bounds : (b : ℕ) → b < 32 → 0 < b % 16 → (1 ≤ channel_of b) × (channel_of b ≤ 30)
channel-bounds b h g =
    elim (dec_lt b 16) [
      | yes l ↦ rw (channel-low b l) (omega arith, omega arith)
      | no l ↦ rw (channel-high b (omega arith)) (omega arith, omega arith)
    ]

pub column-is : (b c : ℕ) → b < 32 → 0 < b % 16 → c < 30 → channel_of b ≡ c + 1 → column_of c ≡ b
column-is b c h g hc e =
    elim (dec_lt b 16) [
      | yes l ↦ column-low c (omega (arith, e, channel-low b l)) ∙ omega (arith, e, channel-low b l)
      | no l ↦
          let up : channel_of b ≡ b - 1 = channel-high b (omega arith) in
          column-high c (omega (arith, e, up)) ∙ omega (arith, e, up)
    ]

pub record Column (c b : ℕ) : Type 0 where
  pub inside : b < 32
  pub between : 0 < b % 16
  pub channel : channel_of b ≡ c + 1

pub column-there : (c : ℕ) → c < 30 → Column c (column_of c)
column-there c h =
    elim (dec_lt c 15) [
      | yes l ↦ rw (column-low c l) (record { inside = omega arith; between = omega arith; channel = channel-low (c + 1) (omega arith) })
      | no l ↦
          let e : c + 2 - 1 ≡ c + 1 = omega arith in
          rw (column-high c (omega arith))
          (record { inside = omega arith; between = omega arith; channel = channel-high (c + 2) (omega arith) ∙ e })
    ]

-- ---- one column more

abbrev pub Channelling : List ℕ → ℕ → List ℕ → Type 0
Channelling channels c multiframe =
    (k : ℕ) → k < 512 → 0 < k % 16 → channel_of (k % 32) ≤ c → get_or multiframe k 0 ≡ get_or channels (channel_from (channel_of (k % 32)) + k / 32) 0

byte-bounds : (k : ℕ) → 0 < k % 16 → (k % 32 < 32) × (0 < k % 32 % 16)
byte-bounds k g = (omega arith, omega arith)

pub channelling-none : (channels multiframe : List ℕ) → Channelling channels 0 multiframe
channelling-none channels multiframe k h g l = absurd (none (channel_of (k % 32)) (channel-bounds (k % 32) (byte-bounds k g).0 (byte-bounds k g).1).0 l)
  where
    none : (n : ℕ) → 1 ≤ n → n ≤ 0 → ⊥
    none n a b = omega arith

pub channelling-all : (channels : List ℕ) (c : ℕ) (multiframe : List ℕ) → c ≡ 30 → Channelling channels c multiframe → Channelled channels multiframe
channelling-all channels c multiframe e w k h g =
    w k h g (omega (arith, (channel-bounds (k % 32) (byte-bounds k g).0 (byte-bounds k g).1).1))

-- a byte of the next channel, and one of an earlier
module _ (c : ℕ) (hc : c < 30) (k : ℕ) (h : k < 512) (g : 0 < k % 16) where
  own-byte : channel_of (k % 32) ≡ c + 1 → k ≡ column_of c + 32 * (k / 32)
  own-byte e = omega (arith, column-is (k % 32) c (byte-bounds k g).0 (byte-bounds k g).1 hc e)

  own-index : channel_of (k % 32) ≡ c + 1 → channel_from (channel_of (k % 32)) + k / 32 ≡ 16 * c + k / 32
  own-index e = rw e (omega arith)

  other_byte : (channel_of (k % 32) ≡ c + 1 → ⊥) → (f : ℕ) → k ≡ column_of c + 32 * f → ⊥
  other_byte far f e =
      let there = column-there c hc in
      let b : k % 32 ≡ column_of c = omega (arith, there.inside) in
      far (rw b there.channel)

  earlier : (channel_of (k % 32) ≡ c + 1 → ⊥) → channel_of (k % 32) ≤ c + 1 → channel_of (k % 32) ≤ c
  earlier far l = not_last (channel_of (k % 32)) far l
    where
      not_last : (n : ℕ) → (n ≡ c + 1 → ⊥) → n ≤ c + 1 → n ≤ c
      not_last n far l =
          elim (dec_lt n (c + 1)) [
            | yes b ↦ omega arith
            | no b ↦ absurd (far (omega arith))
          ]

pub channelling-put : (channels mid part new : List ℕ) (c : ℕ) → c < 30 → Channelling channels c mid
    → ((f : ℕ) → f < 16 → get_or part f 0 ≡ get_or channels (16 * c + f) 0) → ColumnPut mid (column_of c) part 16 new → Channelling channels (c + 1) new
channelling-put channels mid part new c hc w is put k h g l =
    elim (ℕ_discrete (channel_of (k % 32)) (c + 1)) [
      | yes e ↦
          ap (λ (n : ℕ). get_or new n 0) (own-byte c hc k h g e)
          ∙ put.put (k / 32) (omega arith)
          ∙ is (k / 32) (omega arith)
          ∙ ap (λ (n : ℕ). get_or channels n 0) (sym (own-index c hc k h g e))
      | no far ↦ put.stays k (λ f _. other_byte c hc k h g far f) ∙ w k h g (earlier c hc k h g far l)
    ]

pub channelling-take : (multiframe old new : List ℕ) (c : ℕ) → c < 30 → Channelling old c multiframe
    → ((i : ℕ) → i < 16 * c → get_or new i 0 ≡ get_or old i 0) → ((f : ℕ) → f < 16 → get_or new (16 * c + f) 0 ≡ get_or multiframe (column_of c + 32 * f) 0)
    → Channelling new (c + 1) multiframe
channelling-take multiframe old new c hc w stays is k h g l =
    elim (ℕ_discrete (channel_of (k % 32)) (c + 1)) [
      | yes e ↦
          ap (λ (n : ℕ). get_or multiframe n 0) (own-byte c hc k h g e)
          ∙ sym (is (k / 32) (omega arith))
          ∙ ap (λ (n : ℕ). get_or new n 0) (sym (own-index c hc k h g e))
      | no far ↦
          let some = (channel-bounds (k % 32) (byte-bounds k g).0 (byte-bounds k g).1).0 in
          let gone = earlier c hc k h g far l in
          w k h g gone ∙ sym (stays (channel_from (channel_of (k % 32)) + k / 32) (before (channel_of (k % 32)) some gone))
    ]
  where
    before : (n : ℕ) → 1 ≤ n → n ≤ c → channel_from n + k / 32 < 16 * c
    before n a b = omega arith

-- ---- the part of the channels that a channel is

module _ (c : ℕ) (hc : c < 30) (channels : List ℕ) (l : length channels ≡ 480) where
  pub part_of : (f : ℕ) → f < 16 → get_or (take (16 * c + 16 - 16 * c) (drop (16 * c) channels)) f 0 ≡ get_or channels (16 * c + f) 0
  part_of f h = rw (add-sub_cancel_left (16 * c) 16, get_or-take 16 (drop (16 * c) channels) f 0 h, get_or-drop (16 * c) channels f 0)

  module _ (ys : List ℕ) (ly : length ys ≡ 16) where
    abbrev new : List ℕ
    new = put_mid (16 * c) (16 * c + 16 - 16 * c) channels ys

    pub part_stays : (i : ℕ) → i < 16 * c → get_or new i 0 ≡ get_or channels i 0
    part_stays i h =
        get_or-append (take (16 * c) channels) (ys ++ post_of (16 * c) (16 * c + 16 - 16 * c) channels) 0 i (omega (arith, length-take-le (16 * c) channels (omega arith)))
        ∙ get_or-take (16 * c) channels i 0 h

    pub part-is : (f : ℕ) → f < 16 → get_or new (16 * c + f) 0 ≡ get_or ys f 0
    part-is f h =
        let e : 16 * c + f ≡ length (take (16 * c) channels) + f = omega (arith, length-take-le (16 * c) channels (omega arith)) in
        ap (λ (n : ℕ). get_or new n 0) e
        ∙ get_or-append-add (take (16 * c) channels) (ys ++ post_of (16 * c) (16 * c + 16 - 16 * c) channels) f 0
        ∙ get_or-append ys (post_of (16 * c) (16 * c + 16 - 16 * c) channels) 0 f (omega arith)
