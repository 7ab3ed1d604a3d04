-- The frames worked by hand: the cases of document 01 that are marked P, 1 and 3 with the notes of document 02, request 14, and those of document 02,
-- request 10, as rows of one table, and what each claims. docs/GUIDE.md, "Frames worked by hand", has the working of the latter.
use Rattle.std.specs.Prelude.{◌≡◌, Bool, true, false, List, [], ◌∷◌, ℕ, ◌*◌, ◌-◌, ◌/◌, ◌≤◌, length, get_or, set, replicate}
use Rattle.table.specs.declared.Row.{Row}
use Rattle.table.specs.Table.{level_of}
use Rattle.levels.specs.Sizes.{on_level}
use Rattle.levels.specs.declared.order.Action.{Action}
use Rattle.levels.specs.declared.order.Action.TheVariants.{Stuffed, PositiveCarries, BothCarry}
use Rattle.levels.specs.Order.{places_of}
use Rattle.levels.specs.Vote.{vote_of}
use Rattle.levels.specs.Faults.{send_answered}
use Rattle.multiplex.specs.Multiplex.{line_after}

-- a byte of a frame and what it holds
pub record Byte : Type 0 where
  pub at : ℕ
  pub holds : ℕ

abbrev pub byte : ℕ → ℕ → Byte
byte k b = record { at = k; holds = b }

-- so many bytes: these, the others 00
abbrev pub bytes_with : ℕ → List Byte → List ℕ
bytes_with n [] = replicate n 0
bytes_with n (b ∷ bs) = set (bytes_with n bs) b.at b.holds

pub data Case : Type 0 where
  -- at a level, one frame with this note, after this vote, and zero quarters: its bytes that are not 00, and the four counts
  frame : (level earlier note : ℕ) → List Byte → List ℕ → Case
  -- at a level, a digit (from 0) of a tributary (1 to 4), in a frame that does so for it: its place
  digit : (level tributary number : ℕ) → Action → (place : ℕ) → Case
  -- a control group: whether it reads stuffed
  group : List ℕ → Bool → Case

-- what a case claims. Of a frame: multiplexing, lent any line of its length and any buffer of zeros with room, is accepted, answers these
-- counts and leaves these bytes
abbrev pub Claim : Case → Type 0
Claim (frame level earlier note bytes counts) =
    on_level (level_of level)
    (λ (row : Row).
    (line : List ℕ) (q : ℕ) → length line ≡ row.bytes → row.room ≤ 8 * q
    → (send_answered level earlier (length line) (note ∷ []) (4 * q) ≡ record { refusal = 0; frame = 0; counts = counts })
    × (line_after level earlier line (note ∷ []) (replicate (4 * q) 0) ≡ bytes_with row.bytes bytes))
    ⊥
Claim (digit level tributary number act place) =
    on_level (level_of level) (λ (row : Row). get_or (places_of row (λ (f : ℕ). act) (tributary - 1) (row.digits / 4)) number 0 ≡ place) ⊥
Claim (group digits stuffed) = (vote_of digits).stuffed ≡ stuffed

abbrev pub Every : List Case → Type 0
Every [] = Unit {0}
Every (c ∷ cs) = Claim c × Every cs

unfoldable pub cases : List Case
cases =
    -- 1. Level 2, F = 1, note 20 hex, quarters zero: F4 10, then 104 bytes 00. Counts 206.
    frame 2 0 0x20 (byte 0 0xF4 ∷ byte 1 0x10 ∷ []) (206 ∷ 206 ∷ 206 ∷ 206 ∷ [])
    -- 2. Level 2, note 3F hex, quarters zero: byte 0 F4, byte 1 30, byte 26 0F, byte 53 F0, byte 79 0F, byte 80 F0, the others 00. Counts 205.
    ∷ frame 2 0 0x3F (byte 0 0xF4 ∷ byte 1 0x30 ∷ byte 26 0x0F ∷ byte 53 0xF0 ∷ byte 79 0x0F ∷ byte 80 0xF0 ∷ []) (205 ∷ 205 ∷ 205 ∷ 205 ∷ [])
    -- 3. Level 3, note 21 hex, quarters zero: byte 0 F4, byte 1 10, bytes 48 and 96 80, byte 144 88, the others of 192 are 00. Counts 377, 378, 378, 378.
    ∷ frame 3 0 0x21 (byte 0 0xF4 ∷ byte 1 0x10 ∷ byte 48 0x80 ∷ byte 96 0x80 ∷ byte 144 0x88 ∷ []) (377 ∷ 378 ∷ 378 ∷ 378 ∷ [])
    -- 4. Level 4, note FF, quarters zero: FA 0F, bytes 61, 122, 183, 244 F0, byte 305 FF, the others of 366 are 00. Counts 722.
    ∷ frame 4 0 0xFF (byte 0 0xFA ∷ byte 1 0x0F ∷ byte 61 0xF0 ∷ byte 122 0xF0 ∷ byte 183 0xF0 ∷ byte 244 0xF0 ∷ byte 305 0xFF ∷ []) (722 ∷ 722 ∷ 722 ∷ 722 ∷ [])
    -- 5. Level 2, tributary digit 50 (from 0) of tributary 1 is at place 216; digit 154 is at 640 if carried; with stuffing, digit 154 is at 644.
    ∷ digit 2 1 50 PositiveCarries 216
    ∷ digit 2 1 50 Stuffed 216
    ∷ digit 2 1 154 PositiveCarries 640
    ∷ digit 2 1 154 Stuffed 644
    -- 6. Level 3: digit 93 of tributary 1 at 388, digit 283 at 1156 if carried, digit 377 of tributary 4 at 1535 if none is stuffed.
    ∷ digit 3 1 93 PositiveCarries 388
    ∷ digit 3 1 93 Stuffed 388
    ∷ digit 3 1 283 PositiveCarries 1156
    ∷ digit 3 4 377 PositiveCarries 1535
    -- 7. Level 4: digit 118 of tributary 1 at 492, digit 602 at 2444 if carried, digit 722 of tributary 4 at 2927 if none is stuffed.
    ∷ digit 4 1 118 PositiveCarries 492
    ∷ digit 4 1 118 Stuffed 492
    ∷ digit 4 1 602 PositiveCarries 2444
    ∷ digit 4 4 722 PositiveCarries 2927
    -- 8. Group 110 reads stuffed, 100 carried; 11100 stuffed, 11000 carried.
    ∷ group (1 ∷ 1 ∷ 0 ∷ []) true
    ∷ group (1 ∷ 0 ∷ 0 ∷ []) false
    ∷ group (1 ∷ 1 ∷ 1 ∷ 0 ∷ 0 ∷ []) true
    ∷ group (1 ∷ 1 ∷ 0 ∷ 0 ∷ 0 ∷ []) false
    ∷ []

-- those of request 10: the vote before the frame, then the frame's own
unfoldable pub signed_cases : List Case
signed_cases =
    -- Level 12, votes 0 after 0: E6, bytes 33 and 66 0F (service places), the others of 132 are 00. Counts 257.
    frame 12 0x00 0x00 (byte 0 0xE6 ∷ byte 33 0x0F ∷ byte 66 0x0F ∷ []) (257 ∷ 257 ∷ 257 ∷ 257 ∷ [])
    -- Level 12, votes 15 after 15: bytes 33, 66 and 99 FF, byte 100 F0. Counts 255.
    ∷ frame 12 0x0F 0x0F (byte 0 0xE6 ∷ byte 33 0xFF ∷ byte 66 0xFF ∷ byte 99 0xFF ∷ byte 100 0xF0 ∷ []) (255 ∷ 255 ∷ 255 ∷ 255 ∷ [])
    -- Level 12, votes 05 after 03: tributary 1 is stuffed, 2 and 3 carry their positive digit, 4 both. Counts 255, 256, 256, 257.
    ∷ frame 12 0x03 0x05 (byte 0 0xE6 ∷ byte 33 0xAF ∷ byte 66 0xAF ∷ byte 99 0xAE ∷ byte 100 0x80 ∷ []) (255 ∷ 256 ∷ 256 ∷ 257 ∷ [])
    -- Level 14, the same: F4 30 (two service places), bytes 68 and 136 A0, byte 204 AE, byte 205 80, the others of 272 are 00. Counts 536 to 538.
    ∷ frame 14 0x03 0x05 (byte 0 0xF4 ∷ byte 1 0x30 ∷ byte 68 0xA0 ∷ byte 136 0xA0 ∷ byte 204 0xAE ∷ byte 205 0x80 ∷ []) (536 ∷ 537 ∷ 537 ∷ 538 ∷ [])
    -- Level 12: digit 192 of tributary 1 is the first of group IV: at 796 if both places carry, and digit 193 at 800; at 800 if only the positive
    -- place does; at 804 with stuffing. The last digit of tributary 4 is at 1055.
    ∷ digit 12 1 191 BothCarry 788
    ∷ digit 12 1 192 BothCarry 796
    ∷ digit 12 1 193 BothCarry 800
    ∷ digit 12 1 192 PositiveCarries 800
    ∷ digit 12 1 192 Stuffed 804
    ∷ digit 12 4 256 BothCarry 1055
    -- Level 14: the same of digit 403.
    ∷ digit 14 1 403 BothCarry 1636
    ∷ digit 14 1 404 BothCarry 1640
    ∷ digit 14 1 403 PositiveCarries 1640
    ∷ digit 14 1 403 Stuffed 1644
    ∷ digit 14 4 537 BothCarry 2175
    ∷ []
