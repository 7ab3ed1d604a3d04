-- What the functions behind `build` and `apart` leave: columns of a multiframe, which are every 32nd byte, the channels, the other bytes, and
-- the spare digits.
use Rattle.std.specs.Prelude.{◌≡◌, ◌≢◌, cond, List, [], ◌∷◌, ◌++◌, map, ℕ, ◌+◌, ◌*◌, ◌/◌, ◌%◌, ◌<◌, eqb, ltb, get_or}
use Rattle.digits.specs.Digits.{digits_of, byte_of, bytes_of, tab}
use Rattle.multiframe.specs.Multiframe.{channel_of, channel_from}

-- byte f of a column, of its first n, goes to byte `first + 32 * f`, and every other byte stays
pub record ColumnPut (old : List ℕ) (first : ℕ) (column : List ℕ) (n : ℕ) (new : List ℕ) : Type 0 where
  pub put : (f : ℕ) → f < n → get_or new (first + 32 * f) 0 ≡ get_or column f 0
  pub stays : (k : ℕ) → ((f : ℕ) → f < n → k ≢ first + 32 * f) → get_or new k 0 ≡ get_or old k 0

-- and comes from there
abbrev pub ColumnTaken : List ℕ → ℕ → ℕ → List ℕ → Type 0
ColumnTaken multiframe first n column = (f : ℕ) → f < n → get_or column f 0 ≡ get_or multiframe (first + 32 * f) 0

-- the byte of each frame that is channel c's, which is counted from 0 here
abbrev pub column_of : ℕ → ℕ
column_of c = cond (ltb c 15) (c + 1) (c + 2)

-- every byte of the multiframe but bytes 0 and 16 of each frame is its channel's
abbrev pub Channelled : List ℕ → List ℕ → Type 0
Channelled channels multiframe =
    (k : ℕ) → k < 512 → 0 < k % 16 → get_or multiframe k 0 ≡ get_or channels (channel_from (channel_of (k % 32)) + k / 32) 0

-- a digit by its place
abbrev pub at : List ℕ → ℕ → ℕ
at ds p = get_or ds p 0

-- byte 0 of a frame with the word, and of one without, with the spare digits from digit i on
abbrev pub word_byte : List ℕ → ℕ → ℕ
word_byte ds i = byte_of (at ds i ∷ 0 ∷ 0 ∷ 1 ∷ 1 ∷ 0 ∷ 1 ∷ 1 ∷ [])

abbrev pub other_byte : List ℕ → ℕ → ℕ
other_byte ds i = byte_of (at ds i ∷ 1 ∷ at ds (i + 1) ∷ at ds (i + 2) ∷ at ds (i + 3) ∷ at ds (i + 4) ∷ at ds (i + 5) ∷ at ds (i + 6) ∷ [])

-- byte 0 of each frame: frame 0 begins with spare digit 0, an even frame f with digit 4 f + 4, an odd one with 4 f + 1
abbrev pub word_from : ℕ → ℕ
word_from f = cond (eqb f 0) 0 (4 * f + 4)

abbrev pub first_byte : List ℕ → ℕ → ℕ
first_byte ds f = cond (eqb (f % 2) 0) (word_byte ds (word_from f)) (other_byte ds (4 * f + 1))

abbrev pub first_bytes : List ℕ → List ℕ
first_bytes ds = tab 16 0 (first_byte ds)

-- byte 16 of frame 0
abbrev pub sixteenth_byte : List ℕ → ℕ
sixteenth_byte ds = byte_of (0 ∷ 0 ∷ 0 ∷ 0 ∷ at ds 1 ∷ at ds 2 ∷ at ds 3 ∷ at ds 4 ∷ [])

-- the multiframe when every byte is put
pub record Laid (channels signalling spare multiframe : List ℕ) : Type 0 where
  pub channelled : Channelled channels multiframe
  pub firsts : (f : ℕ) → f < 16 → get_or multiframe (32 * f) 0 ≡ get_or (first_bytes (digits_of spare)) f 0
  pub sixteenth : get_or multiframe 16 0 ≡ sixteenth_byte (digits_of spare)
  pub signalled : (f : ℕ) → f < 15 → get_or multiframe (48 + 32 * f) 0 ≡ get_or signalling f 0

-- the places of the spare digits, in order
abbrev pub spare_table : List ℕ
spare_table =
    0 ∷ 132 ∷ 133 ∷ 134 ∷ 135 ∷ 256 ∷ 258 ∷ 259 ∷ 260 ∷ 261 ∷ 262 ∷ 263 ∷ 512 ∷ 768 ∷ 770 ∷ 771 ∷ 772 ∷
    773 ∷ 774 ∷ 775 ∷ 1024 ∷ 1280 ∷ 1282 ∷ 1283 ∷ 1284 ∷ 1285 ∷ 1286 ∷ 1287 ∷ 1536 ∷ 1792 ∷ 1794 ∷ 1795 ∷ 1796 ∷ 1797 ∷
    1798 ∷ 1799 ∷ 2048 ∷ 2304 ∷ 2306 ∷ 2307 ∷ 2308 ∷ 2309 ∷ 2310 ∷ 2311 ∷ 2560 ∷ 2816 ∷ 2818 ∷ 2819 ∷ 2820 ∷ 2821 ∷ 2822 ∷
    2823 ∷ 3072 ∷ 3328 ∷ 3330 ∷ 3331 ∷ 3332 ∷ 3333 ∷ 3334 ∷ 3335 ∷ 3584 ∷ 3840 ∷ 3842 ∷ 3843 ∷ 3844 ∷ 3845 ∷ 3846 ∷ 3847 ∷ []

-- the spare digits of a multiframe, packed: eight to a byte, and four zeros after them
unfoldable pub spare_bytes : List ℕ → List ℕ
spare_bytes ds = bytes_of 9 (map (at ds) spare_table ++ (0 ∷ 0 ∷ 0 ∷ 0 ∷ []))
