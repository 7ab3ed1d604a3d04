-- The multiframe of 2048 kbit/s: sixteen frames of 32 bytes. What each of its 4096 digits is, said once; building and taking apart are read
-- off it. Request 3 of document 02, by tables 1 and 2 of document 000 and G.704. Frames, bytes and digits count from 0, channels from 1.
use Rattle.std.specs.Prelude.{Bool, cond, true, false, List, [], ◌∷◌, ℕ, zero, suc, ◌+◌, ◌-◌, ◌*◌, ◌/◌, ◌%◌, eqb, ltb, leb, get_or, replicate}
use Rattle.digits.specs.Digits.{digits_of, bytes_of, tab}
use Rattle.multiframe.specs.declared.SpareDigit.TheVariants.{International, Alarm, National, Extra, MultiframeAlarm}
use Rattle.multiframe.specs.declared.Kind.{Kind}
use Rattle.multiframe.specs.declared.Kind.TheVariants.{Fixed, Spare, Signalling, Channel}

-- ---- what each digit is

-- table 1, byte 0 of a frame with the word: M 0 0 1 1 0 1 1
abbrev pub with_word : List Kind
with_word = Spare International ∷ Fixed 0 ∷ Fixed 0 ∷ Fixed 1 ∷ Fixed 1 ∷ Fixed 0 ∷ Fixed 1 ∷ Fixed 1 ∷ []

-- table 1, byte 0 of a frame without the word: M 1 A and five digits for use at home
abbrev pub without_word : List Kind
without_word =
    Spare International ∷ Fixed 1 ∷ Spare Alarm ∷ Spare National ∷ Spare National ∷ Spare National ∷ Spare National ∷ Spare National ∷ []

-- table 2, byte 16 of frame 0: 0000, then X Y X X as G.704 has it
abbrev pub multiframe_byte : List Kind
multiframe_byte =
    Fixed 0 ∷ Fixed 0 ∷ Fixed 0 ∷ Fixed 0 ∷ Spare Extra ∷ Spare MultiframeAlarm ∷ Spare Extra ∷ Spare Extra ∷ []

-- table 2, byte 16 of frame k: "four signalling digits for channel k, then four for k+15"
abbrev pub signalling_byte : ℕ → List Kind
signalling_byte k =
    Signalling k ∷ Signalling k ∷ Signalling k ∷ Signalling k
    ∷ Signalling (k + 15) ∷ Signalling (k + 15) ∷ Signalling (k + 15) ∷ Signalling (k + 15) ∷ []

-- bytes 1 to 15 and 17 to 31 are channels 1 to 30
abbrev pub channel_of : ℕ → ℕ
channel_of b = cond (ltb b 16) b (b - 1)

-- the eight digits of byte b of frame f: even frames have the word
abbrev pub kinds_of : ℕ → ℕ → List Kind
kinds_of f b =
    cond (eqb b 0) (cond (eqb (f % 2) 0) with_word without_word)
    (cond (eqb b 16) (cond (eqb f 0) multiframe_byte (signalling_byte f)) (replicate 8 (Channel (channel_of b))))

-- place p of the multiframe: a digit of a byte of a frame
unfoldable pub kind_at : ℕ → Kind
kind_at p = get_or (kinds_of (p / 256) (p / 8 % 32)) (p % 8) (Fixed 0)

-- ---- where it stands in what is lent for channels, signalling and spare digits

abbrev pub is_spare : Kind → Bool
is_spare (Fixed d) = false
is_spare (Spare s) = true
is_spare (Signalling c) = false
is_spare (Channel c) = false

-- spare digits are packed in the order of their places: so many stand before place p
unfoldable pub spares_before : ℕ → ℕ
spares_before zero = 0
spares_before (suc p) = spares_before p + cond (is_spare (kind_at p)) 1 0

-- byte k - 1 of the signalling has channel k's four digits and then channel k + 15's: where channel c's begin
abbrev pub signalling_from : ℕ → ℕ
signalling_from c = cond (leb c 15) (8 * (c - 1)) (8 * (c - 16) + 4)

-- of each channel sixteen bytes, one for each frame: where channel c's begin
abbrev pub channel_from : ℕ → ℕ
channel_from c = 16 * (c - 1)

-- the digit that this kind means at place p
abbrev pub meant : List ℕ → List ℕ → List ℕ → ℕ → Kind → ℕ
meant channels signalling spare p (Fixed d) = d
meant channels signalling spare p (Spare s) = get_or (digits_of spare) (spares_before p) 0
meant channels signalling spare p (Signalling c) = get_or (digits_of signalling) (signalling_from c + p % 4) 0
meant channels signalling spare p (Channel c) = get_or (digits_of channels) (8 * (channel_from c + p / 256) + p % 8) 0

abbrev pub digit_for : List ℕ → List ℕ → List ℕ → ℕ → ℕ
digit_for channels signalling spare p = meant channels signalling spare p (kind_at p)

-- the multiframe that these make
unfoldable pub multiframe_of : List ℕ → List ℕ → List ℕ → List ℕ
multiframe_of channels signalling spare = bytes_of 512 (tab 4096 0 (digit_for channels signalling spare))

abbrev pub is_fixed : Kind → Bool
is_fixed (Fixed d) = true
is_fixed (Spare s) = false
is_fixed (Signalling c) = false
is_fixed (Channel c) = false
