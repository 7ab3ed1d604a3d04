-- What the theorems over building and taking apart speak of.
use Rattle.std.specs.Prelude.{◌≡◌, List, ℕ, ◌<◌, get_or, take, drop}
use Rattle.digits.specs.Digits.{digits_of}
use Rattle.multiframe.specs.declared.Kind.TheVariants.{Fixed, Channel}
use Rattle.multiframe.specs.Multiframe.{kind_at, channel_from}

-- its fixed digits are right: the words, the second digits of 1, and 0000
abbrev pub FixedRight : List ℕ → Type 0
FixedRight multiframe = (p v : ℕ) → p < 4096 → kind_at p ≡ Fixed v → get_or (digits_of multiframe) p 0 ≡ v

-- the sixteen bytes of channel c
abbrev pub channel_bytes : List ℕ → ℕ → List ℕ
channel_bytes channels c = take 16 (drop (channel_from c) channels)

-- two multiframes agree at the places of channel c
abbrev pub SameAt : ℕ → List ℕ → List ℕ → Type 0
SameAt c one other = (p : ℕ) → p < 4096 → kind_at p ≡ Channel c → get_or (digits_of one) p 0 ≡ get_or (digits_of other) p 0
