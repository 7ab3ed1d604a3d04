-- What `build` and `apart` answer and leave, refused or not, for any input. Request 3 of document 02.
use Rattle.std.specs.Prelude.{◌≡◌, Bool, cond, false, ◌&&◌, List, ℕ, zero, suc, ◌+◌, ◌<◌, ◌≤◌, eqb, length, get_or, Result, Ok, Err}
use Rattle.digits.specs.Digits.{digits_of, Bytes}
use Rattle.multiframe.specs.declared.Refusal.{Refusal}
use Rattle.multiframe.specs.declared.Refusal.TheVariants.{Line, Signalling}
use Rattle.multiframe.specs.declared.Refused.{Refused}
use Rattle.multiframe.specs.Multiframe.{kind_at, is_fixed, signalling_from, digit_for, multiframe_of}

-- "a multiframe a call; other lengths are refused with 2": 512 bytes, and 480, 15 and 9 for channels, signalling and spare digits
abbrev pub lengths_right : ℕ → ℕ → ℕ → ℕ → Bool
lengths_right multiframe channels signalling spare =
    eqb multiframe 512 && (eqb channels 480 && (eqb signalling 15 && eqb spare 9))

-- ---- the refusals' numbers

-- the number of each refusal that the code knows, and the number that a call answers C with: 0 is accepted
abbrev pub number_of : Refusal → ℕ
number_of Line = 2
number_of Signalling = 11

abbrev pub refusal_in : {A : Type 0} → Result A Refusal → ℕ
refusal_in (Ok _) = 0
refusal_in (Err refusal) = number_of refusal

-- ---- building

-- how many of channel c's four signalling digits are 1
abbrev pub ones_of : List ℕ → ℕ → ℕ
ones_of signalling c =
    get_or (digits_of signalling) (signalling_from c) 0
    + get_or (digits_of signalling) (signalling_from c + 1) 0
    + get_or (digits_of signalling) (signalling_from c + 2) 0
    + get_or (digits_of signalling) (signalling_from c + 3) 0

-- the first of n channels from c on whose signalling is 0000, or 0 where none is
unfoldable pub silent_from : List ℕ → ℕ → ℕ → ℕ
silent_from signalling c zero = 0
silent_from signalling c (suc n) = cond (eqb (ones_of signalling c) 0) c (silent_from signalling (suc c) n)

-- "signalling 0000 for channels 1 to 15", "naming the first"
abbrev pub first_silent : List ℕ → ℕ
first_silent signalling = silent_from signalling 1 15

-- `build`'s answer as numbers: the refusal, 0 for none, and the channel that refusal 11 names
pub record Built : Type 0 where
  pub refusal : ℕ
  pub channel : ℕ

-- a refusal that names no channel
abbrev pub naming_none : Refusal → Refused
naming_none refusal = record { refusal = refusal; channel = 0 }

-- the numbers of what the code answers
abbrev pub numbers_of : {A : Type 0} → Result A Refused → Built
numbers_of (Ok _) = record { refusal = 0; channel = 0 }
numbers_of (Err refused) = record { refusal = number_of refused.refusal; channel = refused.channel }

-- the answer: 2, then 11 with the channel named, or neither
abbrev pub built_of : ℕ → ℕ → List ℕ → ℕ → Built
built_of multiframe channels signalling spare =
    cond (lengths_right multiframe channels (length signalling) spare)
    (record { refusal = cond (eqb (first_silent signalling) 0) 0 11; channel = first_silent signalling })
    (record { refusal = 2; channel = 0 })

-- the whole statement of `build`: its answer, and the multiframe it leaves
abbrev pub BuildMet : List ℕ → List ℕ → List ℕ → List ℕ → Built → List ℕ → Type 0
BuildMet multiframe channels signalling spare answer left =
    let b = built_of (length multiframe) (length channels) signalling (length spare) in
    (answer ≡ b) × (left ≡ cond (eqb b.refusal 0) (multiframe_of channels signalling spare) multiframe)

-- ---- taking apart

-- each digit of the multiframe that is not fixed is the one that building would put there; the last four digits of the spare ones are zero.
-- Fixed digits are not looked at
pub record Taken (multiframe channels signalling spare : List ℕ) : Type 0 where
  pub lengths : (length channels ≡ 480) × (length signalling ≡ 15) × (length spare ≡ 9)
  pub bytes : Bytes channels × Bytes signalling × Bytes spare
  pub each : (p : ℕ) → p < 4096 → is_fixed (kind_at p) ≡ false → digit_for channels signalling spare p ≡ get_or (digits_of multiframe) p 0
  pub rest : (i : ℕ) → 68 ≤ i → i < 72 → get_or (digits_of spare) i 0 ≡ 0

-- the whole statement of `apart`: the refusal, and channels, signalling and spare digits that it leaves; refused, as they were
pub record ApartMet (multiframe channels signalling spare : List ℕ) (refusal : ℕ) (channels' signalling' spare' : List ℕ) : Type 0 where
  pub answer : refusal ≡ cond (lengths_right (length multiframe) (length channels) (length signalling) (length spare)) 0 2
  pub taken : refusal ≡ 0 → Taken multiframe channels' signalling' spare'
  pub kept : refusal ≡ 2 → (channels' ≡ channels) × (signalling' ≡ signalling) × (spare' ≡ spare)
