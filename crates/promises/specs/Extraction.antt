-- What is said of extraction alone, by notes that are given: what of the line and of the notes a tributary depends on. A call is lent a line,
-- notes and a buffer; tributaries are counted from 0.
use Rattle.std.specs.Prelude.{◌≡◌, Bool, true, false, ◌&&◌, List, [], ◌∷◌, ◌++◌, ℕ, ◌%◌, ◌<◌, eqb, length, get_or, take, drop}
use Rattle.digits.specs.Digits.{digits_of}
use Rattle.table.specs.declared.Row.{Row}
use Rattle.levels.specs.declared.places.Kind.{Kind}
use Rattle.levels.specs.declared.places.Kind.TheVariants.{Word, Service, Control, Justification, Tributary}
use Rattle.table.specs.Table.{level_of}
use Rattle.levels.specs.Sizes.{on_level, quarter_of}
use Rattle.levels.specs.Places.{kind_at}
use Rattle.levels.specs.Order.{stuffed, decisions}
use Rattle.levels.specs.Faults.{answered}
use Rattle.extraction.specs.Extract.{buffer_after}
use Rattle.promises.specs.Damage.{own_place}
use Rattle.promises.specs.Calls.{Lent, sent_counts, sent_digits}

-- it was accepted; the counts it answers; the digits of tributary j that it leaves and counts
abbrev pub ExtractAccepted : ℕ → ℕ → Lent → Type 0
ExtractAccepted level earlier c = (answered level earlier (length c.line) c.notes (length c.buffer)).refusal ≡ 0

abbrev pub extract_counts : ℕ → ℕ → Lent → List ℕ
extract_counts level earlier c = (answered level earlier (length c.line) c.notes (length c.buffer)).counts

abbrev pub extract_digits : ℕ → ℕ → Lent → ℕ → List ℕ
extract_digits level earlier c j =
    take (get_or (extract_counts level earlier c) j 0) (digits_of (quarter_of (buffer_after level earlier c.line c.notes c.buffer) j))

-- the same digits at tributary k's own places
abbrev pub SameOwn : Row → ℕ → List ℕ → List ℕ → Type 0
SameOwn row k ds es = (p : ℕ) → p < length ds → own_place row k p ≡ true → get_or ds p 0 ≡ get_or es p 0

abbrev pub SameOwnAt : ℕ → ℕ → List ℕ → List ℕ → Type 0
SameOwnAt level k line other = on_level (level_of level) (λ (row : Row). SameOwn row k (digits_of line) (digits_of other)) ⊥

-- the places that may carry a digit of tributary k: its own without the control digits
abbrev pub bears : Kind → Bool
bears Word = false
bears (Service s) = false
bears Control = false
bears (Justification sign) = true
bears Tributary = true

abbrev pub SameBearing : Row → ℕ → List ℕ → List ℕ → Type 0
SameBearing row k ds es = (p : ℕ) → p < length ds → eqb (p % 4) k && bears (kind_at row p) ≡ true → get_or ds p 0 ≡ get_or es p 0

abbrev pub SameBearingAt : ℕ → ℕ → List ℕ → List ℕ → Type 0
SameBearingAt level k line other = on_level (level_of level) (λ (row : Row). SameBearing row k (digits_of line) (digits_of other)) ⊥

-- "and looks at no control digit": two lines with the same digit at every place that is no control digit, whatever the control digits are
abbrev pub is_control : Kind → Bool
is_control Word = false
is_control (Service s) = false
is_control Control = true
is_control (Justification sign) = false
is_control Tributary = false

abbrev pub SameButControls : Row → List ℕ → List ℕ → Type 0
SameButControls row ds es = (p : ℕ) → p < length ds → is_control (kind_at row p) ≡ false → get_or ds p 0 ≡ get_or es p 0

abbrev pub SameButControlsAt : ℕ → List ℕ → List ℕ → Type 0
SameButControlsAt level line other = on_level (level_of level) (λ (row : Row). SameButControls row (digits_of line) (digits_of other)) ⊥

-- as many notes, each with the same bit for tributary k, and so the votes before them
pub record SameBit (k earlier other-earlier : ℕ) (notes other : List ℕ) : Type 0 where
  pub before : stuffed earlier k ≡ stuffed other-earlier k
  pub frames : length notes ≡ length other
  pub bit : (f : ℕ) → f < length notes → decisions notes k f ≡ decisions other k f

-- tributary k comes out of two extractions as one, each with the vote before its notes
pub record ExtractsSame (level earlier other-earlier k : ℕ) (a b : Lent) : Type 0 where
  pub counted : get_or (extract_counts level earlier a) k 0 ≡ get_or (extract_counts level other-earlier b) k 0
  pub digits : extract_digits level earlier a k ≡ extract_digits level other-earlier b k

-- extraction returns what was sent
pub record Extracted (level earlier : ℕ) (send c : Lent) : Type 0 where
  pub accepted : ExtractAccepted level earlier c
  pub counted : extract_counts level earlier c ≡ sent_counts level earlier send
  pub digits : (j : ℕ) → j < 4 → extract_digits level earlier c j ≡ sent_digits level earlier send j

-- "the same ones shifted by a frame": each frame goes by the note of the frame before, the first by one that is given; or by that of the frame
-- after, and the last by one that is given
abbrev pub frame_before : ℕ → List ℕ → List ℕ
frame_before note notes = take (length notes) (note ∷ notes)

abbrev pub frame_after : ℕ → List ℕ → List ℕ
frame_after note notes = drop 1 (notes ++ (note ∷ []))

abbrev pub by_notes : Lent → List ℕ → Lent
by_notes c notes = record { line = c.line; notes = notes; buffer = c.buffer }

-- tributary k's decision does not change from frame to frame, and the note that is given and the votes before the notes have it too
pub record Steady (k note earlier shifted : ℕ) (notes : List ℕ) : Type 0 where
  pub before : stuffed earlier k ≡ stuffed note k
  pub before_shifted : stuffed shifted k ≡ stuffed note k
  pub bit : (f : ℕ) → f < length notes → decisions notes k f ≡ stuffed note k
