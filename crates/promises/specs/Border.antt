-- Examples for demand 3: the two sends that one changed digit more makes equal, and a send with not one digit to spare.
use Rattle.std.specs.Prelude.{◌≡◌, ◌≢◌, Bool, cond, not, List, [], ◌∷◌, ℕ, ◌+◌, ◌*◌, ◌-◌, ◌<◌, leb, get_or, replicate}
use Rattle.digits.specs.Digits.{tab}
use Rattle.digits.specs.Sums.{sum_to}
use Rattle.table.specs.declared.Row.{Row}
use Rattle.levels.specs.Places.{pos_of}
use Rattle.levels.specs.Order.{decisions}
use Rattle.levels.specs.Faults.{national_bits}
use Rattle.reading.specs.Notes.{dissent_to}
use Rattle.promises.specs.Damage.{Liberty, at-will, counted, kept, liberty_at, allowed, DamageUpTo, Damage, controls_changed, line_digits}
use Rattle.promises.specs.Carried.{Sound}
use Rattle.promises.specs.Calls.{Lent, SendAccepted, sent_line, sent_counts, SendBack}

-- every digit that may be changed at will is inverted, and every control digit of the sets that change says
abbrev pub inverted : Liberty → Bool → ℕ → ℕ
inverted at-will change d = 1 - d
inverted counted change d = cond change (1 - d) d
inverted kept change d = d

abbrev pub spoilt : Row → ℕ → List ℕ → (ℕ → Bool) → ℕ → List ℕ → List ℕ
spoilt row earlier notes change F sent =
    tab (F * row.digits) 0 (λ (p : ℕ). inverted (liberty_at row earlier notes p) (change (pos_of row p).set) (get_or sent p 0))

-- how many of the k sets after the first are changed
abbrev pub changes : (ℕ → Bool) → ℕ → ℕ
changes change k = sum_to k (λ (s : ℕ). cond (change (s + 1)) 1 0)

-- as many sets as digits of a group may be changed: the first so many after the first set, or all after them
abbrev pub early : Row → ℕ → Bool
early row s = leb s (allowed row)

abbrev pub late : Row → ℕ → Bool
late row s = not (early row s)

-- two sends of F frames, after one earlier vote, that differ in every decision: no frame stuffed, every frame stuffed for all four; all digits are 0
abbrev pub none_stuffed : Row → ℕ → List ℕ
none_stuffed row F = replicate F (national_bits row)

abbrev pub all_stuffed : Row → ℕ → List ℕ
all_stuffed row F = replicate F (15 + national_bits row)

abbrev pub idle : Row → ℕ → ℕ → List ℕ
idle row F j = replicate (F * row.room) 0

-- the border: both are sound sends, they differ in every decision, and there is a line that comes from the one by damage and from the other by
-- one control digit more of each group. Dissent is counted from the majority and not from what was sent: it is the number of digits that were changed
-- of the one, and the other had more changed
pub record Border (row : Row) (earlier F : ℕ) : Type 0 where
  pub line : List ℕ
  pub sound_one : Sound row F (none_stuffed row F) (idle row F)
  pub sound_other : Sound row F (all_stuffed row F) (idle row F)
  pub from_one : Damage row earlier (none_stuffed row F) F (line_digits row earlier (none_stuffed row F) (idle row F) F) line
  pub from_other : DamageUpTo (allowed row + 1) row earlier (all_stuffed row F) F (line_digits row earlier (all_stuffed row F) (idle row F) F) line
  pub dissenting : (j : ℕ) → j < 4 → dissent_to row line j F ≡ F * allowed row
  pub changed_other : (j : ℕ) → j < 4 → controls_changed row F (line_digits row earlier (all_stuffed row F) (idle row F) F) line j ≡ F * (allowed row + 1)
  pub differ : (j f : ℕ) → j < 4 → f < F → decisions (none_stuffed row F) j f ≢ decisions (all_stuffed row F) j f

-- four frames at 8448 kbit/s, none stuffed, of zeros, with not one digit to spare: each carries 206 digits of a tributary, and a quarter of 103 bytes holds the 824
abbrev pub full_send : Lent
full_send = record { line = replicate 424 0; notes = 0x20 ∷ 0x20 ∷ 0x20 ∷ 0x20 ∷ []; buffer = replicate 412 0 }

abbrev pub full_read : Lent
full_read = record { line = sent_line 2 0 full_send; notes = replicate 4 0; buffer = replicate 412 0xFF }

pub record Full : Type 0 where
  pub accepted : SendAccepted 2 0 full_send
  pub counted : sent_counts 2 0 full_send ≡ 824 ∷ 824 ∷ 824 ∷ 824 ∷ []
  pub back : SendBack 2 0 full_send full_read
