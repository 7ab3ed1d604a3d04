-- The round trip: what was multiplexed comes back from the undamaged line, whole notes, counts and digits; no alignment digit differs
-- and no control digit dissents. The undamaged line is one that damage may leave, so that decisions and digits need no proof of their own.
use mathlib.Core.Path.{◌≡◌, refl, sym, ◌∙◌, ap}
use mathlib.Core.Bool.{cond}
use mathlib.Core.List.{List}
use Prim.Native.Nat.{ℕ, ◌+◌, ◌*◌, ◌/◌, ◌%◌, ◌^◌, ◌<◌}
use native.Mathlib.Omega.{arith}
use native.Mathlib.Decide.{dec_lt}
use native.Mathlib.Nat.{div-eq_of_lt, mul-zero}
use lib.Dec.{eqb, lit<}
use lib.ListN.{get_or}
use lib.Pow.{pow_mono}
use borrow.Author.Tests.{lt-ltb, le-ltb, eq-eqb}
use Rattle.digits.specs.Digits.{Binary}
use Rattle.digits.specs.Sums.{sum_to}
use Rattle.digits.proofs.Laws.{tab-of, tab-length, tab-binary}
use Rattle.digits.proofs.Lists.{differing-self, byte-of-bits}
use Rattle.digits.proofs.Sums.{sum-all}
use Rattle.table.specs.declared.Row.{Row}
use Rattle.levels.specs.declared.vote.Vote.{Vote}
use Rattle.levels.specs.declared.order.Action.{Action}
use Rattle.levels.specs.declared.places.ServiceDigit.{ServiceDigit}
use Rattle.levels.specs.declared.places.ServiceDigit.TheVariants.{RemoteAlarm, FirstNational, SecondNational, ThirdNational, Fixed}
use Rattle.levels.specs.declared.places.Kind.{Kind}
use Rattle.levels.specs.declared.places.Kind.TheVariants.{Word, Service, Control, Justification, Tributary}
use Rattle.levels.specs.Table.{Shared}
use Rattle.levels.specs.Places.{noted_of, kind_at, pos_of}
use Rattle.levels.specs.Order.{stuffed, decisions, actions, carried, before}
use Rattle.levels.specs.Word.{word_digit, wrong_digits}
use Rattle.levels.proofs.Choice.{cond-by}
use Rattle.levels.proofs.Majority.{digit-counts}
use Rattle.levels.specs.Line.{service_by, digit_by, line_digit}
use Rattle.reading.specs.Notes.{vote_at, service_at, bit_of, note_of}
use Rattle.promises.specs.Damage.{Damage, group_at, line_digits}
use Rattle.promises.specs.Carried.{Sound, CameBack}
use Rattle.promises.proofs.Sent.{sent_word, sent-service}
use Rattle.promises.proofs.Recovered.{vote-kept, damage-recovered}

-- a sum of nothing
none : (n : ℕ) (g : ℕ → ℕ) → ((i : ℕ) → i < n → g i ≡ 0) → sum_to n g ≡ 0
none n g zeros = sum-all n 0 g zeros ∙ mul-zero n

-- every digit of a line is a digit
service-small : (note : ℕ) (s : ServiceDigit) → service_by note s < 2
service-small note RemoteAlarm = omega arith
service-small note FirstNational = omega arith
service-small note SecondNational = omega arith
service-small note ThirdNational = omega arith
service-small note Fixed = omega arith

digit-small : (row : Row) (note : ℕ) (act : Action) (j r next : ℕ) → next < 2 → (k : Kind) → digit_by row note act j r next k < 2
digit-small row note act j r next h Word = omega arith
digit-small row note act j r next h (Service s) = service-small note s
digit-small row note act j r next h Control = cond-by (λ (n : ℕ). n < 2) (stuffed note j) (lit< tt) (lit< tt)
digit-small row note act j r next h (Justification sign) = cond-by (λ (n : ℕ). n < 2) (carried (Justification sign) act) h (lit< tt)
digit-small row note act j r next h Tributary = h

pub line_small : (row : Row) (earlier : ℕ) (notes : List ℕ) (tributary : ℕ → List ℕ) → ((j : ℕ) → j < 4 → Binary (tributary j)) → (p : ℕ) → line_digit row earlier notes tributary p < 2
unfolding line_digit
line_small row earlier notes tributary bin p =
    digit-small row (get_or notes (pos_of row p).frame 0) (actions row earlier notes (p % 4) (pos_of row p).frame) (p % 4) (pos_of row p).place
    (get_or (tributary (p % 4)) (before row (actions row earlier notes (p % 4)) (p % 4) (p / 4)) 0)
    (bin (p % 4) (omega arith) (before row (actions row earlier notes (p % 4)) (p % 4) (p / 4)))
    (kind_at row p)

pub line-binary : (row : Row) (earlier : ℕ) (notes : List ℕ) (tributary : ℕ → List ℕ) → ((j : ℕ) → j < 4 → Binary (tributary j)) → (F : ℕ) → Binary (line_digits row earlier notes tributary F)
line-binary row earlier notes tributary bin F = tab-binary (F * row.digits) 0 (line_digit row earlier notes tributary) (line_small row earlier notes tributary bin)

module _ (row : Row) (sh : Shared row) (F earlier : ℕ) (notes : List ℕ) (tributary : ℕ → List ℕ) (sound : Sound row F notes tributary) where
  abbrev line : List ℕ
  line = line_digits row earlier notes tributary F

  -- no change at all is damage
  pub undamaged : Damage row earlier notes F line line
  undamaged =
      record {
        digits = line-binary row earlier notes tributary sound.digits F;
        size = tab-length (F * row.digits) 0 (line_digit row earlier notes tributary);
        others_kept = λ p h e. refl;
        few_controls = λ f j hf hj. omega (arith, differing-self (group_at row line f j));
      }

  module _ (f : ℕ) (hf : f < F) where
    abbrev note : ℕ
    note = get_or notes f 0

    vote-back : (j : ℕ) → j < 4 → vote_at row line f j ≡ record { stuffed = decisions notes j f; dissent = 0 }
    vote-back j hj = rw (vote-kept row sh F earlier notes tributary line undamaged f j hf hj, differing-self (group_at row line f j))

    bit-back : (j : ℕ) → j < 4 → bit_of (vote_at row line f j).stuffed ≡ note / 2 ^ j % 2
    bit-back j hj = rw (vote-back j hj) (digit-counts (note / 2 ^ j % 2) (omega arith))

    service-back : (k : ℕ) → service_at row line f k ≡ note / 2 ^ (4 + k) % 2
    unfolding service_at
    service-back k =
        elim (dec_lt k (noted_of row)) [
          | yes h ↦ rw (lt-ltb k (noted_of row) h) (sent-service row sh earlier notes tributary F f k (f * row.digits + (row.alarm + k)) hf h refl)
          | no h ↦
              let none : note / 2 ^ (4 + k) ≡ 0 = div-eq_of_lt (omega (arith, sound.notes_fit f hf, pow_mono {i = 4 + noted_of row} {j = 4 + k} (omega arith))) in
              rw (le-ltb k (noted_of row) (omega arith), none)
        ]

    note-back : note_of row line f ≡ note
    unfolding note_of
    note-back =
        rw (bit-back 0 (lit< tt), bit-back 1 (lit< tt), bit-back 2 (lit< tt), bit-back 3 (lit< tt), service-back 0, service-back 1, service-back 2, service-back 3)
        (byte-of-bits note (omega (arith, sound.notes_fit f hf, pow_mono {i = 4 + noted_of row} {j = 8} (omega (arith, sh.few_alarm, sh.few_national)))))

    word_back : wrong_digits row line (f * row.digits) ≡ 0
    word_back =
        none row.len (λ (k : ℕ). cond (eqb (get_or line (f * row.digits + k) 0) (word_digit row k)) 0 1)
        (λ k h. rw (eq-eqb (get_or line (f * row.digits + k) 0) (word_digit row k) (sent_word row sh earlier notes tributary F f k (f * row.digits + k) hf h refl)))

  pub round_trip : CameBack row earlier F notes tributary line
  round_trip =
      record {
        noted = sym (tab-of notes F (note_of row line) sound.all_noted (λ f hf. sym (note-back f hf)));
        returned = damage-recovered row sh F earlier notes tributary line undamaged sound.room;
        aligned = none F (λ (f : ℕ). wrong_digits row line (f * row.digits)) word_back;
        unanimous = λ j hj. none F (λ (f : ℕ). (vote_at row line f j).dissent) (λ f hf. ap (λ (v : Vote). v.dissent) (vote-back f hf j hj));
      }
