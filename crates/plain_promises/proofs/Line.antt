-- The line: at every place both engines send the same digit.
use mathlib.Core.Path.{◌≡◌, refl, sym, ◌∙◌, ap}
use mathlib.Core.Bool.{Bool, cond}
use mathlib.Core.List.{List, ◌∷◌}
use Prim.Native.Nat.{ℕ, ◌+◌, ◌*◌, ◌-◌, ◌/◌, ◌%◌, ◌^◌, ◌<◌}
use native.Mathlib.Omega.{arith}
use native.Mathlib.Nat.{mod-lt, mod-eq_of_lt}
use lib.Dec.{ltb}
use lib.ListN.{length, get_or}
use Rattle.digits.specs.Digits.{digits_of, bytes_of, tab}
use Rattle.digits.proofs.Laws.{tab-of, tab-length, tab-at}
use Rattle.table.specs.declared.Row.{Row}
use Rattle.levels.specs.declared.places.Kind.{Kind}
use Rattle.levels.specs.declared.places.Kind.TheVariants as kinds
use Rattle.levels.specs.declared.places.Sign.TheVariants as signs
use Rattle.levels.specs.declared.order.Action.{Action}
use Rattle.levels.specs.Table.{Shared}
use Rattle.levels.specs.Places.{pos_of, noted_of, noted_digit}
use Rattle.levels.specs.Order.{decisions, actions, is_stuffed, both_carry, before}
use Rattle.levels.specs.Sizes.{quarter_of}
use Rattle.levels.proofs.Majority.{digit-counts}
use Rattle.levels.proofs.Choice.{cond-by}
use Rattle.levels.specs.Line.{digit_by, line_digit, line_of}
use Rattle.levels.proofs.Line.{noted-bit}
use Rattle.engine.specs.declared.frame.Place.{Place}
use Rattle.engine.specs.declared.frame.Place.TheVariants as places
use Rattle.engine.specs.Engine.{digit_at, packed, quarter_digit, place_in, stuffed_in, negative_in, carries_by, carries_at, count_to, sent_by, sent_at}
use Rattle.plain_promises.proofs.Bytes.{quarter-same, packed-same}
use Rattle.plain_promises.proofs.Places.{by_place}
use Rattle.plain_promises.proofs.Order.{acts-same, some, fours, count-place}

-- one of two digits is a digit
small : (t : Bool) (a b : ℕ) → a < 2 → b < 2 → cond t a b < 2
small t a b x y = cond-by (λ (n : ℕ). n < 2) t {a = a} {b = b} x y

-- a digit of a quarter is 0 or 1, and so is every digit that is sent
quarter-small : (buffer : List ℕ) (j i : ℕ) → quarter_digit buffer j i < 2
unfolding quarter_digit digit_at
quarter-small buffer j i =
    let q = length buffer / 4 in
    small (ltb i (8 * q)) (digit_at buffer (8 * (j * q) + i)) 0 (omega arith) (omega arith)

sent-small : (row : Row) (earlier : ℕ) (notes buffer : List ℕ) (p : ℕ) → sent_at row earlier notes buffer p < 2
unfolding sent_at
sent-small row earlier notes buffer p =
    let j = p % row.digits % 4 in
    go (quarter_digit buffer j (count_to row earlier notes j p)) (quarter-small buffer j (count_to row earlier notes j p)) (carries_at row earlier notes p)
    (place_in row (p % row.digits))
  where
    go : (next : ℕ) → next < 2 → (t : Bool) (pl : Place) → sent_by row notes (p / row.digits) (p % row.digits) t next pl < 2
    go next h t places.Alignment = omega arith
    go next h t places.Service = omega arith
    go next h t places.Fixed = omega arith
    go next h t places.Control = omega arith
    go next h t places.Negative = small t next 1 h (omega arith)
    go next h t places.Positive = small t next 1 h (omega arith)
    go next h t places.Tributary = h

module _ (row : Row) (sh : Shared row) (earlier : ℕ) (notes buffer : List ℕ) where
  abbrev tributary : ℕ → List ℕ
  tributary j = digits_of (quarter_of buffer j)

  pub sent-same : (p : ℕ) → sent_at row earlier notes buffer p ≡ line_digit row earlier notes tributary p
  unfolding sent_at carries_at line_digit pos_of
  sent-same p = rw (fours row sh p, next) (by_place row sh q inside Same word service refl control negative positive refl)
    where
      q : ℕ
      q = p % row.digits

      f : ℕ
      f = p / row.digits

      j : ℕ
      j = p % 4

      inside : q < row.digits
      inside = mod-lt p (some row sh)

      d : ℕ
      d = get_or (tributary j) (before row (actions row earlier notes j) j (p / 4)) 0

      next : quarter_digit buffer j (count_to row earlier notes j p) ≡ d
      next =
          let at : p ≡ 4 * (p / 4) + j = omega arith in
          let count : count_to row earlier notes j p ≡ before row (actions row earlier notes j) j (p / 4) =
          ap (count_to row earlier notes j) at ∙ count-place row sh earlier notes j (omega arith) (p / 4) in
          rw count (quarter-same buffer j (omega arith) (before row (actions row earlier notes j) j (p / 4)))

      st : Bool
      st = stuffed_in row earlier notes f j

      ng : Bool
      ng = negative_in row earlier notes f j

      act : Action
      act = actions row earlier notes j f

      acts : (st ≡ is_stuffed act) × (ng ≡ both_carry act)
      acts = acts-same row (decisions (earlier ∷ notes) j f) (decisions notes j f)

      Same : Place → Kind → Type 0
      Same pl k = sent_by row notes f q (carries_by pl st ng) d pl ≡ digit_by row (get_or notes f 0) act j (q % row.set) d k

      word : q < row.len → Same places.Alignment kinds.Word
      word h =
          let r : q % row.set ≡ q = mod-eq_of_lt (omega (arith, sh.room, sh.alarm_next, sh.national_next, sh.first_next)) in
          rw r

      service : (k : ℕ) → q ≡ row.len + k → k < noted_of row → Same places.Service (kinds.Service (noted_digit k))
      service k at h =
          let bit : q - row.len ≡ k = omega (arith, at) in
          rw bit (sym (noted-bit (get_or notes f 0) k (omega (arith, h, sh.few_alarm, sh.few_national))))

      control : Same places.Control kinds.Control
      control = rw (fours row sh p) (sym (digit-counts (get_or notes f 0 / 2 ^ j % 2) (omega arith)))

      negative : Same places.Negative (kinds.Justification signs.Negative)
      negative = rw acts.1

      positive : Same places.Positive (kinds.Justification signs.Positive)
      positive = rw acts.0

  -- so the line is the same, byte by byte
  pub line_same : (n : ℕ) → line_of row earlier notes tributary n ≡ packed n (sent_at row earlier notes buffer)
  line_same n = ap (bytes_of n) places_same ∙ packed-same n (sent_at row earlier notes buffer) (sent-small row earlier notes buffer)
    where
      places_same : tab (8 * n) 0 (line_digit row earlier notes tributary) ≡ tab (8 * n) 0 (sent_at row earlier notes buffer)
      places_same =
          tab-of (tab (8 * n) 0 (line_digit row earlier notes tributary)) (8 * n) (sent_at row earlier notes buffer) (tab-length (8 * n) 0 (line_digit row earlier notes tributary))
          (λ i h.
          let at : 0 + i ≡ i = omega arith in
          tab-at (8 * n) 0 (line_digit row earlier notes tributary) i h ∙ ap (line_digit row earlier notes tributary) at ∙ sym (sent-same i))
