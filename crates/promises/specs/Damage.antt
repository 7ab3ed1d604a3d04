-- Demand 3 in definitions: what damage may change in a sent line, and which places are one tributary's own. A send has notes and the vote
-- before them, which document 02, request 10, gives to it as a further input.
-- The letter: "Change each line: alignment, service and stuffing digits at will, and in each tributary's control group of each frame at
-- most one of three digits, or two of five at 139264." Lines are lists of digits here; a line of F frames has F * N of them.
use Rattle.std.specs.Prelude.{◌≡◌, Bool, cond, false, ◌&&◌, List, ℕ, ◌+◌, ◌*◌, ◌/◌, ◌%◌, ◌≤◌, ◌<◌, eqb, length, get_or}
use Rattle.digits.specs.Digits.{tab, Binary, differing}
use Rattle.digits.specs.Sums.{sum_to}
use Rattle.table.specs.declared.Row.{Row}
use Rattle.levels.specs.declared.order.Action.{Action}
use Rattle.levels.specs.declared.places.Kind.{Kind}
use Rattle.levels.specs.declared.places.Kind.TheVariants.{Word, Service, Control, Justification, Tributary}
use Rattle.levels.specs.Places.{kind_at, pos_of, is_own}
use Rattle.levels.specs.Order.{actions, carried}
use Rattle.levels.specs.Vote.{group_of}
use Rattle.levels.specs.Line.{line_digit}

-- what may happen to a digit
pub data Liberty : Type 0 where
  at-will counted kept : Liberty

-- by the kind of its place, and by what the send's frame does for its tributary: a justification place that carries no digit has a stuffing
-- digit. "Negative places are justification and own places, an unused one a stuffing digit to demand 3"
abbrev pub liberty : Kind → Action → Liberty
liberty Word act = at-will
liberty (Service s) act = at-will
liberty Control act = counted
liberty (Justification sign) act = cond (carried (Justification sign) act) kept at-will
liberty Tributary act = kept

abbrev pub liberty_at : Row → ℕ → List ℕ → ℕ → Liberty
liberty_at row earlier notes p = liberty (kind_at row p) (actions row earlier notes (p % 4) (pos_of row p).frame)

-- the control group of tributary j (from 0) in frame f
abbrev pub group_at : Row → List ℕ → ℕ → ℕ → List ℕ
group_at row ds f j = group_of ds (f * row.digits + (row.set + j)) row.set row.control

-- "at most one of three digits, or two of five"
abbrev pub allowed : Row → ℕ
allowed row = row.control / 2

-- received comes from sent, a line of F frames sent with these notes and the vote before them, by changes of at most so many digits of each control group
pub record DamageUpTo (most : ℕ) (row : Row) (earlier : ℕ) (notes : List ℕ) (F : ℕ) (sent received : List ℕ) : Type 0 where
  pub digits : Binary received
  pub size : length received ≡ F * row.digits
  pub others_kept : (p : ℕ) → p < F * row.digits → liberty_at row earlier notes p ≡ kept → get_or received p 0 ≡ get_or sent p 0
  pub few_controls : (f j : ℕ) → f < F → j < 4 → differing (group_at row sent f j) (group_at row received f j) ≤ most

-- by damage
abbrev pub Damage : Row → ℕ → List ℕ → ℕ → List ℕ → List ℕ → Type 0
Damage row = DamageUpTo (allowed row) row

-- how many control digits of tributary j (from 0) differ between two lines of F frames
abbrev pub controls_changed : Row → ℕ → List ℕ → List ℕ → ℕ → ℕ
controls_changed row F sent received j = sum_to F (λ (f : ℕ). differing (group_at row sent f j) (group_at row received f j))

-- the digits of the line that is sent with these notes, the vote before them and these tributaries' digits, F frames
abbrev pub line_digits : Row → ℕ → List ℕ → (ℕ → List ℕ) → ℕ → List ℕ
line_digits row earlier notes tributary F = tab (F * row.digits) 0 (line_digit row earlier notes tributary)

-- "A tributary's own places are its control, justification and tributary digits, stuffed or not."
abbrev pub own_place : Row → ℕ → ℕ → Bool
own_place row j p = eqb (p % 4) j && is_own (kind_at row p)

-- two lines that differ in places of tributary j only, in as many as one likes
abbrev pub SameBut : Row → ℕ → List ℕ → List ℕ → Type 0
SameBut row j ds es = (p : ℕ) → p < length ds → own_place row j p ≡ false → get_or ds p 0 ≡ get_or es p 0
