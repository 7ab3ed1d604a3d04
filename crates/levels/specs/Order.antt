-- The order of a tributary's digits: which places carry them, and which digit a place carries. Document 01: "All 1: the
-- justification digit is stuffing. All 0: it carries the tributary's next digit." Document 02, request 10: "A frame acts on its own vote and
-- the preceding frame's".
-- Column x of tributary j is place 4 * x + j of a line. What the frames do for a tributary is a function of the frame.
use Rattle.std.specs.Prelude.{Bool, cond, true, false, not, List, [], ◌∷◌, ◌++◌, ℕ, zero, suc, ◌+◌, ◌*◌, ◌-◌, ◌/◌, ◌%◌, ◌^◌, eqb, ltb, get_or}
use Rattle.digits.specs.Sums.{sum_to}
use Rattle.table.specs.declared.Row.{Row}
use Rattle.levels.specs.declared.order.Action.{Action}
use Rattle.levels.specs.declared.order.Action.TheVariants.{Stuffed, PositiveCarries, BothCarry}
use Rattle.levels.specs.declared.places.Sign.TheVariants.{Negative, Positive}
use Rattle.levels.specs.declared.places.Kind.{Kind}
use Rattle.levels.specs.declared.places.Kind.TheVariants.{Word, Service, Control, Justification, Tributary}
use Rattle.levels.specs.Places.{kind_at, pos_of}

-- bit j of a note: tributary j's vote, true is "stuffed"
abbrev pub stuffed : ℕ → ℕ → Bool
stuffed note j = eqb (note / 2 ^ j % 2) 1

-- tributary j's votes, by the notes
abbrev pub decisions : List ℕ → ℕ → ℕ → Bool
decisions notes j f = stuffed (get_or notes f 0) j

-- a level has negative places where it has room for a digit more than n
abbrev pub has_negative : Row → Bool
has_negative row = ltb row.n row.room

-- what a frame does by its own vote alone: "All 1: the justification digit is stuffing. All 0: it carries the tributary's next digit"
abbrev pub by_own : Bool → Action
by_own true = Stuffed
by_own false = PositiveCarries

-- by the preceding frame's vote and its own: "both 1, the positive place is stuffed; both 0, the negative place carries a digit too; otherwise
-- only the positive carries"
abbrev pub by_both : Bool → Bool → Action
by_both true true = Stuffed
by_both false false = BothCarry
by_both true false = PositiveCarries
by_both false true = PositiveCarries

unfoldable pub action_of : Row → Bool → Bool → Action
action_of row preceding own = cond (has_negative row) (by_both preceding own) (by_own own)

-- what a frame with this note, after one with the preceding note, does for tributary j
abbrev pub acts_by : Row → ℕ → ℕ → ℕ → Action
acts_by row preceding note j = action_of row (stuffed preceding j) (stuffed note j)

-- what frame f does for tributary j, by the notes and the vote before them: the preceding vote is that of the same notes one further on
abbrev pub actions : Row → ℕ → List ℕ → ℕ → ℕ → Action
actions row earlier notes j f = action_of row (decisions (earlier ∷ notes) j f) (decisions notes j f)

abbrev pub is_stuffed : Action → Bool
is_stuffed Stuffed = true
is_stuffed PositiveCarries = false
is_stuffed BothCarry = false

abbrev pub both_carry : Action → Bool
both_carry Stuffed = false
both_carry PositiveCarries = false
both_carry BothCarry = true

-- a place of this kind carries a digit of its tributary, in a frame that acts so
abbrev pub carried : Kind → Action → Bool
carried Word act = false
carried (Service s) act = false
carried Control act = false
carried (Justification Negative) act = both_carry act
carried (Justification Positive) act = not (is_stuffed act)
carried Tributary act = true

unfoldable pub carries : Row → (ℕ → Action) → ℕ → Bool
carries row acts p = carried (kind_at row p) (acts (pos_of row p).frame)

-- which digit a place carries: how many digits of tributary j the first x columns carry
unfoldable pub before : Row → (ℕ → Action) → ℕ → ℕ → ℕ
before row acts j zero = 0
before row acts j (suc x) = before row acts j x + cond (carries row acts (4 * x + j)) 1 0

-- at which place a digit stands: the places of the first x columns that carry a digit of tributary j, in order
unfoldable pub places_of : Row → (ℕ → Action) → ℕ → ℕ → List ℕ
places_of row acts j zero = []
places_of row acts j (suc x) = places_of row acts j x ++ cond (carries row acts (4 * x + j)) ((4 * x + j) ∷ []) []

-- in how many of the first F frames the positive place is stuffed, and in how many the negative place carries
abbrev pub stuffed_to : (ℕ → Action) → ℕ → ℕ
stuffed_to acts F = sum_to F (λ (f : ℕ). cond (is_stuffed (acts f)) 1 0)

abbrev pub negative_to : Row → (ℕ → Action) → ℕ → ℕ
negative_to row acts F = sum_to F (λ (f : ℕ). cond (both_carry (acts f)) (row.room - row.n) 0)

-- "With F frames, of which s are stuffed for a tributary, that tributary has F·n − s digits"; "less the stuffed, plus the negative"
unfoldable pub count_of : Row → (ℕ → Action) → ℕ → ℕ
count_of row acts F = F * row.n + negative_to row acts F - stuffed_to acts F

-- the counts of the four tributaries, by the notes and the vote before them
abbrev pub counts_of : Row → ℕ → List ℕ → ℕ → List ℕ
counts_of row earlier notes F =
    count_of row (actions row earlier notes 0) F
    ∷ count_of row (actions row earlier notes 1) F
    ∷ count_of row (actions row earlier notes 2) F
    ∷ count_of row (actions row earlier notes 3) F
    ∷ []
