-- Runs over digits, whatever the state and the step that a digit makes of it: the state after a history of digits, a call that stops after a
-- digit of its own choice, and calls in turn over a stream that is cut into pieces.
use Rattle.std.specs.Prelude.{Bool, cond, true, false, List, [], ◌∷◌, ◌++◌, ℕ, zero, suc, ◌+◌, ◌-◌, ◌*◌, ◌≤◌, length, take, drop}
use Rattle.digits.specs.Digits.{digits_of}

-- ---- digits

-- the state that these digits make of a state
unfoldable pub heard : {S : Type 0} → (S → ℕ → S) → S → List ℕ → S
heard step s [] = s
heard step s (d ∷ ds) = heard step (step s d) ds

-- ---- a run: it stops after the first digit at which `stops` says so of the states before and after it, or at the end

pub record Run (S : Type 0) : Type 0 where
  pub taken : ℕ
  pub stopped : Bool
  pub state : S

-- these digits, where so many were taken before
unfoldable pub run_of : {S : Type 0} → (S → ℕ → S) → (S → S → Bool) → List ℕ → ℕ → S → Run S
run_of step stops [] taken s = record { taken = taken; stopped = false; state = s }
run_of step stops (d ∷ ds) taken s =
    cond (stops s (step s d)) (record { taken = suc taken; stopped = true; state = step s d }) (run_of step stops ds (suc taken) (step s d))

-- whether it stops after digit k of these, the first being digit 0
abbrev pub stops_at : {S : Type 0} → (S → ℕ → S) → (S → S → Bool) → S → List ℕ → ℕ → Bool
stops_at step stops s ds k = stops (heard step s (take k ds)) (heard step s (take (suc k) ds))

-- a call that takes nothing
abbrev pub untouched : {S : Type 0} → S → Run S
untouched s = record { taken = 0; stopped = false; state = s }

-- a run and then the next, as one would go: one that stops ends there
abbrev pub joined : {S : Type 0} → Run S → Run S → Run S
joined one two = cond one.stopped one (record { taken = one.taken + two.taken; stopped = two.stopped; state = two.state })

-- ---- the stops of a stream

-- a stop: after how many digits of the stream, and the state there
pub record Stop (S : Type 0) : Type 0 where
  pub after : ℕ
  pub state : S

-- the stops that these digits make, where so many came before
unfoldable pub stops_of : {S : Type 0} → (S → ℕ → S) → (S → S → Bool) → ℕ → S → List ℕ → List (Stop S)
stops_of step stops before s [] = []
stops_of step stops before s (d ∷ ds) =
    cond (stops s (step s d)) (record { after = before + 1; state = step s d } ∷ []) [] ++ stops_of step stops (before + 1) (step s d) ds

-- ---- calls, one after another

-- the digits of a piece: so many of a slice, from a first one on
abbrev pub piece_of : List ℕ → ℕ → ℕ → List ℕ
piece_of slice first count = take count (drop first (digits_of slice))

-- what a call is lent
pub record Piece : Type 0 where
  pub slice : List ℕ
  pub first : ℕ
  pub count : ℕ

abbrev pub digits_in : Piece → List ℕ
digits_in p = piece_of p.slice p.first p.count

-- a piece that has no more than 65,536 bytes, and all of the digits that are asked for
pub record Lent (p : Piece) : Type 0 where
  pub small : length p.slice ≤ 65536
  pub within : p.first + p.count ≤ 8 * length p.slice

abbrev pub AllLent : List Piece → Type 0
AllLent [] = Unit {0}
AllLent (p ∷ ps) = Lent p × AllLent ps

-- the digits of all pieces: the stream that was cut
unfoldable pub digits_in_all : List Piece → List ℕ
digits_in_all [] = []
digits_in_all (p ∷ ps) = digits_in p ++ digits_in_all ps

-- the rest of a piece of which so many digits were taken
abbrev pub rest_of : Piece → ℕ → Piece
rest_of p taken = record { slice = p.slice; first = p.first + taken; count = p.count - taken }

-- the state that calls leave
unfoldable pub left_by : {S : Type 0} → (S → Piece → Run S) → S → List Piece → S
left_by call s [] = s
left_by call s (p ∷ ps) = left_by call (call s p).state ps

-- the digits that they take
unfoldable pub taken_by : {S : Type 0} → (S → Piece → Run S) → S → List Piece → List ℕ
taken_by call s [] = []
taken_by call s (p ∷ ps) = take (call s p).taken (digits_in p) ++ taken_by call (call s p).state ps

-- the stops that they say, where so many digits came before
unfoldable pub said_by : {S : Type 0} → (S → Piece → Run S) → ℕ → S → List Piece → List (Stop S)
said_by call before s [] = []
said_by call before s (p ∷ ps) =
    cond (call s p).stopped (record { after = before + (call s p).taken; state = (call s p).state } ∷ []) []
    ++ said_by call (before + (call s p).taken) (call s p).state ps

-- a caller who goes on with the rest: the calls for a piece are one, and while a call stops early one more for the rest, n more at most.
-- A call that stops took a digit, so that the piece's number of digits is always enough
unfoldable pub calls_for : {S : Type 0} → (S → Piece → Run S) → ℕ → S → Piece → List Piece
calls_for call zero s p = p ∷ []
calls_for call (suc n) s p = p ∷ cond (call s p).stopped (calls_for call n (call s p).state (rest_of p (call s p).taken)) []

-- the calls for pieces, one piece after another
unfoldable pub calls_for_all : {S : Type 0} → (S → Piece → Run S) → S → List Piece → List Piece
calls_for_all call s [] = []
calls_for_all call s (p ∷ ps) = calls_for call p.count s p ++ calls_for_all call (left_by call s (calls_for call p.count s p)) ps
