-- The first numbers of a state after frames were fed, by an array of votes that has the line's from place 1 on.
use Rattle.std.specs.Prelude.{cond, List, [], ◌∷◌, ℕ, ◌+◌, ◌%◌, eqb, get_or, drop}
use Rattle.verdict_states.specs.States.{changes_in}

-- whether a frame came, and the last two votes
abbrev pub votes_after : ℕ → ℕ → ℕ → ℕ → ℕ → List ℕ → ℕ → List ℕ
votes_after came older last older_all last_all votes F =
    cond (eqb F 0) came 1
    ∷ get_or (older ∷ last ∷ drop 1 votes) F 0 % 16
    ∷ get_or (older ∷ last ∷ drop 1 votes) (F + 1) 0 % 16
    ∷ get_or (older_all ∷ last_all ∷ drop 1 votes) F 0 % 16
    ∷ get_or (older_all ∷ last_all ∷ drop 1 votes) (F + 1) 0 % 16
    ∷ []

-- the changes, with the vote before the line's at place 0
abbrev pub changes_after : List ℕ → ℕ → List ℕ → ℕ → List ℕ
changes_after state came votes F =
    (get_or state 7 0 + changes_in came votes 0 F)
    ∷ (get_or state 8 0 + changes_in came votes 1 F)
    ∷ (get_or state 9 0 + changes_in came votes 2 F)
    ∷ (get_or state 10 0 + changes_in came votes 3 F)
    ∷ []
