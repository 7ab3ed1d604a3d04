-- What the calls on a rack decide without looking at a record. Document 02, request 11.
use Rattle.std.specs.Prelude.{cond, List, [], ◌∷◌, ℕ, eqb, leb, ltb}
use Rattle.receiver.specs.Feed.{fresh_of}
use Rattle.records.specs.declared.record.Kept.{Kept}
use Rattle.records.specs.Record.{record_of}

-- "A number beyond the list is refused with 8 first; a list of more than 64 with 2 next"
unfoldable pub list_refusal : ℕ → ℕ → ℕ
list_refusal number line = cond (leb number line) 8 (cond (ltb 64 number) 2 0)

-- refused by the list: nothing taken, no frame ready, no alarm, no words tested
abbrev pub none_taken : List ℕ
none_taken = 0 ∷ 0 ∷ 0 ∷ 0 ∷ []

-- what a reset decides without the list's records
abbrev pub made_of : ℕ → ℕ → ℕ → Kept
made_of number line level =
    record {
      refusal = cond (eqb (list_refusal number line) 0) (fresh_of level).refusal (list_refusal number line);
      kept = record_of (fresh_of level).state;
    }

-- counting: "the count only with 2, giving 0"
unfoldable pub count_refusal : ℕ → ℕ
count_refusal number = cond (ltb 64 number) 2 0

-- so many records are looked at
unfoldable pub counted_to : ℕ → ℕ
counted_to number = cond (ltb 64 number) 0 number
