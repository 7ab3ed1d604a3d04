-- "Feeding or resetting line k changes no other record, and in any order of calls each line answers as if alone."
use Rattle.std.specs.Prelude.{Option, Some, None}
use mathlib.Core.Path.{◌≡◌, refl, sym, ap, ◌∙◌}
use mathlib.Core.Bool.{Bool, cond, true, false}
use mathlib.Core.List.{List, [], ◌∷◌}
use Prim.Native.Nat.{ℕ, ◌+◌, ◌-◌, ◌<◌, ◌≤◌}
use native.Mathlib.Omega.{arith}
use lib.Dec.{eqb, leb, ltb}
use lib.ListN.{length, get_or, set, length-set}
use lib.Seq.{get_or-set_same, get_or-set_other}
use borrow.Author.Tests.{ne_eqb, lt-leb, le-leb, le-ltb, eqb-true, eqb-false}
use Rattle.digits.proofs.Tests.{cond-told}
use Rattle.table.specs.declared.Row.{Row}
use Rattle.table.specs.Table.{level_of}
use Rattle.levels.proofs.Rows.{shared-row}
use Rattle.modes.specs.declared.Mode.{Mode}
use Rattle.modes.specs.declared.Mode.TheVariants.{Hunting, OneFound, TwoFound, Aligned}
use Rattle.receiver.specs.declared.State.{State}
use Rattle.receiver.specs.declared.Fed.{Fed}
use Rattle.modes.specs.Modes.{missed}
use Rattle.digits.specs.Runs.{piece_of}
use Rattle.receiver.specs.Feed.{fresh_state, fresh_of, fresh_at, feed_of, feed_row, refused, refusal_of, core_of}
use Rattle.receiver_promises.proofs.Pieces.{feed-valid, fresh-state, run-answer}
use Rattle.records.specs.declared.record.Record.{Record}
use Rattle.records.specs.declared.record.Kept.{Kept}
use Rattle.digits.specs.Digits.{is_yes}
use Rattle.receiver.specs.Numbers.{mode_number, mode_of, fed_by}
use Rattle.rack.specs.Rack.{kept_reset}
use Rattle.records.specs.Record.{record_of, fed_record}
use Rattle.rack.specs.Rack.{at, list_by, fed_alone, FeedMet, ResetMet}
use Rattle.records.specs.Rule.{list_refusal}
use Rattle.rack.proofs.Lists.{blank}
use Rattle.rack_promises.specs.Alone.{Call, Feed, Reset, told_alone, left_alone, alone, alone_left, told_one, left_one, of_one, one_left}
use Rattle.rack_promises.specs.Alone.{told_by, left_by, rack_told, rack_left, own, Sound}

-- ---- the calls of which the lists are made are the calls of the rack: their statements say these answers and these lists

pub feed-tells : (records : List Record) (line : ℕ) (piece : List ℕ) (first count r : ℕ) (left : List Record) (answer : List ℕ)
    → FeedMet records line piece first count r left answer
    → (record { refusal = r; answer = answer } ≡ told_by (Feed piece first count) line records) × (left ≡ left_by (Feed piece first count) line records)
feed-tells records line piece first count r left answer met = rw (met.0, met.1, met.2) (refl, refl)

pub reset-tells : (records : List Record) (line level r : ℕ) (left : List Record) → ResetMet records line level r left
    → (record { refusal = r; answer = [] } ≡ told_by (Reset level) line records) × (left ≡ left_by (Reset level) line records)
reset-tells records line level r left met = rw (met.0, met.1) (refl, refl)

-- ---- one call

-- either way the list is as long as before
list_length : (records : List Record) (line : ℕ) (k : Kept) → length (list_by records line k) ≡ length records
list_length records line k =
    cond-told (λ (l : List Record). length l ≡ length records) (eqb (list_refusal (length records) line) 0) (λ _. length-set records line k.kept) (λ _. refl)

list-other : (records : List Record) (line j : ℕ) (k : Kept) → (j ≡ line → ⊥) → at (list_by records line k) j ≡ at records j
list-other records line j k ne =
    cond-told (λ (l : List Record). at l j ≡ at records j) (eqb (list_refusal (length records) line) 0) (λ _. get_or-set_other records line j k.kept blank ne) (λ _. refl)

pub left-length : (c : Call) (line : ℕ) (records : List Record) → length (left_by c line records) ≡ length records
left-length (Feed piece first count) line records = list_length records line (fed_alone records line piece first count)
left-length (Reset level) line records = list_length records line (kept_reset level (at records line))

-- "Feeding or resetting line k changes no other record"
pub no_other : (c : Call) (line j : ℕ) (records : List Record) → (j ≡ line → ⊥) → at (left_by c line records) j ≡ at records j
no_other (Feed piece first count) line j records ne = list-other records line j (fed_alone records line piece first count) ne
no_other (Reset level) line j records ne = list-other records line j (kept_reset level (at records line)) ne

-- a list of up to 64 does not refuse its own lines
pub listed : (number line : ℕ) → line < number → number ≤ 64 → list_refusal number line ≡ 0
unfolding list_refusal
listed number line in_List few = rw (lt-leb number line in_List, le-ltb 64 number few)

-- a call on line k of it is the call on record k
module _ (records : List Record) (k : ℕ) (in_List : k < length records) (few : length records ≤ 64) where
  own-told : (c : Call) → told_by c k records ≡ told_one c (at records k)
  own-told (Feed piece first count) = rw (listed (length records) k in_List few)
  own-told (Reset level) = rw (listed (length records) k in_List few)

  own-left : (c : Call) → at (left_by c k records) k ≡ left_one c (at records k)
  own-left (Feed piece first count) = rw (listed (length records) k in_List few) (get_or-set_same records k _ blank in_List)
  own-left (Reset level) = rw (listed (length records) k in_List few) (get_or-set_same records k _ blank in_List)

-- ---- any list of calls

-- a test, either way
either : {A : Type 0} (t : Bool) → (t ≡ true → A) → (t ≡ false → A) → A
either true yes-then no-then = yes-then refl
either false yes-then no-then = no-then refl

-- whatever the records say, on any lines in any order: what line k is told is what its record alone is told of its own calls
pub as_one : (calls : List (ℕ × Call)) (records : List Record) (k : ℕ) → k < length records → length records ≤ 64
    → (own k (rack_told calls records) ≡ of_one (own k calls) (at records k)) × (at (rack_left calls records) k ≡ one_left (own k calls) (at records k))
unfolding own rack_told rack_left of_one one_left
as_one [] records k in_List few = (refl, refl)
as_one (c ∷ cs) records k in_List few =
    let same : length (left_by c.1 c.0 records) ≡ length records = left-length c.1 c.0 records in
    let rest = as_one cs (left_by c.1 c.0 records) k (omega (arith, same)) (omega (arith, same)) in
    either (eqb c.0 k)
    (λ e.
    let q : c.0 ≡ k = eqb-true c.0 k e in
    let told : told_by c.1 c.0 records ≡ told_one c.1 (at records k) = ap (λ (i : ℕ). told_by c.1 i records) q ∙ own-told records k in_List few c.1 in
    let left : at (left_by c.1 c.0 records) k ≡ left_one c.1 (at records k)
    = ap (λ (i : ℕ). at (left_by c.1 i records) k) q ∙ own-left records k in_List few c.1 in
    rw (e, told, rest.0, rest.1, left) (refl, refl))
    (λ e.
    let stays : at (left_by c.1 c.0 records) k ≡ at records k = no_other c.1 c.0 k records (λ q. eqb-false c.0 k e (sym q)) in
    rw (e, rest.0, rest.1, stays) (refl, refl))

-- ---- and of a sound state's record, what the receiver itself answers

mode-back : (m : Mode) → missed m ≤ 3 → mode_of (mode_number m) ≡ m
unfolding mode_of
mode-back Hunting few = refl
mode-back OneFound few = refl
mode-back TwoFound few = refl
mode-back (Aligned m) few =
    let back : (3 + m) - 3 ≡ m = omega arith in
    rw (ne_eqb (3 + m) 0 (λ e. omega arith), ne_eqb (3 + m) 1 (λ e. omega arith), ne_eqb (3 + m) 2 (λ e. omega arith), le-leb (3 + m) 6 (omega (arith, few))) (ap Aligned back)

yes-back : (t : Bool) → is_yes (cond t 1 0) ≡ t
yes-back true = refl
yes-back false = refl

no_more : (t : Bool) → ltb 1 (cond t 1 0) ≡ false
no_more true = refl
no_more false = refl

-- the record of a state keeps that state, and is fed as it is
pub fed-as : (s : State) → missed s.mode ≤ 3 → (piece : List ℕ) (first count : ℕ) → fed_record (record_of s) piece first count ≡ feed_of s piece first count
unfolding fed_by
fed-as s few piece first count =
    rw (no_more s.stretch.few, no_more s.stretch.alarm, mode-back s.mode few, yes-back s.stretch.few, yes-back s.stretch.alarm)

-- refused, a state comes back equal
refused-equal : (s : State) (row : Row) → level_of s.level ≡ Some row → (piece : List ℕ) (first count : ℕ)
    → cond (eqb (feed_of s piece first count).refusal 0) (record_of (feed_of s piece first count).state) (record_of s) ≡ record_of (feed_of s piece first count).state
unfolding feed_row
refused-equal s row known piece first count =
    rw known
    (cond-told (λ (f : Fed). cond (eqb f.refusal 0) (record_of f.state) (record_of s) ≡ record_of f.state)
    (eqb (refusal_of row (core_of s) s.stretch (length piece) first count) 0)
    (λ _. rw (run-answer row (piece_of piece first count) s)) (λ e. rw e))

module _ (s : State) (sound : Sound s) where
  few : missed s.mode ≤ 3
  few = sound.valid.0.missed

  one_told : (c : Call) → told_one c (record_of s) ≡ told_alone c s
  one_told (Feed piece first count) = rw (fed-as s few piece first count)
  one_told (Reset level) = refl

  one_left_lem : (c : Call) → left_one c (record_of s) ≡ record_of (left_alone c s)
  one_left_lem (Feed piece first count) = rw (fed-as s few piece first count) (refused-equal s sound.row sound.known piece first count)
  one_left_lem (Reset level) = either (eqb (fresh_of level).refusal 0) (λ e. rw e) (λ e. rw e)

  stays-sound : (c : Call) → Sound (left_alone c s)
  stays-sound (Feed piece first count) =
      let v = feed-valid s sound.row sound.known sound.valid piece first count in
      record { row = sound.row; known = ap level_of v.1 ∙ sound.known; valid = v.0 }
  stays-sound (Reset level) = fresh-sound (level_of level) refl
    where
      fresh-sound : (l : Option Row) → level_of level ≡ l → Sound (cond (eqb (fresh_at l level).refusal 0) (fresh_at l level).state s)
      fresh-sound (Some row) known = record { row = row; known = known; valid = fresh-state row (shared-row level row known) level }
      fresh-sound None known = sound

one-alone : (calls : List Call) (s : State) → Sound s → (of_one calls (record_of s) ≡ alone calls s) × (one_left calls (record_of s) ≡ record_of (alone_left calls s))
unfolding of_one one_left alone alone_left
one-alone [] s sound = (refl, refl)
one-alone (c ∷ cs) s sound =
    let rest = one-alone cs (left_alone c s) (stays-sound s sound c) in
    rw (one_told s sound c, one_left_lem s sound c, rest.0, rest.1) (refl, refl)

-- "in any order of calls each line answers as if alone": calls in any order over any lines, some of them refused; line k keeps the state s at first. What
-- line k is told is what a receiver with that state is told of its own calls in order, and the record that is left is the record of the state that they leave
pub as-alone : (calls : List (ℕ × Call)) (records : List Record) (k : ℕ) → k < length records → length records ≤ 64
    → (s : State) → at records k ≡ record_of s → Sound s
    → (own k (rack_told calls records) ≡ alone (own k calls) s) × (at (rack_left calls records) k ≡ record_of (alone_left (own k calls) s))
as-alone calls records k in_List few s keeps sound =
    let one = as_one calls records k in_List few in
    let all = one-alone (own k calls) s sound in
    (one.0 ∙ ap (of_one (own k calls)) keeps ∙ all.0, one.1 ∙ ap (one_left (own k calls)) keeps ∙ all.1)

-- a reset that is not refused gives a record to begin with
pub reset-sound : (level : ℕ) (row : Row) → level_of level ≡ Some row → (r : Record) → (left_one (Reset level) r ≡ record_of (fresh_state level)) × Sound (fresh_state level)
reset-sound level row known r = (rw known, record { row = row; known = known; valid = fresh-state row (shared-row level row known) level })
