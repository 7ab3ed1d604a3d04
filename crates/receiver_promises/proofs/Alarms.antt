-- The alarm over whole stretches: after any history it is the fold over its stretches; and where N digits in a row have everywhere few
-- zeros, or everywhere more, the alarm stands, or is off, after 3 N digits from any state that is not refused.
use Rattle.std.specs.Prelude.{Some}
use mathlib.Core.Path.{◌≡◌, refl, sym, ap, ◌∙◌}
use mathlib.Core.Bool.{Bool, true, false}
use mathlib.Core.List.{List, [], ◌∷◌}
use Prim.Native.Nat.{ℕ, zero, suc, ◌+◌, ◌-◌, ◌*◌, ◌/◌, ◌≤◌, ◌<◌}
use native.Mathlib.Omega.{arith}
use native.Mathlib.Decide.{dec_lt}
use native.Mathlib.Nat.{suc-mul, mod-lt, div-add-mod'}
use borrow.Author.Tests.{eq-eqb, ne_eqb, le-leb}
use lib.ListN.{length, take, drop, replicate, length-drop, length-replicate, take-append-drop}
use lib.Seq.{length-take-le, drop-drop}
use Rattle.digits.specs.Digits.{zeros_in}
use Rattle.digits.proofs.ZeroLaws.{zeros-append, zeros-ones}
use Rattle.table.specs.declared.Row.{Row}
use Rattle.table.specs.Table.{level_of}
use Rattle.levels.specs.Table.{Shared}
use Rattle.levels.proofs.Rows.{shared-row}
use Rattle.receiver.specs.declared.State.{State}
use Rattle.receiver.specs.declared.Fed.{Fed}
use Rattle.pieces.specs.declared.alarm.Stretch.{Stretch}
use Rattle.pieces.specs.Alarm.{is_few, alarm_after, ended, added, counted, fresh_stretch, Counting}
use Rattle.receiver_promises.specs.Stretches.{stretches_of, alarm_over, alarm_of, EverywhereFew}
use Rattle.digits.specs.Runs.{piece_of}
use Rattle.receiver.specs.Feed.{fresh_state, after_of, feed_of}
use Rattle.receiver_promises.specs.History.{heard, since}
use Rattle.digits.specs.Runs.{Piece, AllLent, digits_in_all, left_by, calls_for_all}
use Rattle.receiver_promises.specs.Calls.{call_of}
use Rattle.pieces.proofs.Counts.{counted-append, counted-added}
use Rattle.pieces.proofs.Holding.{word-within}
use Rattle.receiver_promises.proofs.Pieces.{heard-stretch, accepted-answer, ran}
use Rattle.receiver_promises.proofs.Calls.{fresh-stream}

pub some-digits : (row : Row) → Shared row → 0 < row.digits
some-digits row sh = omega (arith, sh.word_some, word-within row sh)

-- a stretch that begins
abbrev begins : Bool → Bool → Stretch
begins few alarm = record { digits = 0; zeros = 0; few = few; alarm = alarm }

module _ (row : Row) where
  -- fewer digits than the stretch has room for change no more than the count
  pub counted-rest : (ds : List ℕ) (st : Stretch) → st.digits + length ds < row.digits → ((counted row st ds).few ≡ st.few) × ((counted row st ds).alarm ≡ st.alarm)
  unfolding counted added
  counted-rest [] st room = (refl, refl)
  counted-rest (d ∷ ds) st room =
      rw (counted-added row (d ∷ ds) st (omega arith) (omega arith), ne_eqb (st.digits + length (d ∷ ds)) row.digits (λ q. omega arith)) (refl, refl)

  -- as many digits as it has room for end it
  pub counted-whole : (ds : List ℕ) (st : Stretch) → 0 < length ds → st.digits + length ds ≡ row.digits → counted row st ds ≡ ended row st (st.zeros + zeros_in ds)
  unfolding added
  counted-whole ds st some e = counted-added row ds st some (omega arith) ∙ rw (eq-eqb (st.digits + length ds) row.digits e)

  -- the next N digits are a stretch
  counted_next : 0 < row.digits → (few alarm : Bool) (ds : List ℕ) → row.digits ≤ length ds
      → counted row (begins few alarm) ds
      ≡ counted row (begins (is_few row (zeros_in (take row.digits ds))) (alarm_after (is_few row (zeros_in (take row.digits ds))) few alarm)) (drop row.digits ds)
  counted_next some few alarm ds room =
      let n = row.digits in
      let size : length (take n ds) ≡ n = length-take-le n ds room in
      let z : 0 + zeros_in (take n ds) ≡ zeros_in (take n ds) = omega arith in
      ap (counted row (begins few alarm)) (sym (take-append-drop n ds)) ∙ counted-append row (begins few alarm) (take n ds) (drop n ds)
      ∙ ap (λ (st : Stretch). counted row st (drop n ds)) (counted-whole (take n ds) (begins few alarm) (omega arith) (omega arith) ∙ rw z)

-- inside a stretch a digit does no more than count, and so do many
pub inside-stretch : (row : Row) (s : State) (d : ℕ) → s.stretch.digits + 1 < row.digits
    → ((after_of row s d).stretch.digits ≡ s.stretch.digits + 1) × ((after_of row s d).stretch.alarm ≡ s.stretch.alarm)
unfolding after_of added
inside-stretch row s d room = rw (ne_eqb (s.stretch.digits + 1) row.digits (λ q. omega arith)) (refl, refl)

pub inside-all : (row : Row) (ds : List ℕ) (s : State) → s.stretch.digits + length ds < row.digits → (heard row s ds).stretch.alarm ≡ s.stretch.alarm
inside-all row ds s room = ap (λ (st : Stretch). st.alarm) (heard-stretch row ds s) ∙ (counted-rest row ds s.stretch room).1

-- ---- the fold over stretches

module _ (row : Row) (some : 0 < row.digits) where
  alarm-over : (n : ℕ) (few alarm : Bool) (ds : List ℕ) → n * row.digits ≤ length ds → length ds < n * row.digits + row.digits
      → (counted row (begins few alarm) ds).alarm ≡ alarm_over row few alarm (stretches_of row n ds)
  unfolding stretches_of alarm_over
  alarm-over zero few alarm ds lo hi = (counted-rest row ds (begins few alarm) (omega arith)).1
  alarm-over (suc n) few alarm ds lo hi =
      let m = suc-mul n row.digits in
      let rest = length-drop row.digits ds in
      ap (λ (st : Stretch). st.alarm) (counted_next row some few alarm ds (omega (arith, m)))
      ∙ alarm-over n (is_few row (zeros_in (take row.digits ds))) (alarm_after (is_few row (zeros_in (take row.digits ds))) few alarm) (drop row.digits ds)
      (omega (arith, m, rest)) (omega (arith, m, rest))

  pub counted-alarm : (ds : List ℕ) → (counted row fresh_stretch ds).alarm ≡ alarm_of row ds
  counted-alarm ds =
      let parts = div-add-mod' (length ds) row.digits in
      let lt = mod-lt (length ds) some in
      alarm-over (length ds / row.digits) false false ds (omega (arith, parts)) (omega (arith, parts, lt))

-- the alarm after any history
pub since-alarm : (level : ℕ) (row : Row) → level_of level ≡ Some row → (ds : List ℕ) → (since row level ds).stretch.alarm ≡ alarm_of row ds
since-alarm level row known ds =
    ap (λ (st : Stretch). st.alarm) (heard-stretch row ds (fresh_state level)) ∙ counted-alarm row (some-digits row (shared-row level row known)) ds

-- whatever pieces it came in
pub calls-alarm : (level : ℕ) (row : Row) → level_of level ≡ Some row → (ps : List Piece) → AllLent ps
    → (left_by call_of (fresh_state level) (calls_for_all call_of (fresh_state level) ps)).stretch.alarm ≡ alarm_of row (digits_in_all ps)
calls-alarm level row known ps lent =
    ap (λ (s : State). s.stretch.alarm) (fresh-stream level row known ps lent).0 ∙ since-alarm level row known (digits_in_all ps)

-- what an accepted call reports is the alarm after the digits that it took
pub reported : (s : State) (row : Row) → level_of s.level ≡ Some row → (slice : List ℕ) (first count : ℕ) → (feed_of s slice first count).refusal ≡ 0
    → (feed_of s slice first count).alarm ≡ (counted row s.stretch (take (feed_of s slice first count).taken (piece_of slice first count))).alarm
reported s row known slice first count e =
    let is = accepted-answer s row known slice first count e in
    let r = ran row (piece_of slice first count) s in
    let taken : (feed_of s slice first count).taken ≡ r.taken = ap (λ (f : Fed). f.taken) is ∙ omega (arith, r.counted) in
    ap (λ (f : Fed). f.alarm) is ∙ ap (λ (s' : State). s'.stretch.alarm) r.state
    ∙ ap (λ (st : Stretch). st.alarm) (heard-stretch row (take r.taken (piece_of slice first count)) s) ∙ rw taken

-- ---- everywhere few, or everywhere more

after_both : (few alarm : Bool) → alarm_after few few alarm ≡ few
after_both true alarm = refl
after_both false alarm = refl

module _ (row : Row) (some : 0 < row.digits) (few : Bool) where
  everywhere-on : (ds : List ℕ) → EverywhereFew row few ds → (m : ℕ) → m ≤ length ds → EverywhereFew row few (drop m ds)
  everywhere-on ds all m h i room = rw (drop-drop i m ds) (all (m + i) (omega (arith, length-drop m ds)))

  -- a stretch of such digits
  one_more : (before alarm : Bool) (ds : List ℕ) → EverywhereFew row few ds → row.digits ≤ length ds
      → counted row (begins before alarm) ds ≡ counted row (begins few (alarm_after few before alarm)) (drop row.digits ds)
  one_more before alarm ds all room =
      let e : is_few row (zeros_in (take row.digits ds)) ≡ few = all 0 (omega arith) in
      rw e at (counted_next row some before alarm ds room)

  -- the alarm once it is so stays so
  pub stays : (n : ℕ) (ds : List ℕ) → length ds ≤ n → EverywhereFew row few ds → (counted row (begins few few) ds).alarm ≡ few
  stays zero ds short all = (counted-rest row ds (begins few few) (omega arith)).1
  stays (suc n) ds short all =
      elim (dec_lt (length ds) row.digits) [
        | yes h ↦ (counted-rest row ds (begins few few) (omega arith)).1
        | no h ↦
            ap (λ (st : Stretch). st.alarm) (rw (after_both few few) at (one_more few few ds all (omega arith)))
            ∙ stays n (drop row.digits ds) (omega (arith, length-drop row.digits ds)) (everywhere-on ds all row.digits (omega arith))
      ]

  -- two whole stretches and it is so
  two-more : (before alarm : Bool) (ds : List ℕ) → EverywhereFew row few ds → row.digits + row.digits ≤ length ds → (counted row (begins before alarm) ds).alarm ≡ few
  two-more before alarm ds all room =
      let n = row.digits in
      let ds' = drop n ds in
      let all' = everywhere-on ds all n (omega arith) in
      let more = one_more few (alarm_after few before alarm) ds' all' (omega (arith, length-drop n ds)) in
      ap (λ (st : Stretch). st.alarm) (one_more before alarm ds all (omega arith) ∙ rw (after_both few (alarm_after few before alarm)) at more)
      ∙ stays (length (drop n ds')) (drop n ds') (omega arith) (everywhere-on ds' all' n (omega (arith, length-drop n ds)))

  -- from any stretch: its own digits, and two whole stretches
  pub settles : (st : Stretch) → Counting row st → (ds : List ℕ) → EverywhereFew row few ds → 3 * row.digits ≤ length ds → (counted row st ds).alarm ≡ few
  settles st c ds all room =
      let m = row.digits - st.digits in
      let size : length (take m ds) ≡ m = length-take-le m ds (omega arith) in
      let first = counted-whole row (take m ds) st (omega (arith, c.within)) (omega (arith, c.within)) in
      ap (λ (s : Stretch). s.alarm)
      (ap (counted row st) (sym (take-append-drop m ds)) ∙ counted-append row st (take m ds) (drop m ds) ∙ ap (λ (s : Stretch). counted row s (drop m ds)) first)
      ∙ two-more (is_few row (st.zeros + zeros_in (take m ds))) (alarm_after (is_few row (st.zeros + zeros_in (take m ds))) st.few st.alarm) (drop m ds)
      (everywhere-on ds all m (omega arith)) (omega (arith, length-drop m ds))

-- of the receiver, whatever its mode
pub heard-settles : (level : ℕ) (row : Row) → level_of level ≡ Some row → (s : State) → Counting row s.stretch → (few : Bool) (ds : List ℕ)
    → EverywhereFew row few ds → 3 * row.digits ≤ length ds → (heard row s ds).stretch.alarm ≡ few
heard-settles level row known s c few ds all room =
    ap (λ (st : Stretch). st.alarm) (heard-stretch row ds s)
    ∙ settles row (some-digits row (shared-row level row known)) few s.stretch c ds all room

-- ---- a signal of ones

zeros-part : (ds : List ℕ) (i n : ℕ) → zeros_in (take n (drop i ds)) ≤ zeros_in ds
zeros-part ds i n =
    let one = rw (take-append-drop i ds) at (zeros-append (take i ds) (drop i ds)) in
    let two = rw (take-append-drop n (drop i ds)) at (zeros-append (take n (drop i ds)) (drop n (drop i ds))) in
    omega (arith, one, two)

-- it raises the alarm after at most 3 N digits
pub ones-raise : (level : ℕ) (row : Row) → level_of level ≡ Some row → (s : State) → Counting row s.stretch → (k : ℕ) → 3 * row.digits ≤ k
    → (heard row s (replicate k 1)).stretch.alarm ≡ true
ones-raise level row known s c k enough =
    heard-settles level row known s c true (replicate k 1)
    (λ i room. le-leb (zeros_in (take row.digits (drop i (replicate k 1)))) row.limit (omega (arith, zeros-part (replicate k 1) i row.digits, zeros-ones k)))
    (omega (arith, length-replicate {A = ℕ} k 1))
