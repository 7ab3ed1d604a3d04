-- The repaired line, place by place, over the row: no vote changes and every group is unanimous, so no note changes; every digit that a place carries stays,
-- and every word is the level's. And what an accepted repair is over its level's row.
use mathlib.Core.Path.{◌≡◌, refl, sym, ◌∙◌, ap}
use mathlib.Core.Bool.{Bool, cond, true, false, false≢true}
use mathlib.Core.List.{List, ◌∷◌, map}
use Prim.Native.Nat.{ℕ, zero, suc, ◌+◌, ◌*◌, ◌-◌, ◌%◌, ◌^◌, ◌≤◌, ◌<◌}
use native.Mathlib.Omega.{arith}
use native.Mathlib.Nat.{zero-add}
use lib.Dec.{eqb, ltb, lit<, lit≤}
use lib.ListN.{length, get_or, replicate}
use native.Mathlib.Decide.{dec_lt}
use borrow.Author.Tests.{eq-eqb, lt-ltb, le-ltb}
use Rattle.digits.specs.Digits.{digits_of, tab, Binary, Bytes}
use Rattle.digits.proofs.Laws.{by-digit, digits-binary, digits-of-bytes, bytes-length, bytes-are-bytes, tab-length, tab-at, tab-of, tab-binary}
use Rattle.digits.proofs.Lists.{of_four, differing-self}
use Rattle.digits.proofs.Sums.{sum-all}
use Rattle.table.specs.declared.Row.{Row}
use Rattle.levels.specs.declared.vote.Vote.{Vote}
use Rattle.levels.specs.declared.order.Action.{Action}
use Rattle.levels.specs.declared.places.ServiceDigit.{ServiceDigit}
use Rattle.levels.specs.declared.places.ServiceDigit.TheVariants.{RemoteAlarm, FirstNational, SecondNational, ThirdNational, Fixed}
use Rattle.levels.specs.declared.places.Kind.{Kind}
use Rattle.levels.specs.declared.places.Kind.TheVariants.{Word, Service, Control, Justification, Tributary}
use Rattle.levels.specs.Table.{Shared}
use Rattle.levels.specs.Sizes.{frames_of}
use Rattle.levels.specs.Places.{noted_digit, noted_of, kind_of, kind_at, pos_of}
use Rattle.levels.specs.Order.{actions, carried}
use Rattle.levels.specs.Vote.{votes_for, group_of}
use Rattle.levels.specs.Word.{word_digit, wrong_digits}
use Rattle.levels.proofs.Choice.{cond-by}
use Rattle.levels.proofs.Positions.{pos-of-sum}
use Rattle.levels.proofs.Ways.{kind-word, kind-noted, kind-control}
use Rattle.levels.proofs.Groups.{group-all, group-binary, differing-votes}
use Rattle.levels.proofs.Majority.{group-length, vote-stands}
use Rattle.reading.specs.Notes.{vote_at, service_at, note_of, notes_of}
use Rattle.promises.proofs.Sent.{control-place, in_line, whose}
use Rattle.promises.proofs.Reading.{decisions-read}
use Rattle.promises.proofs.Order.{actions-same}
use Rattle.repair.specs.Repair.{repaired_service, repaired_by, repaired_digit, becomes, repaired_line}
use Rattle.repair.specs.Mending.{Whole}
use Rattle.repair.proofs.Frames.{frames-digits}
use Rattle.repair_promises.specs.Repairing.{national_ones, notes_again}

-- ---- a place by its kind

-- what a place becomes is a digit
service-small : (national : Bool) (came : ℕ) (s : ServiceDigit) → came < 2 → repaired_service national came s < 2
service-small national came RemoteAlarm h = h
service-small national came FirstNational h = cond-by (λ (d : ℕ). d < 2) national (lit< tt) h
service-small national came SecondNational h = cond-by (λ (d : ℕ). d < 2) national (lit< tt) h
service-small national came ThirdNational h = cond-by (λ (d : ℕ). d < 2) national (lit< tt) h
service-small national came Fixed h = h

repaired-small : (row : Row) (national stuffed : Bool) (act : Action) (r came : ℕ) (kind : Kind) → came < 2 → repaired_by row national stuffed act r came kind < 2
repaired-small row national stuffed act r came Word h = omega arith
repaired-small row national stuffed act r came (Service s) h = service-small national came s h
repaired-small row national stuffed act r came Control h = cond-by (λ (d : ℕ). d < 2) stuffed (lit< tt) (lit< tt)
repaired-small row national stuffed act r came (Justification sign) h = cond-by (λ (d : ℕ). d < 2) (carried (Justification sign) act) h (lit< tt)
repaired-small row national stuffed act r came Tributary h = h

-- a digit that is carried stays
pub carried-stays : (row : Row) (national stuffed : Bool) (act : Action) (r came : ℕ) (kind : Kind) → carried kind act ≡ true
    → repaired_by row national stuffed act r came kind ≡ came
carried-stays row national stuffed act r came Word c = absurd (false≢true c)
carried-stays row national stuffed act r came (Service s) c = absurd (false≢true c)
carried-stays row national stuffed act r came Control c = absurd (false≢true c)
carried-stays row national stuffed act r came (Justification sign) c = rw c
carried-stays row national stuffed act r came Tributary c = refl

-- repaired once more by the same votes and switch it stays
service-twice : (national : Bool) (came : ℕ) (s : ServiceDigit) → repaired_service national (repaired_service national came s) s ≡ repaired_service national came s
service-twice national came RemoteAlarm = refl
service-twice true came FirstNational = refl
service-twice false came FirstNational = refl
service-twice true came SecondNational = refl
service-twice false came SecondNational = refl
service-twice true came ThirdNational = refl
service-twice false came ThirdNational = refl
service-twice national came Fixed = refl

pub repaired-twice : (row : Row) (national stuffed : Bool) (act : Action) (r came : ℕ) (kind : Kind)
    → repaired_by row national stuffed act r (repaired_by row national stuffed act r came kind) kind ≡ repaired_by row national stuffed act r came kind
repaired-twice row national stuffed act r came Word = refl
repaired-twice row national stuffed act r came (Service s) = service-twice national came s
repaired-twice row national stuffed act r came Control = refl
repaired-twice row national stuffed act r came (Justification sign) = go (carried (Justification sign) act)
  where
    go : (t : Bool) → cond t (cond t came 1) 1 ≡ cond t came 1
    go true = refl
    go false = refl
repaired-twice row national stuffed act r came Tributary = refl

-- a national digit that a note has is set by the switch
national-noted : (national : Bool) (came i : ℕ) → repaired_service national came (noted_digit (suc i)) ≡ cond national 1 came
national-noted national came zero = refl
national-noted national came (suc zero) = refl
national-noted national came (suc (suc i)) = refl

-- the national bits of a note, where each that the level has is 1
ones-of : (alarms n : ℕ) → alarms < 2 → n ≤ 3 * alarms
    → 32 * cond (ltb 1 (alarms + n)) 1 0 + 64 * cond (ltb 2 (alarms + n)) 1 0 + 128 * cond (ltb 3 (alarms + n)) 1 0 ≡ 32 * (2 ^ n - 1)
ones-of alarms n h =
    by-digit (λ (a : ℕ). n ≤ 3 * a → 32 * cond (ltb 1 (a + n)) 1 0 + 64 * cond (ltb 2 (a + n)) 1 0 + 128 * cond (ltb 3 (a + n)) 1 0 ≡ 32 * (2 ^ n - 1))
    (λ few. let none : n ≡ 0 = omega arith in rw none)
    (λ few. of_four (λ (n : ℕ). 32 * cond (ltb 1 (1 + n)) 1 0 + 64 * cond (ltb 2 (1 + n)) 1 0 + 128 * cond (ltb 3 (1 + n)) 1 0 ≡ 32 * (2 ^ n - 1)) refl refl refl refl n (omega arith))
    alarms
    h

-- a list given by its places, each made into another
map-tab : (g h : ℕ → ℕ) (n p : ℕ) → map g (tab n p h) ≡ tab n p (λ (i : ℕ). g (h i))
unfolding tab
map-tab g h zero p = refl
map-tab g h (suc n) p = ap (λ (l : List ℕ). g (h p) ∷ l) (map-tab g h n (suc p))

-- ---- the line

module _ (row : Row) (earlier : ℕ) (national : Bool) (line : List ℕ) where
  abbrev F : ℕ
  F = frames_of row (length line)

  abbrev ds : List ℕ
  ds = digits_of line

  abbrev pub left : List ℕ
  left = repaired_line row earlier national line

  small : (p : ℕ) → becomes row earlier national line p < 2
  unfolding repaired_digit
  small p =
      repaired-small row national (vote_at row ds (pos_of row p).frame (p % 4)).stuffed (actions row earlier (notes_of row ds F) (p % 4) (pos_of row p).frame) (pos_of row p).place
      (get_or ds p 0)
      (kind_at row p)
      (digits-binary line p)

  pub repaired-length : length left ≡ length line
  unfolding repaired_line
  repaired-length = bytes-length (length line) _

  pub repaired-bytes : Bytes left
  unfolding repaired_line
  repaired-bytes = bytes-are-bytes (length line) _ (tab-binary (8 * length line) 0 (becomes row earlier national line) small)

  pub repaired-at : (p : ℕ) → p < 8 * length line → get_or (digits_of left) p 0 ≡ becomes row earlier national line p
  unfolding repaired_line
  repaired-at p h =
      let n = 8 * length line in
      ap (λ (l : List ℕ). get_or l p 0)
      (digits-of-bytes (length line) _ (tab-binary n 0 (becomes row earlier national line) small) (tab-length n 0 (becomes row earlier national line)))
      ∙ tab-at n 0 (becomes row earlier national line) p h
      ∙ ap (becomes row earlier national line) (zero-add p)

  module _ (wh : Whole row line) where
    abbrev sh : Shared row
    sh = wh.shared

    abbrev es : List ℕ
    es = digits_of left

    -- place r of set s of frame f
    pub repaired-here : (f s r j p : ℕ) → f < F → s < row.sets → r < row.set → r % 4 ≡ j → p ≡ f * row.digits + (s * row.set + r)
        → get_or es p 0 ≡ repaired_by row national (vote_at row ds f j).stuffed (actions row earlier (notes_of row ds F) j f) r (get_or ds p 0) (kind_of row s r)
    unfolding repaired_digit
    repaired-here f s r j p hf hs hr m e =
        let w : p % 4 ≡ j = whose row sh f s r p e hs hr ∙ m in
        repaired-at p (omega (arith, in_line row sh f s r p e hs hr F hf, frames-digits wh)) ∙ rw (pos-of-sum row sh p f s r e hs hr, w)

    module _ (f : ℕ) (hf : f < F) where
      -- every group is unanimous for the decision that it had
      control-repaired : (s j p : ℕ) → 0 < s → s < row.sets → j < 4 → p ≡ f * row.digits + (s * row.set + j)
          → get_or es p 0 ≡ cond (vote_at row ds f j).stuffed 1 0
      control-repaired s j p later hs hj e =
          repaired-here f s j j p hf hs (omega (arith, sh.room)) (omega arith) e ∙ rw (kind-control row sh s later j hj)

      pub vote-repaired : (j : ℕ) → j < 4 → vote_at row es f j ≡ record { stuffed = (vote_at row ds f j).stuffed; dissent = 0 }
      unfolding vote_at
      vote-repaired j hj = as_one (vote_at row ds f j).stuffed group
        where
          start : ℕ
          start = f * row.digits + (row.set + j)

          group : group_of es start row.set row.control ≡ replicate row.control (cond (vote_at row ds f j).stuffed 1 0)
          group =
              group-all es start row.set (cond (vote_at row ds f j).stuffed 1 0) row.control
              (λ i hi. control-repaired (i + 1) j (start + i * row.set) (omega arith) (omega (arith, sh.group)) hj (control-place row sh f j i))

          as_one : (st : Bool) → group_of es start row.set row.control ≡ replicate row.control (cond st 1 0) → vote_at row es f j ≡ record { stuffed = st; dissent = 0 }
          as_one st e =
              let g = group_of es start row.set row.control in
              let bin : Binary g = group-binary es (digits-binary left) start row.set row.control in
              let long : length g ≡ row.control = group-length es start row.set row.control in
              let none : votes_for (cond st 0 1) g ≡ 0 =
              sym (differing-votes st g bin) ∙ rw (long, e) (differing-self (replicate row.control (cond st 1 0))) in
              rw (vote-stands st g bin (omega (arith, none, long, sh.odd)), none)

      -- the service digits that a note has: the remote alarm digit is as it came, a national one is too, or with the switch on 1
      service-here : (k : ℕ) → k < noted_of row
          → get_or es (f * row.digits + (row.alarm + k)) 0 ≡ repaired_service national (get_or ds (f * row.digits + (row.alarm + k)) 0) (noted_digit k)
      service-here k h =
          let r = row.len + k in
          let in-set : r < row.set = omega (arith, sh.room, sh.alarm_next, sh.national_next, sh.first_next) in
          repaired-here f 0 r (r % 4) (f * row.digits + (row.alarm + k)) hf (omega (arith, sh.later_set)) in-set refl (omega (arith, sh.alarm_next))
          ∙ rw (kind-noted row sh k h)

      alarm-repaired : service_at row es f 0 ≡ service_at row ds f 0
      unfolding service_at
      alarm-repaired =
          elim (dec_lt 0 (noted_of row)) [
            | yes h ↦ rw (lt-ltb 0 (noted_of row) h) (service-here 0 h)
            | no h ↦ rw (le-ltb 0 (noted_of row) (omega arith))
          ]

      national-repaired : (i : ℕ) → service_at row es f (suc i) ≡ cond national (cond (ltb (suc i) (noted_of row)) 1 0) (service_at row ds f (suc i))
      unfolding service_at
      national-repaired i =
          elim (dec_lt (suc i) (noted_of row)) [
            | yes h ↦ rw (lt-ltb (suc i) (noted_of row) h) (service-here (suc i) h ∙ national-noted national (get_or ds (f * row.digits + (row.alarm + suc i)) 0) i)
            | no h ↦ rw (le-ltb (suc i) (noted_of row) (omega arith)) (cond-by (λ (n : ℕ). 0 ≡ n) national refl refl)
          ]

      alarm-small : service_at row ds f 0 ≤ 1
      unfolding service_at
      alarm-small = cond-by (λ (n : ℕ). n ≤ 1) (ltb 0 (noted_of row)) (omega (arith, digits-binary line (f * row.digits + (row.alarm + 0)))) (lit≤ tt)

      pub note-repaired : note_of row es f ≡ cond national (national_ones row (note_of row ds f)) (note_of row ds f)
      unfolding note_of
      note-repaired =
          rw (vote-repaired 0 (lit< tt), vote-repaired 1 (lit< tt), vote-repaired 2 (lit< tt), vote-repaired 3 (lit< tt), alarm-repaired, national-repaired 0, national-repaired 1, national-repaired 2)
          (go national)
        where
          bit : ℕ → ℕ
          bit j = cond (vote_at row ds f j).stuffed 1 0

          low : ℕ
          low = bit 0 + 2 * bit 1 + 4 * bit 2 + 8 * bit 3 + 16 * service_at row ds f 0

          bit-small : (j : ℕ) → bit j ≤ 1
          bit-small j = cond-by (λ (n : ℕ). n ≤ 1) (vote_at row ds f j).stuffed (lit≤ tt) (lit≤ tt)

          go : (t : Bool)
              → low + 32 * cond t (cond (ltb 1 (noted_of row)) 1 0) (service_at row ds f 1) + 64 * cond t (cond (ltb 2 (noted_of row)) 1 0) (service_at row ds f 2)
              + 128 * cond t (cond (ltb 3 (noted_of row)) 1 0) (service_at row ds f 3)
              ≡ cond t (national_ones row (low + 32 * service_at row ds f 1 + 64 * service_at row ds f 2 + 128 * service_at row ds f 3))
              (low + 32 * service_at row ds f 1 + 64 * service_at row ds f 2 + 128 * service_at row ds f 3)
          go true = omega (arith, ones-of row.alarms row.nationals (omega (arith, sh.few_alarm)) sh.few_national, bit-small 0, bit-small 1, bit-small 2, bit-small 3, alarm-small)
          go false = refl

      -- the word is the level's
      pub word-repaired : wrong_digits row es (f * row.digits) ≡ 0
      word-repaired =
          sum-all row.len 0 (λ (k : ℕ). cond (eqb (get_or es (f * row.digits + k) 0) (word_digit row k)) 0 1)
          (λ k h. rw (eq-eqb (get_or es (f * row.digits + k) 0) (word_digit row k) (at k h)))
          ∙ omega arith
        where
          at : (k : ℕ) → k < row.len → get_or es (f * row.digits + k) 0 ≡ word_digit row k
          at k h =
              repaired-here f 0 k (k % 4) (f * row.digits + k) hf (omega (arith, sh.later_set)) (omega (arith, sh.room, sh.alarm_next, sh.national_next, sh.first_next)) refl (omega arith)
              ∙ rw (kind-word row sh k h)

    -- so the notes are those of the input, but for the national bits that the switch sets
    pub notes-repaired : notes_of row es F ≡ notes_again row national (notes_of row ds F)
    notes-repaired =
        tab-of (notes_of row es F) F (λ (f : ℕ). cond national (national_ones row (note_of row ds f)) (note_of row ds f)) (tab-length F 0 (note_of row es))
        (λ f hf. tab-at F 0 (note_of row es) f hf ∙ rw (zero-add f) (note-repaired f hf))
        ∙ go national
      where
        go : (t : Bool) → tab F 0 (λ (f : ℕ). cond t (national_ones row (note_of row ds f)) (note_of row ds f)) ≡ notes_again row t (notes_of row ds F)
        go true = sym (map-tab (national_ones row) (note_of row ds) F 0)
        go false = refl

    -- and every frame does what it did
    pub acts-repaired : (j : ℕ) → j < 4 → (f : ℕ) → f < F → actions row earlier (notes_of row es F) j f ≡ actions row earlier (notes_of row ds F) j f
    acts-repaired j hj =
        actions-same row earlier earlier (notes_of row es F) (notes_of row ds F) j F refl
        (λ f hf.
        decisions-read row es (digits-binary left) F f j hf hj ∙ ap (λ (v : Vote). v.stuffed) (vote-repaired f hf j hj) ∙ sym (decisions-read row ds (digits-binary line) F f j hf hj))
