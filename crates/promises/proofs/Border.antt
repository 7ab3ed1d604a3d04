-- The theorems of demand 3 are not empty, and their border is where the letter has it: as much damage as is allowed is damage, of any
-- line; with one control digit more it is none, and two different sends meet.
use mathlib.Core.Path.{◌≡◌, refl, sym, ◌∙◌, ap}
use mathlib.Core.Bool.{Bool, cond, true, false, not, true≢false}
use mathlib.Core.List.{List, [], ◌∷◌}
use Prim.Native.Nat.{ℕ, zero, suc, ◌+◌, ◌*◌, ◌-◌, ◌/◌, ◌%◌, ◌^◌, ◌≤◌, ◌<◌, min}
use native.Mathlib.Omega.{arith}
use native.Mathlib.Decide.{dec_le}
use native.Mathlib.Nat.{zero-add, lt_of_mul-lt-mul_right, mod-eq_of_lt, div-div-eq-div-mul}
use lib.Dec.{eqb, lit<}
use lib.ListN.{length, get_or, replicate, length-replicate, get_or-replicate}
use lib.Seq.{ext_get_or}
use lib.Pow.{pow_pos}
use borrow.Author.Tests.{eq-eqb, le-leb, lt-leb}
use Rattle.digits.specs.Digits.{tab, Binary, differing}
use Rattle.digits.specs.Sums.{sum_to}
use Rattle.digits.proofs.Laws.{by-digit, tab-at, tab-length, tab-binary, zeros-at, zeros-binary}
use Rattle.digits.proofs.Lists.{of_four, differing-more}
use Rattle.digits.proofs.Sums.{sum-all}
use Rattle.table.specs.declared.Row.{Row}
use Rattle.levels.specs.declared.places.ServiceDigit.TheVariants.{RemoteAlarm, FirstNational, SecondNational, ThirdNational, Fixed}
use Rattle.levels.specs.declared.order.Action.{Action}
use Rattle.levels.specs.declared.places.Kind.{Kind}
use Rattle.levels.specs.declared.places.Kind.TheVariants.{Word, Service, Control, Justification, Tributary}
use Rattle.table.specs.Table.{row2, row3, row4, row12, row14, level_of}
use Rattle.levels.specs.Table.{Shared}
use Rattle.levels.specs.Sizes.{frames_refusal, size_refusal}
use Rattle.levels.specs.Places.{kind_at, pos_of}
use Rattle.levels.specs.Order.{stuffed, action_of, actions, carried, before, count_of}
use Rattle.levels.specs.Vote.{group_of}
use Rattle.levels.proofs.Rows.{shared2, shared3, shared4, shared12, shared14}
use Rattle.levels.proofs.Positions.{stands, pos-of-sum}
use Rattle.levels.proofs.Majority.{group-length}
use Rattle.levels.proofs.Ways.{kind-control}
use Rattle.levels.specs.Line.{digit_by}
use Rattle.levels.specs.Faults.{first_with, unset, national_bits, fault_of, send_fault_of}
use Rattle.promises.specs.Damage.{Liberty, at-will, counted, kept, liberty, liberty_at, group_at, allowed, DamageUpTo, Damage, controls_changed, line_digits}
use Rattle.promises.specs.Carried.{Sound}
use Rattle.promises.specs.Calls.{SendAccepted, sent_counts, LentAt}
use Rattle.promises.specs.Border.{inverted, spoilt, changes, early, late, none_stuffed, all_stuffed, idle, Border, full_send, full_read, Full}
use Rattle.promises.proofs.Sent.{control-place, in_line, sent-at}
use Rattle.promises.proofs.Recovered.{dissent-changed}
use Rattle.promises.proofs.RoundTrip.{line-binary}
use Rattle.promises.proofs.Calls.{send-back}

inverted-small : (l : Liberty) (change : Bool) (d : ℕ) → d < 2 → inverted l change d < 2
inverted-small at-will change d h = omega arith
inverted-small counted true d h = omega arith
inverted-small counted false d h = h
inverted-small kept change d h = h

-- a control digit differs where it is changed, and only there
one-differs : (change : Bool) (d : ℕ) → d < 2 → cond {A = ℕ} (eqb d (cond change (1 - d) d)) 0 1 ≡ cond change 1 0
one-differs true = by-digit (λ (d : ℕ). cond {A = ℕ} (eqb d (1 - d)) 0 1 ≡ 1) refl refl
one-differs false = by-digit (λ (d : ℕ). cond {A = ℕ} (eqb d d) 0 1 ≡ 0) refl refl

module _ (row : Row) (sh : Shared row) (earlier : ℕ) (notes : List ℕ) (change : ℕ → Bool) (F : ℕ) (sent : List ℕ) (bin : Binary sent) where
  abbrev new : List ℕ
  new = spoilt row earlier notes change F sent

  new-at : (p : ℕ) → p < F * row.digits → get_or new p 0 ≡ inverted (liberty_at row earlier notes p) (change (pos_of row p).set) (get_or sent p 0)
  new-at p h = tab-at (F * row.digits) 0 (λ (p : ℕ). inverted (liberty_at row earlier notes p) (change (pos_of row p).set) (get_or sent p 0)) p h ∙ rw (zero-add p)

  -- so many digits of a group are changed as sets are
  module _ (f j : ℕ) (hf : f < F) (hj : j < 4) where
    abbrev start : ℕ
    start = f * row.digits + (row.set + j)

    control-at : (i : ℕ) → i < row.control → get_or new (start + i * row.set) 0 ≡ cond (change (i + 1)) (1 - get_or sent (start + i * row.set) 0) (get_or sent (start + i * row.set) 0)
    control-at i hi =
        let p = start + i * row.set in
        let e = control-place row sh f j i in
        let hs : i + 1 < row.sets = omega (arith, sh.group) in
        let hr : j < row.set = omega (arith, sh.room) in
        new-at p (in_line row sh f (i + 1) j p e hs hr F hf) ∙ rw (pos-of-sum row sh p f (i + 1) j e hs hr, kind-control row sh (i + 1) (omega arith) j hj)

    changed-to : (k : ℕ) → k ≤ row.control → differing (group_of sent start row.set k) (group_of new start row.set k) ≡ changes change k
    unfolding group_of differing sum_to
    changed-to zero h = refl
    changed-to (suc k) h =
        let d = get_or sent (start + k * row.set) 0 in
        let g = group_of sent start row.set k in
        let g' = group_of new start row.set k in
        let one : cond {A = ℕ} (eqb d (get_or new (start + k * row.set) 0)) 0 1 ≡ cond (change (k + 1)) 1 0 = rw (control-at k h) (one-differs (change (k + 1)) d (bin (start + k * row.set))) in
        differing-more g g' d (get_or new (start + k * row.set) 0) (group-length sent start row.set k ∙ sym (group-length new start row.set k))
        ∙ omega (arith, changed-to k (omega arith), one)

    pub spoilt-group : differing (group_at row sent f j) (group_at row new f j) ≡ changes change row.control
    spoilt-group = changed-to row.control (omega arith)

  -- and so of all groups of a tributary
  pub spoilt-controls : (j : ℕ) → j < 4 → controls_changed row F sent new j ≡ F * changes change row.control
  spoilt-controls j hj =
      sum-all F (changes change row.control) (λ (f : ℕ). differing (group_at row sent f j) (group_at row new f j)) (λ f hf. spoilt-group f j hf hj)

  pub spoilt-damage : DamageUpTo (changes change row.control) row earlier notes F sent new
  spoilt-damage =
      record {
        digits = tab-binary (F * row.digits) 0 (λ (p : ℕ). inverted (liberty_at row earlier notes p) (change (pos_of row p).set) (get_or sent p 0))
            (λ p. inverted-small (liberty_at row earlier notes p) (change (pos_of row p).set) (get_or sent p 0) (bin p));
        size = tab-length (F * row.digits) 0 (λ (p : ℕ). inverted (liberty_at row earlier notes p) (change (pos_of row p).set) (get_or sent p 0));
        others_kept = λ p h keep. new-at p h ∙ rw keep;
        few_controls = λ f j hf hj. omega (arith, spoilt-group f j hf hj);
      }

-- a set is changed or not
changes-both : (change : ℕ → Bool) (k : ℕ) → changes change k + changes (λ (s : ℕ). not (change s)) k ≡ k
unfolding sum_to
changes-both change zero = refl
changes-both change (suc k) = omega (arith, changes-both change k, one (change (k + 1)))
  where
    one : (t : Bool) → cond {A = ℕ} t 1 0 + cond (not t) 1 0 ≡ 1
    one true = refl
    one false = refl

changes-early : (row : Row) (k : ℕ) → changes (early row) k ≡ min k (allowed row)
unfolding sum_to
changes-early row zero = omega arith
changes-early row (suc k) =
    elim (dec_le (k + 1) (allowed row)) [
      | yes h ↦ rw (le-leb (k + 1) (allowed row) h) (omega (arith, changes-early row k))
      | no h ↦ rw (lt-leb (k + 1) (allowed row) (omega arith)) (omega (arith, changes-early row k))
    ]

-- of notes with national bits alone, and with all four decisions beside them, bits 0 to 3
no-bit : (note j : ℕ) → note / 2 ^ j % 2 ≡ 0 → stuffed note j ≡ false
no-bit note j e = rw e

a-bit : (note j : ℕ) → note / 2 ^ j % 2 ≡ 1 → stuffed note j ≡ true
a-bit note j e = rw e

none-bit : (m j : ℕ) → j < 4 → stuffed (32 * m) j ≡ false
none-bit m =
    of_four (λ (j : ℕ). stuffed (32 * m) j ≡ false) (no-bit (32 * m) 0 (omega arith)) (no-bit (32 * m) 1 (omega arith)) (no-bit (32 * m) 2 (omega arith))
    (no-bit (32 * m) 3 (omega arith))

all-bit : (m j : ℕ) → j < 4 → stuffed (15 + 32 * m) j ≡ true
all-bit m =
    of_four (λ (j : ℕ). stuffed (15 + 32 * m) j ≡ true) (a-bit (15 + 32 * m) 0 (omega arith)) (a-bit (15 + 32 * m) 1 (omega arith))
    (a-bit (15 + 32 * m) 2 (omega arith)) (a-bit (15 + 32 * m) 3 (omega arith))

-- and above them both are alike
no-alarm : (m : ℕ) → (32 * m / 2 ^ 4 % 2 ≡ 0) × ((15 + 32 * m) / 2 ^ 4 % 2 ≡ 0)
no-alarm m = (omega arith, omega arith)

above : (m : ℕ) → (15 + 32 * m) / 2 ^ 5 ≡ 32 * m / 2 ^ 5
above m = omega arith

-- a note of decisions and the level's national bits fits the level
bits_fit : (alarms nationals : ℕ) → alarms ≤ 1 → nationals ≤ 3 * alarms → (low : ℕ) → low < 16 → low + 32 * (2 ^ nationals - 1) < 2 ^ (4 + (alarms + nationals))
bits_fit zero zero a n low h = omega arith
bits_fit zero (suc k) a n low h = absurd (none k n)
  where
    none : (k : ℕ) → suc k ≤ 0 → ⊥
    none k n = omega arith
bits_fit (suc zero) zero a n low h = omega arith
bits_fit (suc zero) (suc zero) a n low h = omega arith
bits_fit (suc zero) (suc (suc zero)) a n low h = omega arith
bits_fit (suc zero) (suc (suc (suc zero))) a n low h = omega arith
bits_fit (suc zero) (suc (suc (suc (suc k)))) a n low h = absurd (none k n)
  where
    none : (k : ℕ) → suc (suc (suc (suc k))) ≤ 3 → ⊥
    none k n = omega arith
bits_fit (suc (suc k)) nationals a n low h = absurd (none k a)
  where
    none : (k : ℕ) → suc (suc k) ≤ 1 → ⊥
    none k a = omega arith

-- and has them all
bits-set : (row : Row) (low : ℕ) → low < 16 → unset row (low + national_bits row) ≡ false
bits-set row low h =
    let m = 2 ^ row.nationals - 1 in
    let above : (low + 32 * m) / 2 ^ 5 ≡ m = omega arith in
    let all : m % 2 ^ row.nationals ≡ m = mod-eq_of_lt (omega (arith, pow_pos row.nationals)) in
    rw (above, all, eq-eqb m m refl)

module _ (row : Row) (sh : Shared row) where
  -- the early sets are as many as digits of a group are allowed to change, the late ones one more
  early-count : changes (early row) row.control ≡ allowed row
  early-count = omega (arith, changes-early row row.control)

  late-count : changes (late row) row.control ≡ allowed row + 1
  late-count = omega (arith, changes-both (early row) row.control, early-count, sh.odd)

  module _ (earlier : ℕ) (notes : List ℕ) (F : ℕ) (sent : List ℕ) (bin : Binary sent) where
    -- every digit that is free inverted, and as many of each group as are allowed, is damage
    pub all-allowed : Damage row earlier notes F sent (spoilt row earlier notes (early row) F sent)
    all-allowed = rw early-count at (spoilt-damage row sh earlier notes (early row) F sent bin)

    -- one digit more of a group is none
    pub one_more : 0 < F → Damage row earlier notes F sent (spoilt row earlier notes (late row) F sent) → ⊥
    one_more some d =
        omega (arith, d.few_controls 0 0 some (lit< tt), spoilt-group row sh earlier notes (late row) F sent bin 0 0 some (lit< tt), late-count)

  -- a justification place of a send without ones is 0 when it is changed: it carries 0, or a stuffing digit 1 that is inverted
  no_ones : (t early : Bool) → inverted (cond t kept at-will) early (cond t 0 1) ≡ 0
  no_ones true early = refl
  no_ones false early = refl

  -- the digits of the two sends, changed, meet at every place, whatever their frames do
  meets : (m r : ℕ) (early : Bool) (j : ℕ) → j < 4 → (one other : Action) (k : Kind)
      → inverted (liberty k one) early (digit_by row (32 * m) one j r 0 k) ≡ inverted (liberty k other) (not early) (digit_by row (15 + 32 * m) other j r 0 k)
  meets m r early j hj one other Word = refl
  meets m r early j hj one other (Service RemoteAlarm) = omega (arith, no-alarm m)
  meets m r early j hj one other (Service FirstNational) = rw (above m)
  meets m r early j hj one other (Service SecondNational) =
      rw (sym (div-div-eq-div-mul (32 * m) 32 2), sym (div-div-eq-div-mul (15 + 32 * m) 32 2), above m)
  meets m r early j hj one other (Service ThirdNational) =
      rw (sym (div-div-eq-div-mul (32 * m) 32 4), sym (div-div-eq-div-mul (15 + 32 * m) 32 4), above m)
  meets m r early j hj one other (Service Fixed) = refl
  meets m r true j hj one other Control = rw (none-bit m j hj, all-bit m j hj)
  meets m r false j hj one other Control = rw (none-bit m j hj, all-bit m j hj)
  meets m r early j hj one other (Justification sign) =
      no_ones (carried (Justification sign) one) early ∙ sym (no_ones (carried (Justification sign) other) (not early))
  meets m r early j hj one other Tributary = refl

  module _ (earlier F : ℕ) where
    abbrev line_of : List ℕ → List ℕ
    line_of notes = line_digits row earlier notes (idle row F) F

    -- the same note in every frame, with decisions and the national bits only
    sound : (low : ℕ) → low < 16 → Sound row F (replicate F (low + national_bits row)) (idle row F)
    sound low h =
        let note = low + national_bits row in
        record {
          all_noted = length-replicate F note;
          notes_fit = λ f hf. rw (get_or-replicate F f note 0 hf) (bits_fit row.alarms row.nationals sh.few_alarm sh.few_national low h);
          nationals_set = λ f hf. rw (get_or-replicate F f note 0 hf) (bits-set row low h);
          digits = λ j hj. zeros-binary (F * row.room);
          room = λ j hj. rw (length-replicate {A = ℕ} (F * row.room) 0) (omega arith);
        }

    binary : (notes : List ℕ) → Binary (line_of notes)
    binary notes = line-binary row earlier notes (idle row F) (λ j hj. zeros-binary (F * row.room)) F

    long : (note : ℕ) (change : ℕ → Bool) → length (spoilt row earlier (replicate F note) change F (line_of (replicate F note))) ≡ F * row.digits
    long note change = (spoilt-damage row sh earlier (replicate F note) change F (line_of (replicate F note)) (binary (replicate F note))).size

    -- what the frame of place p does for its tributary
    abbrev acts : ℕ → ℕ → Action
    acts note p = actions row earlier (replicate F note) (p % 4) (pos_of row p).frame

    at_place : (note : ℕ) (change : ℕ → Bool) (p : ℕ) → p < F * row.digits
        → get_or (spoilt row earlier (replicate F note) change F (line_of (replicate F note))) p 0
        ≡ inverted (liberty (kind_at row p) (acts note p)) (change (pos_of row p).set) (digit_by row note (acts note p) (p % 4) (pos_of row p).place 0 (kind_at row p))
    at_place note change p h =
        let notes = replicate F note in
        let f = (pos_of row p).frame in
        let hf : f < F = lt_of_mul-lt-mul_right row.digits (omega (arith, (stands row sh p).sum)) in
        new-at row sh earlier notes change F (line_of notes) (binary notes) p h
        ∙ rw (sent-at row sh earlier notes (idle row F) F p h, get_or-replicate F f note 0 hf, zeros-at (F * row.room) (before row (actions row earlier notes (p % 4)) (p % 4) (p / 4)))

    meet : spoilt row earlier (none_stuffed row F) (early row) F (line_of (none_stuffed row F)) ≡ spoilt row earlier (all_stuffed row F) (late row) F (line_of (all_stuffed row F))
    meet =
        ext_get_or 0 (spoilt row earlier (none_stuffed row F) (early row) F (line_of (none_stuffed row F))) (spoilt row earlier (all_stuffed row F) (late row) F (line_of (all_stuffed row F)))
        (long one (early row) ∙ sym (long other (late row)))
        (λ p h.
        let in-frames : p < F * row.digits = omega (arith, long one (early row)) in
        at_place one (early row) p in-frames
        ∙ meets (2 ^ row.nationals - 1) (pos_of row p).place (early row (pos_of row p).set) (p % 4) (omega arith) (acts one p) (acts other p) (kind_at row p)
        ∙ sym (at_place other (late row) p in-frames))
      where
        one : ℕ
        one = national_bits row

        other : ℕ
        other = 15 + national_bits row

    pub border : Border row earlier F
    border =
        record {
          line = spoilt row earlier (none_stuffed row F) (early row) F (line_of (none_stuffed row F));
          sound_one = rw (zero-add (national_bits row)) at (sound 0 (lit< tt));
          sound_other = sound 15 (lit< tt);
          from_one = all-allowed earlier (none_stuffed row F) F (line_of (none_stuffed row F)) (binary (none_stuffed row F));
          from_other = rw (meet, ← late-count) (spoilt-damage row sh earlier (all_stuffed row F) (late row) F (line_of (all_stuffed row F)) (binary (all_stuffed row F)));
          dissenting = λ j hj.
              dissent-changed row sh F earlier (none_stuffed row F) (idle row F) (spoilt row earlier (none_stuffed row F) (early row) F (line_of (none_stuffed row F)))
              (all-allowed earlier (none_stuffed row F) F (line_of (none_stuffed row F)) (binary (none_stuffed row F))) j hj
              ∙ spoilt-controls row sh earlier (none_stuffed row F) (early row) F (line_of (none_stuffed row F)) (binary (none_stuffed row F)) j hj ∙ ap (λ (k : ℕ). F * k) early-count;
          changed_other = λ j hj.
              rw meet (spoilt-controls row sh earlier (all_stuffed row F) (late row) F (line_of (all_stuffed row F)) (binary (all_stuffed row F)) j hj ∙ ap (λ (k : ℕ). F * k) late-count);
          differ = λ j f hj hf e.
              let none = get_or-replicate {A = ℕ} F f (national_bits row) 0 hf in
              let all = get_or-replicate {A = ℕ} F f (15 + national_bits row) 0 hf in
              let set = 2 ^ row.nationals - 1 in
              true≢false (sym (rw (none, all, none-bit set j hj, all-bit set j hj) at e));
        }

-- at 8448 and at 34368 kbit/s the digit too much is the second of three, at 139264 the third of five; with positive/zero/negative justification
-- the second of three, whatever the earlier vote
pub two-of-three : Border row2 0 1
two-of-three = border row2 shared2 0 1

pub two-of-three-at-34368 : Border row3 0 1
two-of-three-at-34368 = border row3 shared3 0 1

pub three-of-five : Border row4 0 1
three-of-five = border row4 shared4 0 1

pub two-of-three-at-12 : (earlier : ℕ) → Border row12 earlier 2
two-of-three-at-12 earlier = border row12 shared12 earlier 2

pub two-of-three-at-14 : (earlier : ℕ) → Border row14 earlier 2
two-of-three-at-14 earlier = border row14 shared14 earlier 2

-- not one digit to spare
full-accepted : SendAccepted 2 0 full_send
unfolding level_of send_fault_of fault_of frames_refusal size_refusal first_with
full-accepted = refl

full-counted : sent_counts 2 0 full_send ≡ 824 ∷ 824 ∷ 824 ∷ 824 ∷ []
unfolding level_of send_fault_of fault_of frames_refusal size_refusal first_with count_of action_of sum_to
full-counted = refl

full-lent : LentAt 2 full_send full_read
unfolding level_of
full-lent = record { noted = refl; quarters = refl; room = omega arith }

pub full : Full
full = record { accepted = full-accepted; counted = full-counted; back = send-back 2 0 full_send full_read full-accepted full-lent refl }
