-- The documents' sentences on what a place is hold of every row of the table, and the two frames of request 10 are as it says, every place.
use mathlib.Core.Path.{◌≡◌, refl, ◌∙◌, ap}
use mathlib.Core.Logic.{◌≢◌}
use Prim.Native.Nat.{ℕ, ◌+◌, ◌*◌, ◌-◌, ◌/◌, ◌≤◌, ◌<◌}
use native.Mathlib.Omega.{arith}
use native.Mathlib.Decide.{dec_lt, ℕ_discrete}
use native.Mathlib.Nat.{mul_left_comm, zero-mul, div-eq_of_lt}
use Rattle.table.specs.declared.Row.{Row}
use Rattle.table.specs.Table.{row12, row14}
use Rattle.levels.specs.declared.places.At.{At}
use Rattle.levels.specs.declared.places.Kind.{Kind}
use Rattle.levels.specs.declared.places.Kind.TheVariants.{Word, Service, Control, Justification, Tributary}
use Rattle.levels.specs.declared.places.Sign.{Sign}
use Rattle.levels.specs.declared.places.Sign.TheVariants.{Negative, Positive}
use Rattle.levels.specs.declared.places.ServiceDigit.TheVariants.{RemoteAlarm, Fixed}
use Rattle.levels.specs.Table.{Shared}
use Rattle.levels.specs.Places.{noted_digit, kind_of, kind_at, pos_of}
use Rattle.levels.specs.Sentences.{Sentences, Are, GroupIV, Level12, Level14}
use Rattle.levels.proofs.Rows.{shared12, shared14}
use Rattle.levels.proofs.Positions.{stands, pos-of-sum}
use Rattle.levels.proofs.Ways.{kind-word, kind-noted, kind-unnoted, kind-first, kind-control, kind-negative, kind-positive, kind-after, kind-fixed, kind-between}

module _ (row : Row) (sh : Shared row) where
  -- the kind of a place that stands at f, s and r
  pub kind-of-sum : (p f s r : ℕ) → p ≡ f * row.digits + (s * row.set + r) → s < row.sets → r < row.set → kind_at row p ≡ kind_of row s r
  kind-of-sum p f s r e hs hr = ap (λ (at : At). kind_of row at.set at.place) (pos-of-sum row sh p f s r e hs hr)

  -- a set's first place is one of tributary 1
  pub set-start : (s : ℕ) → s * row.set ≡ 4 * (s * (row.set / 4))
  set-start s = let fours : row.set ≡ 4 * (row.set / 4) = omega (arith, sh.set_fours) in ap (λ (k : ℕ). s * k) fours ∙ mul_left_comm s 4 (row.set / 4)

  in-first : (r : ℕ) → r < row.set → kind_at row r ≡ kind_of row 0 r
  in-first r h = kind-of-sum r 0 0 r (omega arith) (omega (arith, sh.later_set)) h

  others : (p : ℕ) → row.first ≤ p → p < row.digits → kind_at row p ≢ Control → ((s : Sign) → kind_at row p ≢ Justification s)
      → kind_at row p ≢ Service Fixed → kind_at row p ≡ Tributary
  unfolding pos_of
  others p lo hi nc nj ns = go (pos_of row p).set (pos_of row p).place refl sum
    where
      none_before : p / row.digits * row.digits ≡ 0
      none_before = rw (div-eq_of_lt hi) (zero-mul row.digits)

      sum : p ≡ (pos_of row p).set * row.set + (pos_of row p).place
      sum = omega (arith, (stands row sh p).sum, none_before)

      between : (s r : ℕ) → 0 < s → s + 1 ≢ row.sets → 4 ≤ r → kind_at row p ≡ kind_of row s r → kind_at row p ≡ Tributary
      between s r later other h e =
          elim (dec_lt r row.middle) [
            | yes a ↦ absurd (ns (e ∙ kind-fixed row sh s later other r h a))
            | no a ↦ e ∙ kind-between row sh s later other r (omega arith)
          ]

      end : (s r : ℕ) → 0 < s → s + 1 ≡ row.sets → 4 ≤ r → kind_at row p ≡ kind_of row s r → kind_at row p ≡ Tributary
      end s r later last h e =
          elim (dec_lt r (row.last - 4)) [
            | yes a ↦ absurd (nj Negative (e ∙ kind-negative row sh s later last r h a))
            | no a ↦
                elim (dec_lt r row.last) [
                  | yes b ↦ absurd (nj Positive (e ∙ kind-positive row sh s later last r (omega arith) b))
                  | no b ↦ e ∙ kind-after row sh s later last r (omega arith)
                ]
          ]

      go : (s r : ℕ) → kind_at row p ≡ kind_of row s r → p ≡ s * row.set + r → kind_at row p ≡ Tributary
      go s r e sum =
          elim (ℕ_discrete s 0) [
            | yes first ↦
                let none : s * row.set ≡ 0 = rw first (zero-mul row.set) in
                e ∙ rw first (kind-first row sh r (omega arith))
            | no n ↦
                let later : 0 < s = omega arith in
                elim (dec_lt r 4) [
                  | yes h ↦ absurd (nc (e ∙ kind-control row sh s later r h))
                  | no h ↦
                      elim (ℕ_discrete (s + 1) row.sets) [
                        | yes last ↦ end s r later last (omega arith) e
                        | no other ↦ between s r later other (omega arith) e
                      ]
                ]
          ]

  alarm : 0 < row.alarms → kind_at row row.alarm ≡ Service RemoteAlarm
  alarm h =
      let e : row.alarm ≡ row.len + 0 = omega (arith, sh.alarm_next) in
      ap (λ (p : ℕ). kind_at row p) e ∙ (in-first (row.len + 0) (omega (arith, sh.room, sh.alarm_next, sh.national_next, sh.first_next)) ∙ kind-noted row sh 0 (omega arith))

  national : (k : ℕ) → k < row.nationals → kind_at row (row.national + k) ≡ Service (noted_digit (1 + k))
  national k h =
      let e : row.national + k ≡ row.len + (1 + k) = omega (arith, sh.alarm_next, sh.national_next, sh.few_alarm, sh.few_national) in
      let noted : 1 + k < row.alarms + row.nationals = omega (arith, sh.few_alarm, sh.few_national) in
      let inside : row.len + (1 + k) < row.set = omega (arith, sh.room, sh.alarm_next, sh.national_next, sh.first_next) in
      ap (λ (p : ℕ). kind_at row p) e ∙ (in-first (row.len + (1 + k)) inside ∙ kind-noted row sh (1 + k) noted)

  service : (p : ℕ) → row.national + row.nationals ≤ p → p < row.first → kind_at row p ≡ Service Fixed
  service p lo hi =
      let k = p - row.len in
      let e : p ≡ row.len + k = omega (arith, sh.alarm_next, sh.national_next) in
      ap (λ (q : ℕ). kind_at row q) e ∙ (in-first (row.len + k) (omega (arith, sh.room)) ∙ kind-unnoted row sh k (omega (arith, sh.alarm_next, sh.national_next)) (omega arith))

  pub sentences : Sentences row
  sentences =
      record {
        the_word = λ p h. in-first p (omega (arith, sh.room, sh.alarm_next, sh.national_next, sh.first_next)) ∙ kind-word row sh p h;
        the_alarm = alarm;
        the_nationals = national;
        the_services = service;
        the_controls = λ s t lo hi h.
            (kind-of-sum (s * row.set + t) 0 s t (omega arith) hi (omega (arith, sh.room)) ∙ kind-control row sh s lo t h, omega (arith, set-start s));
        the_justifications = λ s t last h. (
          kind-of-sum (s * row.set + (row.last - 4 + t)) 0 s (row.last - 4 + t) (omega arith) (omega arith) (omega (arith, sh.last_room, sh.last_least))
              ∙ kind-positive row sh s (omega (arith, sh.later_set)) last (row.last - 4 + t) (omega arith) (omega (arith, sh.last_least)),
          omega (arith, set-start s, sh.last_fours, sh.last_least),
        );
        the_negatives = λ s t last two h. (
          kind-of-sum (s * row.set + (4 + t)) 0 s (4 + t) (omega arith) (omega arith) (omega (arith, sh.room))
              ∙ kind-negative row sh s (omega (arith, sh.later_set)) last (4 + t) (omega arith) (omega (arith, sh.last_fours)),
          omega (arith, set-start s),
        );
        the_services_between = λ s r lo hi h h'.
            kind-of-sum (s * row.set + r) 0 s r (omega arith) (omega arith) (omega (arith, sh.room, sh.middle_most))
            ∙ kind-fixed row sh s lo (λ e. omega arith) r h h';
        the_others = others;
        anew = λ s. (sh.first_fours, omega (arith, set-start s, sh.middle_fours), omega (arith, set-start s, sh.last_fours));
      }

  -- ---- the frames of request 10, group by group

  -- a place of a group is the place of the set that is one less
  in_group : (g from to : ℕ) (kind : Kind) → 1 ≤ g → g ≤ row.sets → 1 ≤ from → to ≤ row.set
      → ((r : ℕ) → from ≤ r + 1 → r < to → kind_of row (g - 1) r ≡ kind) → Are row g from to kind
  in_group g from to kind lo hi some fits is p h h' =
      kind-of-sum ((g - 1) * row.set + (p - 1)) 0 (g - 1) (p - 1) (omega arith) (omega arith) (omega arith) ∙ is (p - 1) (omega arith) (omega arith)

  words : Are row 1 1 row.len Word
  words =
      let inside : row.len ≤ row.set = omega (arith, sh.room, sh.alarm_next, sh.national_next, sh.first_next) in
      in_group 1 1 row.len Word (omega arith) (omega (arith, sh.later_set)) (omega arith) inside (λ r _ h. kind-word row sh r h)

  carriers : Are row 1 (row.first + 1) row.set Tributary
  carriers = in_group 1 (row.first + 1) row.set Tributary (omega arith) (omega (arith, sh.later_set)) (omega arith) (omega arith) (λ r h _. kind-first row sh r (omega arith))

  services : row.nationals ≡ 0 → row.alarms ≡ 0 → Are row 1 (row.len + 1) row.first (Service Fixed)
  services none neither p lo hi = rw away (service (p - 1) (omega (arith, sh.alarm_next, sh.national_next)) (omega arith))
    where
      away : (1 - 1) * row.set + (p - 1) ≡ p - 1
      away = omega arith

  controls : (g : ℕ) → 2 ≤ g → g ≤ row.sets → Are row g 1 4 Control
  controls g lo hi = in_group g 1 4 Control (omega arith) hi (omega arith) (omega (arith, sh.room)) (λ r _ h. kind-control row sh (g - 1) (omega arith) r h)

  module _ (g : ℕ) (lo : 2 ≤ g) (hi : g < row.sets) where
    fixed : Are row g 5 row.middle (Service Fixed)
    fixed =
        in_group g 5 row.middle (Service Fixed) (omega arith) (omega arith) (omega arith) (omega (arith, sh.room, sh.middle_most))
        (λ r h h'. kind-fixed row sh (g - 1) (omega arith) (λ e. omega arith) r (omega arith) h')

    between : Are row g (row.middle + 1) row.set Tributary
    between =
        in_group g (row.middle + 1) row.set Tributary (omega arith) (omega arith) (omega arith) (omega arith)
        (λ r h _. kind-between row sh (g - 1) (omega arith) (λ e. omega arith) r (omega arith))

  group-four : row.sets ≡ 4 → row.last ≡ 12 → GroupIV row
  group-four four twelve = (
    controls 4 (omega arith) (omega arith),
    in_group 4 5 8 (Justification Negative) (omega arith) (omega arith) (omega arith) (omega (arith, sh.last_room))
        (λ r h h'. kind-negative row sh 3 (omega arith) (omega arith) r (omega arith) (omega arith)),
    in_group 4 9 12 (Justification Positive) (omega arith) (omega arith) (omega arith) (omega (arith, sh.last_room))
        (λ r h h'. kind-positive row sh 3 (omega arith) (omega arith) r (omega arith) (omega arith)),
    in_group 4 13 row.set Tributary (omega arith) (omega arith) (omega arith) (omega arith)
        (λ r h _. kind-after row sh 3 (omega arith) (omega arith) r (omega arith)),
  )

pub level-12 : Level12
level-12 =
    record {
      one = (words row12 shared12, carriers row12 shared12);
      two = (controls row12 shared12 2 (omega arith) (omega arith), fixed row12 shared12 2 (omega arith) (omega arith), between row12 shared12 2 (omega arith) (omega arith));
      three = (controls row12 shared12 3 (omega arith) (omega arith), fixed row12 shared12 3 (omega arith) (omega arith), between row12 shared12 3 (omega arith) (omega arith));
      four = group-four row12 shared12 refl refl;
    }

pub level-14 : Level14
level-14 =
    record {
      one = (words row14 shared14, services row14 shared14 refl refl, carriers row14 shared14);
      two = (controls row14 shared14 2 (omega arith) (omega arith), between row14 shared14 2 (omega arith) (omega arith));
      three = (controls row14 shared14 3 (omega arith) (omega arith), between row14 shared14 3 (omega arith) (omega arith));
      four = group-four row14 shared14 refl refl;
    }
