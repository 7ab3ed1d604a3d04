-- What a place of a frame is: the two engines' classifications agree at every place, by one eliminator over both.
use mathlib.Core.Path.{◌≡◌, ◌∙◌, ap}
use mathlib.Core.Logic.{◌≢◌}
use mathlib.Core.Bool.{cond}
use Prim.Native.Nat.{ℕ, ◌+◌, ◌*◌, ◌-◌, ◌/◌, ◌%◌, ◌≤◌, ◌<◌}
use native.Mathlib.Omega.{arith}
use native.Mathlib.Nat.{div-eq_of_lt, mod-eq_of_lt, div-add-mod', div-lt_iff_lt-mul, mod-lt, add-mul, one-mul, zero-mul, mul-le-mul_right}
use native.Mathlib.Decide.{dec_lt, ℕ_discrete}
use lib.Dec.{ltb}
use borrow.Author.Tests.{lt-ltb, le-ltb}
use Rattle.table.specs.declared.Row.{Row}
use Rattle.levels.specs.declared.places.Kind.{Kind}
use Rattle.levels.specs.declared.places.Kind.TheVariants as kinds
use Rattle.levels.specs.declared.places.ServiceDigit.TheVariants as digits
use Rattle.levels.specs.declared.places.Sign.TheVariants as signs
use Rattle.levels.specs.Table.{Shared}
use Rattle.levels.specs.Places.{kind_of, noted_of, noted_digit}
use Rattle.levels.proofs.Ways.{kind-word, kind-noted, kind-unnoted, kind-first, kind-control, kind-negative, kind-positive, kind-after, kind-fixed, kind-between}
use Rattle.engine.specs.declared.frame.Place.{Place}
use Rattle.engine.specs.declared.frame.Place.TheVariants as places
use Rattle.engine.specs.Engine.{place_in}

module _ (row : Row) (sh : Shared row) (q : ℕ) where
  noted : row.len + row.alarms + row.nationals ≤ row.first
  noted = omega (arith, sh.alarm_next, sh.national_next, sh.first_next)

  -- the plain engine's ways, one for each kind of place
  alignment : q < row.len → place_in row q ≡ places.Alignment
  unfolding place_in
  alignment a = rw (lt-ltb q row.len a)

  service : row.len ≤ q → q < row.len + row.alarms + row.nationals → place_in row q ≡ places.Service
  unfolding place_in
  service a b = rw (le-ltb q row.len a, lt-ltb q (row.len + row.alarms + row.nationals) b)

  unnoted : row.len + row.alarms + row.nationals ≤ q → q < row.first → place_in row q ≡ places.Fixed
  unfolding place_in
  unnoted a b =
      rw (le-ltb q row.len (omega arith), le-ltb q (row.len + row.alarms + row.nationals) a, lt-ltb q row.first b)

  first : row.first ≤ q → q < row.set → place_in row q ≡ places.Tributary
  unfolding place_in
  first a b =
      rw (le-ltb q row.len (omega (arith, noted)), le-ltb q (row.len + row.alarms + row.nationals) (omega (arith, noted)), le-ltb q row.first a, lt-ltb q row.set b)

  module _ (later : row.set ≤ q) where
    -- past the first set only the place in the set counts, and whether another set follows
    pub past : place_in row q
        ≡ cond (ltb (q % row.set) 4) places.Control
        (cond (ltb (q + row.set) row.digits) (cond (ltb (q % row.set) row.middle) places.Fixed places.Tributary)
        (cond (ltb (q % row.set + 4) row.last) places.Negative (cond (ltb (q % row.set) row.last) places.Positive places.Tributary)))
    unfolding place_in
    past =
        rw (le-ltb q row.len (omega (arith, noted, sh.room)), le-ltb q (row.len + row.alarms + row.nationals) (omega (arith, noted, sh.room)))
        (rw (le-ltb q row.first (omega (arith, sh.room)), le-ltb q row.set later))

    control : q % row.set < 4 → place_in row q ≡ places.Control
    control a = past ∙ rw (lt-ltb (q % row.set) 4 a)

    module _ (a : 4 ≤ q % row.set) where
      module _ (b : q + row.set < row.digits) where
        fixed : q % row.set < row.middle → place_in row q ≡ places.Fixed
        fixed d = past ∙ rw (le-ltb (q % row.set) 4 a, lt-ltb (q + row.set) row.digits b, lt-ltb (q % row.set) row.middle d)

        between : row.middle ≤ q % row.set → place_in row q ≡ places.Tributary
        between d = past ∙ rw (le-ltb (q % row.set) 4 a, lt-ltb (q + row.set) row.digits b, le-ltb (q % row.set) row.middle d)

      module _ (b : row.digits ≤ q + row.set) where
        last : place_in row q ≡ cond (ltb (q % row.set + 4) row.last) places.Negative (cond (ltb (q % row.set) row.last) places.Positive places.Tributary)
        last = past ∙ rw (le-ltb (q % row.set) 4 a, le-ltb (q + row.set) row.digits b)

        negative : q % row.set + 4 < row.last → place_in row q ≡ places.Negative
        negative d = last ∙ rw (lt-ltb (q % row.set + 4) row.last d)

        positive : row.last ≤ q % row.set + 4 → q % row.set < row.last → place_in row q ≡ places.Positive
        positive d e = last ∙ rw (le-ltb (q % row.set + 4) row.last d, lt-ltb (q % row.set) row.last e)

        after : row.last ≤ q % row.set → place_in row q ≡ places.Tributary
        after d = last ∙ rw (le-ltb (q % row.set + 4) row.last (omega arith), le-ltb (q % row.set) row.last d)

  -- what holds of the seven pairs of names holds of the two classifications
  pub by_place : q < row.digits → (P : Place → Kind → Type 0) → (q < row.len → P places.Alignment kinds.Word)
      → ((k : ℕ) → q ≡ row.len + k → k < noted_of row → P places.Service (kinds.Service (noted_digit k))) → P places.Fixed (kinds.Service digits.Fixed)
      → P places.Control kinds.Control → P places.Negative (kinds.Justification signs.Negative) → P places.Positive (kinds.Justification signs.Positive)
      → P places.Tributary kinds.Tributary → P (place_in row q) (kind_of row (q / row.set) (q % row.set))
  by_place inside P w sv fx c ng ps t =
      elim (dec_lt q row.set) [
        | yes h ↦ rw (div-eq_of_lt h, mod-eq_of_lt h) (in-first h)
        | no h ↦ in-later (omega arith)
      ]
    where
      at : row.len ≤ q → q ≡ row.len + (q - row.len)
      at h = omega arith

      kind : row.len ≤ q → (k : Kind) → kind_of row 0 (row.len + (q - row.len)) ≡ k → kind_of row 0 q ≡ k
      kind h k e = ap (λ (p : ℕ). kind_of row 0 p) (at h) ∙ e

      in-first : q < row.set → P (place_in row q) (kind_of row 0 q)
      in-first h =
          elim (dec_lt q row.len) [
            | yes a ↦ rw (alignment a, kind-word row sh q a) (w a)
            | no a ↦
                elim (dec_lt q (row.len + row.alarms + row.nationals)) [
                  | yes b ↦
                      let l : row.len ≤ q = omega arith in
                      let k : q - row.len < noted_of row = omega arith in
                      rw (service l b, kind l (kinds.Service (noted_digit (q - row.len))) (kind-noted row sh (q - row.len) k)) (sv (q - row.len) (at l) k)
                  | no b ↦
                      elim (dec_lt q row.first) [
                        | yes d ↦
                            let l : row.len ≤ q = omega arith in
                            rw (unnoted (omega arith) d, kind l (kinds.Service digits.Fixed) (kind-unnoted row sh (q - row.len) (omega arith) (omega arith))) fx
                        | no d ↦ rw (first (omega arith) h, kind-first row sh q (omega arith)) t
                      ]
                ]
          ]

      some : 0 < row.set
      some = omega (arith, sh.room)

      in-later : row.set ≤ q → P (place_in row q) (kind_of row (q / row.set) (q % row.set))
      in-later h = go (q / row.set) (div-add-mod' q row.set) ((div-lt_iff_lt-mul some).1 (omega (arith, inside, sh.whole)))
        where
          go : (s : ℕ) → s * row.set + q % row.set ≡ q → s < row.sets → P (place_in row q) (kind_of row s (q % row.set))
          go s parts hs =
              elim (dec_lt (q % row.set) 4) [
                | yes a ↦ rw (control h a, kind-control row sh s beyond (q % row.set) a) c
                | no a ↦
                    let four : 4 ≤ q % row.set = omega arith in
                    elim (ℕ_discrete (s + 1) row.sets) [
                      | yes e ↦ in-last four e
                      | no e ↦ in_between four e
                    ]
              ]
            where
              beyond : 0 < s
              beyond =
                  elim (ℕ_discrete s 0) [
                    | yes z ↦
                        let none : s * row.set ≡ 0 = rw z (zero-mul row.set) in
                        absurd (contra none)
                    | no n ↦ omega arith
                  ]
                where
                  contra : s * row.set ≡ 0 → ⊥
                  contra none = omega (arith, parts, mod-lt q some)

              fewer : (a b : ℕ) → a ≤ b → a * row.set ≤ b * row.set
              fewer a b l = mul-le-mul_right row.set l

              in-last : 4 ≤ q % row.set → s + 1 ≡ row.sets → P (place_in row q) (kind_of row s (q % row.set))
              in-last a e =
                  let end : row.digits ≤ q + row.set = omega (arith, parts, sh.whole, ap (λ (k : ℕ). k * row.set) e, add-mul s 1 row.set, one-mul row.set) in
                  elim (dec_lt (q % row.set + 4) row.last) [
                    | yes b ↦ rw (negative h a end b, kind-negative row sh s beyond e (q % row.set) a (omega arith)) ng
                    | no b ↦
                        elim (dec_lt (q % row.set) row.last) [
                          | yes d ↦ rw (positive h a end (omega arith) d, kind-positive row sh s beyond e (q % row.set) (omega arith) d) ps
                          | no d ↦ rw (after h a end (omega arith), kind-after row sh s beyond e (q % row.set) (omega arith)) t
                        ]
                  ]

              in_between : 4 ≤ q % row.set → s + 1 ≢ row.sets → P (place_in row q) (kind_of row s (q % row.set))
              in_between a e =
                  let more : (s + 2) * row.set ≤ row.digits = rw sh.whole (fewer (s + 2) row.sets (omega arith)) in
                  let follows : q + row.set < row.digits = omega (arith, parts, more, mod-lt q some, add-mul s 2 row.set) in
                  elim (dec_lt (q % row.set) row.middle) [
                    | yes b ↦ rw (fixed h a follows b, kind-fixed row sh s beyond e (q % row.set) a b) fx
                    | no b ↦ rw (between h a follows (omega arith), kind-between row sh s beyond e (q % row.set) (omega arith)) t
                  ]
