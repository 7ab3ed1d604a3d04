-- What a state reached from reset is, by the history of digits: the window, the digits seen, the frame in hand.
-- From it the theorem `handed`: a frame handed over is the N digits received from its word on, later bytes zero.
use mathlib.Core.Path.{◌≡◌, refl, sym, ap, ◌∙◌}
use mathlib.Core.Bool.{cond, true, false, true≢false}
use mathlib.Core.List.{List, [], ◌∷◌, ◌++◌, append_assoc, append-nil}
use Prim.Native.Nat.{ℕ, zero, suc, ◌+◌, ◌-◌, ◌≤◌, ◌<◌, min}
use native.Mathlib.Omega.{arith}
use borrow.Author.Tests.{ltb-true, ltb-false, leb-true, leb-false, eqb-true, ne_eqb}
use lib.Dec.{eqb, ltb, leb}
use lib.ListN.{length, set, take, replicate, length-append, length-replicate}
use lib.Seq.{take_all, take-append-le, set_at}
use Rattle.digits.specs.Runs as runs
use Rattle.digits.specs.Digits.{Binary, written}
use Rattle.table.specs.declared.Row.{Row}
use Rattle.levels.specs.Table.{Shared}
use Rattle.modes.specs.declared.Mode.{Mode}
use Rattle.modes.specs.declared.Mode.TheVariants.{Hunting, OneFound, TwoFound, Aligned}
use Rattle.modes.specs.declared.Core.{Core}
use Rattle.receiver.specs.declared.State.{State}
use Rattle.modes.specs.Modes.{hunting, window_of, seen_of, asks, place_after, after_digit, step_of}
use Rattle.pieces.specs.Frame.{holding, begun, put, keep_of, aligned, ready_of}
use Rattle.receiver.specs.Feed.{core_of, fresh_state, after_of}
use Rattle.modes.specs.Modes.{Valid}
use Rattle.digits.specs.Histories.{last_of}
use Rattle.receiver_promises.specs.History.{heard, since, Handed}
use Rattle.digits.proofs.Written.{written-zero}
use Rattle.digits.proofs.Lists.{binary-append}
use Rattle.pieces.proofs.Holding.{word-within, holding-digits, holding-length}
use Rattle.digits.proofs.Tests.{cond-told, and_both}
use Rattle.receiver.proofs.Validity.{step-valid, asked-came}
use Rattle.digits.proofs.Lasts.{last-length, last-binary, last_more, last-zeros}
use Rattle.digits.proofs.Histories.{recent-more}

-- ---- one digit more in the frame

one-digit : (d : ℕ) → d < 2 → Binary (d ∷ [])
one-digit d h zero = h
one-digit d h (suc i) = omega arith

pub put-more : (ds : List ℕ) (d : ℕ) → Binary ds → d < 2 → length ds < 2928 → put (holding ds) (length ds) d ≡ holding (ds ++ (d ∷ []))
unfolding put holding
put-more ds d bin h room =
    let n = 2928 - suc (length ds) in
    let e : 2928 - length ds ≡ suc n = omega arith in
    let l : length (ds ++ (d ∷ [])) ≡ suc (length ds) = length-append ds (d ∷ []) ∙ omega arith in
    let put-it : set (ds ++ replicate (suc n) 0) (length ds) d ≡ (ds ++ (d ∷ [])) ++ replicate n 0 =
    set_at ds 0 (replicate n 0) d (length ds) refl ∙ sym (append_assoc ds (d ∷ []) (replicate n 0)) in
    rw (holding-length ds, holding-digits ds bin (omega arith), e, put-it, l)

-- ---- the trace

-- the frame in hand at a place: the digits received from its word on, N at most
pub record Held (row : Row) (ds : List ℕ) (place : ℕ) (f : List ℕ) : Type 0 where
  pub came : row.len + place ≤ length ds
  pub is : f ≡ holding (take row.digits (last_of (row.len + place) ds))

pub record Traced (row : Row) (ds : List ℕ) (s : State) : Type 0 where
  pub valid : Valid row (core_of s)
  pub binary : Binary ds
  -- the window is the last L digits, with zeros before the first digit that came
  pub window : written row.len s.window ≡ last_of row.len (replicate row.len 0 ++ ds)
  pub seen : s.seen ≡ min (length ds) row.len
  pub frame : hunting s.mode ≡ false → Held row ds s.place s.frame

pub aligned-held : (mode : Mode) → aligned mode ≡ true → hunting mode ≡ false
aligned-held Hunting e = sym e
aligned-held OneFound e = refl
aligned-held TwoFound e = refl
aligned-held (Aligned m) e = refl

-- a step's window and digits seen do not depend on the mode
pub step-window : (row : Row) (c : Core) (d : ℕ) → (step_of row c d).window ≡ window_of row c.window d
unfolding step_of after_digit
step-window row c d =
    cond-told (λ (c' : Core). c'.window ≡ window_of row c.window d) (asks row (seen_of row c.seen) c.mode c.place) (λ _. refl) (λ _. refl)

pub step-seen : (row : Row) (c : Core) (d : ℕ) → (step_of row c d).seen ≡ seen_of row c.seen
unfolding step_of after_digit
step-seen row c d =
    cond-told (λ (c' : Core). c'.seen ≡ seen_of row c.seen) (asks row (seen_of row c.seen) c.mode c.place) (λ _. refl) (λ _. refl)

module _ (row : Row) (sh : Shared row) where
  pub traced-fresh : (level : ℕ) → Traced row [] (fresh_state level)
  traced-fresh level =
      record {
        valid = record {
          window = omega (arith, sh.word_fits);
          seen = omega arith;
          missed = omega arith;
          place = omega (arith, sh.word_some, word-within row sh);
          rests = λ _. refl;
          came = λ e. absurd (true≢false e);
        };
        binary = λ i. omega arith;
        window = written-zero row.len ∙ sym start;
        seen = omega arith;
        frame = λ e. absurd (true≢false e);
      }
    where
      start : last_of row.len (replicate row.len 0 ++ []) ≡ replicate row.len 0
      start =
          let l : length (replicate {A = ℕ} row.len 0) ≡ row.len = length-replicate row.len 0 in
          let e : length (replicate {A = ℕ} row.len 0) - row.len ≡ 0 = omega arith in
          rw (append-nil (replicate {A = ℕ} row.len 0), e)

  module _ (ds : List ℕ) (s : State) (t : Traced row ds s) (d : ℕ) (h : d < 2) where
    abbrev more : List ℕ
    more = ds ++ (d ∷ [])

    more-length : length more ≡ suc (length ds)
    more-length = length-append ds (d ∷ []) ∙ omega arith

    pub window_more : written row.len (window_of row s.window d) ≡ last_of row.len (replicate row.len 0 ++ more)
    unfolding window_of
    window_more =
        let zeros = replicate {A = ℕ} row.len 0 in
        let room : row.len ≤ length (zeros ++ ds) = omega (arith, length-append zeros ds, length-replicate {A = ℕ} row.len 0) in
        (recent-more row.len s.window (zeros ++ ds) d (omega (arith, sh.word_some)) h (record { long = room; window = t.window })).window
        ∙ rw (append_assoc zeros ds (d ∷ []))

    pub seen_more : seen_of row s.seen ≡ min (length more) row.len
    unfolding seen_of
    seen_more =
        cond-told (λ (n : ℕ). n ≡ min (length more) row.len) (ltb s.seen row.len)
        (λ e. omega (arith, t.seen, more-length, ltb-true s.seen row.len e))
        (λ e. omega (arith, t.seen, more-length, ltb-false s.seen row.len e))

    -- where the place becomes 0: the last L digits
    begun-held : row.len ≤ seen_of row s.seen → Held row more 0 (begun row (window_of row s.window d))
    unfolding begun
    begun-held n =
        let came : row.len ≤ length more = omega (arith, seen_more) in
        let whole : take row.digits (last_of row.len more) ≡ last_of row.len more =
        take_all row.digits (last_of row.len more) (omega (arith, last-length row.len more came, word-within row sh)) in
        let zero_more : row.len + 0 ≡ row.len = omega arith in
        record {
          came = omega arith;
          is = rw (zero_more, whole, window_more, last-zeros row.len more came);
        }

    -- where the place goes up: one digit more, while there is room in the frame
    up-held : (p : ℕ) (f : List ℕ) → Held row ds p f
        → Held row more (p + 1) (cond (leb (p + 1) (row.digits - row.len)) (put f (row.len - 1 + (p + 1)) d) f)
    up-held p f held =
        cond-told (Held row more (p + 1)) (leb (p + 1) (row.digits - row.len)) (λ e. room (leb-true (p + 1) (row.digits - row.len) e))
        (λ e. full (leb-false (p + 1) (row.digits - row.len) e))
      where
        old : List ℕ
        old = last_of (row.len + p) ds

        old-length : length old ≡ row.len + p
        old-length = last-length (row.len + p) ds held.came

        one_up : row.len + (p + 1) ≡ suc (row.len + p)
        one_up = omega arith

        came : row.len + (p + 1) ≤ length more
        came = omega (arith, more-length, held.came)

        grown : last_of (row.len + (p + 1)) more ≡ old ++ (d ∷ [])
        grown = rw one_up (last_more (row.len + p) ds d held.came)

        room : p + 1 ≤ row.digits - row.len → Held row more (p + 1) (put f (row.len - 1 + (p + 1)) d)
        room fits =
            let place : row.len - 1 + (p + 1) ≡ length old = omega (arith, sh.word_some, old-length) in
            let before : take row.digits old ≡ old = take_all row.digits old (omega (arith, old-length)) in
            let after : take row.digits (old ++ (d ∷ [])) ≡ old ++ (d ∷ []) =
            take_all row.digits (old ++ (d ∷ [])) (omega (arith, old-length, length-append old (d ∷ []))) in
            let now : f ≡ holding old = rw before at held.is in
            record {
              came = came;
              is = rw (grown, after, place, now) (put-more old d (last-binary (row.len + p) ds t.binary) h (omega (arith, old-length, sh.short)));
            }

        full : row.digits - row.len < p + 1 → Held row more (p + 1) f
        full over =
            record {
              came = came;
              is = held.is ∙ rw grown (ap holding (sym (take-append-le row.digits old (d ∷ []) (omega (arith, old-length)))));
            }

    frame-more : hunting (step_of row (core_of s) d).mode ≡ false
        → Held row more (step_of row (core_of s) d).place (keep_of row (step_of row (core_of s) d) d s.frame)
    unfolding step_of after_digit keep_of place_after
    frame-more =
        cond-told (λ (c : Core). hunting c.mode ≡ false → Held row more c.place (keep_of row c d s.frame))
        (asks row (seen_of row s.seen) s.mode s.place)
        (λ e m. rw m (begun-held (asked-came row sh (core_of s) t.valid d e)))
        (λ e m. rw (m, ne_eqb (s.place + 1) 0 (λ q. omega arith)) (up-held s.place s.frame (t.frame m)))

    pub traced-more : Traced row more (after_of row s d)
    unfolding after_of
    traced-more =
        record {
          valid = step-valid row sh (core_of s) t.valid d;
          binary = binary-append ds (d ∷ []) t.binary (one-digit d h);
          window = window-step;
          seen = seen_step;
          frame = frame-more;
        }
      where
        window-step : written row.len (step_of row (core_of s) d).window ≡ last_of row.len (replicate row.len 0 ++ more)
        window-step = rw (step-window row (core_of s) d) window_more

        seen_step : (step_of row (core_of s) d).seen ≡ min (length more) row.len
        seen_step = rw (step-seen row (core_of s) d) seen_more

  -- the trace goes on with every digit
  pub traced-on : (ds es : List ℕ) (s : State) → Traced row ds s → Binary es → Traced row (ds ++ es) (heard row s es)
  unfolding runs.heard
  traced-on ds [] s t bin = rw (append-nil ds) t
  traced-on ds (e ∷ es) s t bin =
      rw (append_assoc ds (e ∷ []) es) at (traced-on (ds ++ (e ∷ [])) es (after_of row s e) (traced-more ds s t e (bin 0)) (λ i. bin (suc i)))

  pub traced : (level : ℕ) (ds : List ℕ) → Binary ds → Traced row ds (since row level ds)
  traced level ds bin = traced-on [] ds (fresh_state level) (traced-fresh level) bin

  -- ---- a frame handed over is the N digits received from its word on, with later bytes zero

  pub handed : (ds : List ℕ) (s : State) → Traced row ds s → ready_of row (core_of s) ≡ true → Handed row ds s.frame
  unfolding ready_of
  handed ds s t e =
      let both = and_both (aligned s.mode) (eqb s.place (row.digits - row.len)) e in
      let held = t.frame (aligned-held s.mode both.0) in
      let at : s.place ≡ row.digits - row.len = eqb-true s.place (row.digits - row.len) both.1 in
      let all : row.len + s.place ≡ row.digits = omega (arith, word-within row sh) in
      let came : row.digits ≤ length ds = omega (arith, held.came) in
      let whole : take row.digits (last_of row.digits ds) ≡ last_of row.digits ds =
      take_all row.digits (last_of row.digits ds) (omega (arith, last-length row.digits ds came)) in
      record { came = came; is = rw (all, whole) at held.is }
