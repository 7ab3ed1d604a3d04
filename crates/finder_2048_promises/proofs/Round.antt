-- A multiframe that was built and is sent over and over is a line of correct frames (specs/Line.antt), wherever it is begun, if no channel, signalling
-- or spare digit makes a false word. So it is found from any start, and as soon as such a line is. And there is one.
use mathlib.Core.Path.{◌≡◌, refl, sym, ap, ◌∙◌}
use mathlib.Core.List.{List}
use Prim.Native.Nat.{ℕ, zero, suc, ◌+◌, ◌-◌, ◌*◌, ◌/◌, ◌%◌, ◌≤◌, ◌<◌}
use native.Mathlib.Omega.{arith}
use lib.ListN.{length, get_or, take, drop, length-drop}
use lib.Seq.{get_or-take, get_or-drop, take_all, length-take-le, ext_get_or}
use Rattle.digits.specs.Digits.{digits_of, tab}
use Rattle.digits.specs.Runs.{heard, Piece, AllLent, digits_in_all, left_by, calls_for_all}
use Rattle.digits.proofs.Laws.{digits-binary, tab-length, tab-at, tab-binary}
use Rattle.multiframe.specs.Calls.{Built}
use Rattle.multiframe.specs.declared.Kind.TheVariants.{Fixed}
use Rattle.multiframe.specs.Multiframe.{with_word, meant, digit_for, multiframe_of}
use Rattle.multiframe.specs.Calls.{built_of, BuildMet}
use Rattle.multiframe.proofs.Told.{kind-word, kind-other}
use Rattle.multiframe.proofs.Places.{made-digit}
use Rattle.finder_2048.specs.declared.State.{State}
use Rattle.finder_2048.specs.Modes.{word, step_of}
use Rattle.finder_2048.specs.Feed.{fresh_state, Valid}
use Rattle.finder_2048_promises.specs.History.{call_of}
use Rattle.finder_2048_promises.specs.Line.{Line, true_place, AlignedAt}
use Rattle.finder_2048_promises.specs.Round.{round_digit, sent_over, NoFalseWord}
use Rattle.finder_2048_promises.proofs.Recovery.{recovers, found-from-fresh, calls-recover}

-- ---- the fixed digits of what is built

module _ (c s x : List ℕ) where
  word-digit : (p q : ℕ) → 1 ≤ q → q < 8 → meant c s x p (get_or with_word q (Fixed 0)) ≡ get_or word (q - 1) 0
  word-digit p zero lo hi = absurd (omega arith)
  word-digit p (suc zero) lo hi = refl
  word-digit p (suc (suc zero)) lo hi = refl
  word-digit p (suc (suc (suc zero))) lo hi = refl
  word-digit p (suc (suc (suc (suc zero)))) lo hi = refl
  word-digit p (suc (suc (suc (suc (suc zero))))) lo hi = refl
  word-digit p (suc (suc (suc (suc (suc (suc zero)))))) lo hi = refl
  word-digit p (suc (suc (suc (suc (suc (suc (suc zero))))))) lo hi = refl
  word-digit p (suc (suc (suc (suc (suc (suc (suc (suc q)))))))) lo hi = absurd (omega arith)

  word-there : (p : ℕ) → p < 4096 → 1 ≤ p % 512 → p % 512 < 8 → digit_for c s x p ≡ get_or word (p % 512 - 1) 0
  word-there p h lo hi =
      let frame : p / 256 ≡ 2 * (p / 512) = omega arith in
      let byte : p / 8 ≡ 64 * (p / 512) = omega arith in
      let e : p % 8 ≡ p % 512 = omega arith in
      rw (kind-word p (rw byte (omega arith)) (rw frame (omega arith)), e) (word-digit p (p % 512) lo hi)

  second-there : (p : ℕ) → p < 4096 → p % 512 ≡ 257 → digit_for c s x p ≡ 1
  second-there p h at =
      let frame : p / 256 ≡ 2 * (p / 512) + 1 = omega arith in
      let byte : p / 8 ≡ 64 * (p / 512) + 32 = omega arith in
      let e : p % 8 ≡ 1 = omega arith in
      rw (kind-other p (rw byte (omega arith)) (λ f. odd (p / 512) (sym (rw frame) ∙ f)), e) refl
    where
      odd : (k : ℕ) → (2 * k + 1) % 2 ≡ 0 → ⊥
      odd k z = omega arith

-- ---- sent over and over

module _ (m : List ℕ) (o n : ℕ) where
  sent-length : length (sent_over m o n) ≡ n
  sent-length = tab-length n o (round_digit m)

  sent-at : (i : ℕ) → i < n → get_or (sent_over m o n) i 0 ≡ round_digit m (o + i)
  sent-at i h = tab-at n o (round_digit m) i h

  -- seven digits of the line are seven of the multiframe
  seven : (i : ℕ) → i + 7 ≤ n → take 7 (drop i (sent_over m o n)) ≡ tab 7 ((o + i) % 4096) (round_digit m)
  seven i room =
      ext_get_or 0 (take 7 (drop i (sent_over m o n))) (tab 7 ((o + i) % 4096) (round_digit m))
      (taken ∙ sym (tab-length 7 ((o + i) % 4096) (round_digit m)))
      (λ j h. each j (omega (arith, taken)))
    where
      taken : length (take 7 (drop i (sent_over m o n))) ≡ 7
      taken = length-take-le 7 (drop i (sent_over m o n)) (omega (arith, length-drop i (sent_over m o n), sent-length))

      each : (j : ℕ) → j < 7 → get_or (take 7 (drop i (sent_over m o n))) j 0 ≡ get_or (tab 7 ((o + i) % 4096) (round_digit m)) j 0
      each j h =
          let there : (o + (i + j)) % 4096 ≡ ((o + i) % 4096 + j) % 4096 = omega arith in
          get_or-take 7 (drop i (sent_over m o n)) j 0 h
          ∙ get_or-drop i (sent_over m o n) j 0
          ∙ sent-at (i + j) (omega arith)
          ∙ ap (λ (q : ℕ). get_or (digits_of m) q 0) there
          ∙ sym (tab-at 7 ((o + i) % 4096) (round_digit m) j h)

-- ---- what is built is such a line

made-line : (c s x : List ℕ) → NoFalseWord (multiframe_of c s x) → (o n : ℕ) → Line o (sent_over (multiframe_of c s x) o n)
made-line c s x clean o n =
    record {
      binary = tab-binary n o (round_digit m) (λ p. digits-binary m (p % 4096));
      words = λ i h lo hi.
          let e : (o + i) % 4096 % 512 ≡ (o + i) % 512 = omega arith in
          at i h ∙ word-there c s x ((o + i) % 4096) (omega arith) (omega (arith, lo)) (omega (arith, hi)) ∙ rw e refl;
      second_digits = λ i h e. at i h ∙ second-there c s x ((o + i) % 4096) (omega arith) (omega (arith, e));
      no_others = λ i room e.
          omega (arith, clean ((o + i) % 4096) (omega arith) (sym (seven m o n i (omega (arith, sent-length m o n))) ∙ e));
    }
  where
    m : List ℕ
    m = multiframe_of c s x

    at : (i : ℕ) → i < length (sent_over m o n) → get_or (sent_over m o n) i 0 ≡ digit_for c s x ((o + i) % 4096)
    at i h = sent-at m o n i (omega (arith, sent-length m o n)) ∙ made-digit c s x ((o + i) % 4096) (omega arith)

-- what an accepted call leaves
module _ (old c s x : List ℕ) (a : Built) (m : List ℕ) (met : BuildMet old c s x a m) (accepted : a.refusal ≡ 0) where
  left_is : m ≡ multiframe_of c s x
  left_is =
      let zero_is : (built_of (length old) (length c) s (length x)).refusal ≡ 0 = sym (ap (λ (b : Built). b.refusal) met.0) ∙ accepted in
      rw zero_is at met.1

  pub built-line : NoFalseWord m → (o n : ℕ) → Line o (sent_over m o n)
  built-line clean o n = rw left_is (made-line c s x (rw left_is at clean) o n)

  -- from any valid state, after at most 2,565 of its digits the finder is aligned at the true place, and stays so
  pub built-recovers : NoFalseWord m → (t : State) → Valid t → (o n : ℕ) → 2565 ≤ n → AlignedAt (true_place o n) (heard step_of t (sent_over m o n))
  built-recovers clean t v o n enough =
      let whole : take n (sent_over m o n) ≡ sent_over m o n = take_all n (sent_over m o n) (omega (arith, sent-length m o n)) in
      rw whole at (recovers t v o (sent_over m o n) (built-line clean o n) n enough (omega (arith, sent-length m o n)))

  -- from a fresh state after at most 1,030
  pub built-found : NoFalseWord m → (o n : ℕ) → 1030 ≤ n → AlignedAt (true_place o n) (heard step_of fresh_state (sent_over m o n))
  built-found clean o n enough =
      let whole : take n (sent_over m o n) ≡ sent_over m o n = take_all n (sent_over m o n) (omega (arith, sent-length m o n)) in
      rw whole at (found-from-fresh o (sent_over m o n) (built-line clean o n) n enough (omega (arith, sent-length m o n)))

  -- the same of the public call: its digits in pieces, fed in turn, each with its rest after a stop
  pub built-calls-recover : NoFalseWord m → (t : State) → Valid t → (ps : List Piece) → AllLent ps → (o n : ℕ) → digits_in_all ps ≡ sent_over m o n → 2565 ≤ n
      → AlignedAt (true_place o n) (left_by call_of t (calls_for_all call_of t ps))
  built-calls-recover clean t v ps lent o n cut enough =
      let size : length (digits_in_all ps) ≡ n = rw cut (sent-length m o n) in
      rw size at (calls-recover t v ps lent o (rw cut (built-line clean o n)) (omega (arith, size)))
