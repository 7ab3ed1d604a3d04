-- For each index and each pattern a line is there that the theorems speak of. And the patterns are those of O.150: their first digits after a run of zeros, and no run of zeros
-- is longer than 15 or 23.
use Rattle.std.specs.Prelude.{Some}
use mathlib.Core.Path.{◌≡◌, refl, sym, ◌∙◌, ap, subst}
use mathlib.Core.Logic.{◌≢◌}
use mathlib.Core.Bool.{Bool, cond, true, false}
use mathlib.Core.List.{List, [], ◌∷◌, ◌++◌}
use Prim.Native.Nat.{ℕ, zero, suc, ◌+◌, ◌*◌, ◌-◌, ◌/◌, ◌%◌, ◌≤◌, ◌<◌}
use native.Mathlib.Omega.{arith}
use native.Mathlib.Decide.{dec_lt, ℕ_discrete}
use native.Mathlib.Nat.{add-zero, mul_left_comm}
use lib.Dec.{eqb}
use lib.ListN.{length, get_or, drop, replicate, length-append, length-replicate, get_or-append}
use lib.Seq.{get_or-append-add}
use lib.Arith.{digits_div, digits_mod}
use borrow.Author.Tests.{ne_eqb, le-ltb}
use Rattle.digits.specs.Digits.{digits_of, tab, Binary}
use Rattle.digits.proofs.Laws.{tab-length, tab-binary, binary-append, digits-of-bytes, bytes-length}
use Rattle.digits.proofs.Lists.{differing-self}
use Rattle.table.specs.declared.Row.{Row}
use Rattle.table.specs.Table.{level_of}
use Rattle.levels.specs.Table.{Shared}
use Rattle.levels.specs.Sizes.{frames_of}
use Rattle.levels.specs.Faults.{bad_earlier}
use Rattle.levels.proofs.Positions.{in_frame}
use Rattle.levels.specs.Places.{kind_at}
use Rattle.levels.specs.Line.{line_digit}
use Rattle.promises.specs.Damage.{group_at, Damage}
use Rattle.promises.specs.Carried.{Room}
use Rattle.promises.proofs.RoundTrip.{line_small}
use Rattle.promises.proofs.Accepted.{shared}
use Rattle.workbench.specs.Bench.{is_control}
use Rattle.judge.specs.Wrong.{stage_of, made_from, due_at}
use Rattle.judge.specs.Verdict.{judgement, bad_pattern, number_of}
use Rattle.judge_promises.specs.Verdicts.{Index, acts_on, acted_digit, acted_line, Made, AsSent, Question}
use Rattle.judge_promises.specs.Shown.{made_line, grown, from_zeros, Shown, Zeros}
use Rattle.judge_promises.proofs.Fitting.{stage-least}

-- ---- the line of a multiplexer

module _ (row : Row) (sh : Shared row) where
  some_bytes : 0 < row.bytes
  some_bytes = omega (arith, sh.packed, digits-some)
    where
      digits-some : 0 < row.digits
      digits-some = omega (arith, in_frame row sh 0 0 (omega (arith, sh.later_set)) (omega (arith, sh.room)))

  pub whole-frames : (n F : ℕ) → n ≡ F * row.bytes → frames_of row n ≡ F
  whole-frames n F e = ap (λ (k : ℕ). k / row.bytes) (e ∙ sym (add-zero (F * row.bytes))) ∙ digits_div F some_bytes

module _ (row : Row) (sh : Shared row) (index : Index) (earlier : ℕ) (notes : List ℕ) (unknown : ℕ) (t : ℕ → List ℕ) (binary : (j : ℕ) → j < 4 → Binary (t j)) where
  abbrev F : ℕ
  F = length notes

  abbrev votes : List ℕ
  votes = acts_on row index earlier notes unknown

  abbrev line : List ℕ
  line = acted_line row earlier notes votes t

  acted-small : (p : ℕ) → acted_digit row earlier notes votes t p < 2
  unfolding acted_digit
  acted-small p = go (is_control (kind_at row p))
    where
      go : (c : Bool) → cond c (line_digit row earlier notes t p) (line_digit row (get_or votes 0 0) (drop 1 votes) t p) < 2
      go true = line_small row earlier notes t binary p
      go false = line_small row (get_or votes 0 0) (drop 1 votes) t binary p

  line-digits : Binary line
  line-digits = tab-binary (F * row.digits) 0 (acted_digit row earlier notes votes t) acted-small

  line-long : length line ≡ F * row.digits
  line-long = tab-length (F * row.digits) 0 (acted_digit row earlier notes votes t)

  pub bytes_back : digits_of (made_line row index earlier notes unknown t) ≡ line
  bytes_back =
      digits-of-bytes (F * row.bytes) line line-digits (line-long ∙ ap (λ (k : ℕ). F * k) sh.packed ∙ mul_left_comm F 8 row.bytes)

  pub line-bytes : length (made_line row index earlier notes unknown t) ≡ F * row.bytes
  line-bytes = bytes-length (F * row.bytes) line

  pub line-frames : frames_of row (length (made_line row index earlier notes unknown t)) ≡ F
  line-frames = whole-frames row sh (length (made_line row index earlier notes unknown t)) F line-bytes

  pub line_whole : length (made_line row index earlier notes unknown t) % row.bytes ≡ 0
  line_whole = ap (λ (k : ℕ). k % row.bytes) (line-bytes ∙ sym (add-zero (F * row.bytes))) ∙ digits_mod F (some_bytes row sh)

  -- a right, a late and an early multiplexer have made it, of these digits, and nothing was changed
  pub made-shown : Room row F t → Made row index earlier t (made_line row index earlier notes unknown t)
  made-shown room =
      record {
        notes = notes;
        unknown = unknown;
        frames = sym line-frames;
        room = room;
        damage =
            subst (λ (ds : List ℕ). Damage row (get_or votes 0 0) (drop 1 votes) F line ds) (sym bytes_back)
            (record {
              digits = line-digits;
              size = line-long;
              others_kept = λ p h free. refl;
              few_controls = λ f j hf hj. omega (arith, differing-self (group_at row line f j));
            });
      }

-- ---- a pattern's digits

module _ (pattern : ℕ) (some : pattern ≢ 0) (first : List ℕ) (long : length first ≡ pattern) where
  pub grown-length : (n : ℕ) → length (grown pattern first n) ≡ pattern + n
  unfolding grown
  grown-length zero = long ∙ sym (add-zero pattern)
  grown-length (suc n) = length-append (grown pattern first n) (made_from pattern (grown pattern first n) (length (grown pattern first n)) ∷ []) ∙ omega (arith, grown-length n)

  -- what is made of the digits before is made of no others
  module _ (es : List ℕ) (x i : ℕ) (enough : pattern ≤ i) (inside : i ≤ length es) where
    made-same : made_from pattern (es ++ (x ∷ [])) i ≡ made_from pattern es i
    made-same =
        let a = get_or-append es (x ∷ []) 0 (i - stage_of pattern) (omega (arith, stage-least pattern some, some-stages)) in
        let b = get_or-append es (x ∷ []) 0 (i - pattern) (omega (arith, some-stages)) in
        rw (a, b) refl
      where
        some-stages : 0 < pattern
        some-stages =
            elim (ℕ_discrete pattern 0) [
              | yes z ↦ absurd (some z)
              | no z ↦ omega (arith, z)
            ]

  grown-meets : (n i : ℕ) → pattern ≤ i → i < length (grown pattern first n) → get_or (grown pattern first n) i 0 ≡ made_from pattern (grown pattern first n) i
  unfolding grown
  grown-meets zero i low h = absurd (none (omega (arith, long)))
    where
      none : i < i → ⊥
      none l = omega arith
  grown-meets (suc n) i low h =
      let es = grown pattern first n in
      let x = made_from pattern es (length es) in
      let within : i ≤ length es = omega (arith, length-append es (x ∷ [])) in
      elim (dec_lt i (length es)) [
        | yes l ↦ get_or-append es (x ∷ []) 0 i l ∙ grown-meets n i low l ∙ sym (made-same es x i low within)
        | no l ↦
            let e : i ≡ length es = omega arith in
            let k : i ≡ length es + 0 = omega arith in
            ap (λ (p : ℕ). get_or (es ++ (x ∷ [])) p 0) k ∙ get_or-append-add es (x ∷ []) 0 0 ∙ ap (made_from pattern es) (sym e) ∙ sym (made-same es x i low within)
      ]

  -- they meet the recurrence
  pub grown-as-sent : (sent : List ℕ) (n : ℕ) → AsSent pattern sent (grown pattern first n)
  unfolding due_at
  grown-as-sent sent n i low h = rw (ne_eqb pattern 0 some) (grown-meets n i low h)

  grown-binary : Binary first → (n : ℕ) → Binary (grown pattern first n)
  unfolding grown
  grown-binary bin zero = bin
  grown-binary bin (suc n) = binary-append (grown pattern first n) (x n ∷ []) (grown-binary bin n) (single (x n) (bit (eqb (get_or (grown pattern first n) (length (grown pattern first n) - stage_of pattern) 0) (get_or (grown pattern first n) (length (grown pattern first n) - pattern) 0))))
    where
      x : ℕ → ℕ
      x n = made_from pattern (grown pattern first n) (length (grown pattern first n))

      bit : (t : Bool) → cond {A = ℕ} t 1 0 < 2
      bit true = omega arith
      bit false = omega arith

      single : (d : ℕ) → d < 2 → Binary (d ∷ [])
      single d h zero = h
      single d h (suc i) = omega arith

-- ---- the patterns themselves

-- no run of zeros is longer than the pattern has stages: a one comes after it, whatever the digits were before
pub one-after-zeros : (pattern : ℕ) → pattern ≢ 0 → stage_of pattern ≤ pattern → (sent ds : List ℕ) → AsSent pattern sent ds → (a : ℕ) → a + pattern < length ds → Zeros ds a pattern
    → get_or ds (a + pattern) 0 ≡ 1
unfolding due_at
one-after-zeros pattern some stages sent ds meets a h zeros =
    let due : get_or ds (a + pattern) 0 ≡ made_from pattern ds (a + pattern) = rw (ne_eqb pattern 0 some) at (meets (a + pattern) (omega arith) h) in
    let last : get_or ds (a + pattern - pattern) 0 ≡ 0 = let e : a + pattern - pattern ≡ a + 0 = omega arith in ap (λ (p : ℕ). get_or ds p 0) e ∙ zeros 0 (omega (arith, stages, stage-least pattern some)) in
    let stage : get_or ds (a + pattern - stage_of pattern) 0 ≡ 0 =
    let e : a + pattern - stage_of pattern ≡ a + (pattern - stage_of pattern) = omega (arith, stages) in
    ap (λ (p : ℕ). get_or ds p 0) e ∙ zeros (pattern - stage_of pattern) (omega (arith, stages, stage-least pattern some)) in
    due ∙ rw (stage, last) refl

-- worked digits: after fifteen zeros fourteen ones, a zero, and thirteen ones
pub digits-of-15 : from_zeros 15 45
    ≡ 0 ∷ 0 ∷ 0 ∷ 0 ∷ 0 ∷ 0 ∷ 0 ∷ 0 ∷ 0 ∷ 0 ∷ 0 ∷ 0 ∷ 0 ∷ 0 ∷ 0 ∷ 1 ∷ 1 ∷ 1 ∷ 1 ∷ 1 ∷ 1 ∷ 1 ∷ 1 ∷ 1 ∷ 1 ∷ 1 ∷ 1 ∷ 1 ∷ 1 ∷ 0
    ∷ 1 ∷ 1 ∷ 1 ∷ 1 ∷ 1 ∷ 1 ∷ 1 ∷ 1 ∷ 1 ∷ 1 ∷ 1 ∷ 1 ∷ 1 ∷ 0 ∷ 0 ∷ 1 ∷ 1 ∷ 1 ∷ 1 ∷ 1 ∷ 1 ∷ 1 ∷ 1 ∷ 1 ∷ 1 ∷ 1 ∷ 1 ∷ 0 ∷ 1 ∷ 0 ∷ []
unfolding grown
digits-of-15 = refl

-- after twenty-three zeros eighteen ones, five zeros, and thirteen ones
pub digits-of-23 : from_zeros 23 37
    ≡ 0 ∷ 0 ∷ 0 ∷ 0 ∷ 0 ∷ 0 ∷ 0 ∷ 0 ∷ 0 ∷ 0 ∷ 0 ∷ 0 ∷ 0 ∷ 0 ∷ 0 ∷ 0 ∷ 0 ∷ 0 ∷ 0 ∷ 0 ∷ 0 ∷ 0 ∷ 0 ∷ 1 ∷ 1 ∷ 1 ∷ 1 ∷ 1 ∷ 1 ∷ 1
    ∷ 1 ∷ 1 ∷ 1 ∷ 1 ∷ 1 ∷ 1 ∷ 1 ∷ 1 ∷ 1 ∷ 1 ∷ 1 ∷ 0 ∷ 0 ∷ 0 ∷ 0 ∷ 0 ∷ 1 ∷ 1 ∷ 1 ∷ 1 ∷ 1 ∷ 1 ∷ 1 ∷ 1 ∷ 1 ∷ 1 ∷ 1 ∷ 1 ∷ 1 ∷ 0 ∷ []
unfolding grown
digits-of-23 = refl

-- ---- a line for each index and each pattern

zeros-binary : (n : ℕ) → Binary (replicate {A = ℕ} n 0)
zeros-binary zero i = omega arith
zeros-binary (suc n) zero = omega arith
zeros-binary (suc n) (suc i) = zeros-binary n i

module _ (level : ℕ) (row : Row) (e : level_of level ≡ Some row) (index : Index) (pattern : ℕ) (some : pattern ≢ 0) (known : bad_pattern pattern ≡ false) (earlier : ℕ)
    (fits : bad_earlier row earlier ≡ false) (notes : List ℕ) (few : length notes ≤ 64) (unknown : ℕ) where
  abbrev sh : Shared row
  sh = shared level row e

  abbrev of : ℕ → List ℕ
  of j = from_zeros pattern (length notes * row.room)

  binary : (j : ℕ) → j < 4 → Binary (of j)
  binary j hj = grown-binary pattern some (replicate {A = ℕ} pattern 0) (length-replicate pattern 0) (zeros-binary pattern) (length notes * row.room)

  abbrev made-of : List ℕ
  made-of = made_line row index earlier notes unknown of

  abbrev asked : Question
  asked = record { earlier = earlier; line = made-of; pattern = pattern; buffer = [] }

  no_number : number_of row earlier (length made-of) pattern 0 ≡ 0
  unfolding number_of
  no_number =
      rw (
        known,
        line_whole row sh index earlier notes unknown of binary,
        line-frames row sh index earlier notes unknown of binary,
        le-ltb 64 (length notes) few,
        ne_eqb pattern 0 some,
        fits,
      )
      refl

  pub shown : Shown level index pattern earlier
  unfolding judgement
  shown =
      record {
        question = asked;
        tributary = of;
        same_pattern = refl;
        accepted = rw (e, no_number) refl;
        as_sent = λ j hj. grown-as-sent pattern some (replicate {A = ℕ} pattern 0) (length-replicate pattern 0) _ (length notes * row.room);
        made =
            rw e
            (made-shown row sh index earlier notes unknown of binary
            (λ j hj. omega (arith, grown-length pattern some (replicate {A = ℕ} pattern 0) (length-replicate pattern 0) (length notes * row.room))));
      }
