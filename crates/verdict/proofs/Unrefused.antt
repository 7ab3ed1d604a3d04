-- A feed that is not refused: what it asks follows from the state's validity, and the state's numbers after it are those of the definition.
use mathlib.Core.Path.{◌≡◌, sym, ◌∙◌, ap}
use mathlib.Core.Bool.{Bool, cond, true, ◌&&◌, not}
use mathlib.Core.List.{List, [], ◌∷◌, ◌++◌}
use Prim.Native.Nat.{ℕ, zero, suc, ◌+◌, ◌-◌, ◌*◌, ◌/◌, ◌%◌, ◌≤◌, ◌<◌}
use native.Mathlib.Omega.{arith}
use mathlib.Core.Logic.{◌≢◌}
use lib.Dec.{eqb, leb, ltb}
use lib.ListN.{length, get_or, set, take, drop, length-drop, take-append-drop}
use lib.Seq.{sets, length-sets, length-take-le, get_or-take, drop-drop}
use borrow.Author.Tests.{leb-true, ltb-false, not-false}
use Rattle.digits.specs.Digits.{tab}
use Rattle.digits.proofs.Laws.{tab-of}
use Rattle.digits.proofs.Tests.{and_both}
use Rattle.table.specs.declared.Row.{Row}
use Rattle.levels.specs.Table.{Shared}
use Rattle.levels.specs.Sizes.{frames_of, bad_line, Framed}
use Rattle.levels.proofs.Judged.{unrefused}
use Rattle.judge.proofs.Accepted.{framed}
use Rattle.judge.specs.Counting.{Voted}
use Rattle.verdict_blocks.specs.Blocks.{Block}
use Rattle.verdict_blocks.specs.Keeping.{block_at}
use Rattle.verdict_blocks.specs.Readings.{majorities}
use Rattle.verdict.specs.Feed.{fed_state, feed_fault, answer_of}
use Rattle.verdict_states.specs.States.{head_of, state_from, numbers_of, bad_pattern, good_head, good_blocks, is_valid, changes_in, vote_ago, State}
use Rattle.verdict_blocks.specs.Going.{Sound, Ready, Running}
use Rattle.verdict.specs.Going.{FedTo, Feedable}
use Rattle.verdict_heads.specs.Heads.{votes_after, changes_after}
use Rattle.patterns.specs.Patterns.{OneOfTwo}
use Rattle.verdict_blocks.proofs.Carried.{sound-less}
use Rattle.verdict_blocks.proofs.Several.{part_of}
use Rattle.verdict_states.proofs.Good.{votes_well, changes_well, head-parts, valid-sound, valid-taken}
use Rattle.verdict_heads.proofs.Heading.{vote-ago, changes-before}
use Rattle.verdict.proofs.Numbers.{state-numbers}
use Rattle.verdict.proofs.Fed.{fed_at, blocks-sound}
use Rattle.verdict.proofs.Numbers.{Whole, blocks-again, answer-again}

-- ---- what a valid state has

four-cases : (P : ℕ → Type 0) → P 0 → P 1 → P 2 → P 3 → (j : ℕ) → j < 4 → P j
four-cases P a b c d zero h = a
four-cases P a b c d (suc zero) h = b
four-cases P a b c d (suc (suc zero)) h = c
four-cases P a b c d (suc (suc (suc zero))) h = d
four-cases P a b c d (suc (suc (suc (suc k)))) h = absurd (none h)
  where
    none : suc (suc (suc (suc k))) < 4 → ⊥
    none l = omega arith

module _ (ns : List ℕ) (size : length ns ≡ 683) (valid : is_valid (state_from ns) ≡ true) where
  head-good : (not (bad_pattern (get_or ns 1 0)) && (leb (get_or ns 2 0) 1 && (votes_well ns && changes_well ns))) ≡ true
  head-good =
      sym (head-parts ns) ∙ (and_both (good_head (state_from ns)) (good_blocks (state_from ns).pattern (state_from ns).blocks 16) valid).0

  votes-changes : (votes_well ns ≡ true) × (changes_well ns ≡ true)
  votes-changes =
      and_both (votes_well ns) (changes_well ns)
      (and_both (leb (get_or ns 2 0) 1) (votes_well ns && changes_well ns)
      (and_both (not (bad_pattern (get_or ns 1 0))) (leb (get_or ns 2 0) 1 && (votes_well ns && changes_well ns)) head-good).1).1

  abbrev low : ℕ → Bool
  low k = leb (get_or ns k 0) 15

  later-votes : (low 4 ≡ true) × ((low 5 && low 6) ≡ true)
  later-votes = and_both (low 4) (low 5 && low 6) (and_both (low 3) (low 4 && (low 5 && low 6)) votes-changes.0).1

  pub last-low : get_or ns 4 0 ≤ 15
  last-low = leb-true (get_or ns 4 0) 15 later-votes.0

  pub last-all-low : get_or ns 6 0 ≤ 15
  last-all-low = leb-true (get_or ns 6 0) 15 (and_both (low 5) (low 6) later-votes.1).1

  abbrev few : ℕ → Bool
  few k = leb (get_or ns k 0) 4611686018427387904

  pub changes-few : (j : ℕ) → j < 4 → get_or ns (7 + j) 0 ≤ 4611686018427387904
  changes-few =
      let one = and_both (few 7) (few 8 && (few 9 && few 10)) votes-changes.1 in
      let two = and_both (few 8) (few 9 && few 10) one.1 in
      let three = and_both (few 9) (few 10) two.1 in
      four-cases (λ (j : ℕ). get_or ns (7 + j) 0 ≤ 4611686018427387904) (leb-true (get_or ns 7 0) 4611686018427387904 one.0)
      (leb-true (get_or ns 8 0) 4611686018427387904 two.0) (leb-true (get_or ns 9 0) 4611686018427387904 three.0)
      (leb-true (get_or ns 10 0) 4611686018427387904 three.1)

  pub valid-ready : (F : ℕ) → F ≤ 64 → (b : ℕ) → b < 16 → Ready (get_or ns 1 0) F (block_at ns b)
  valid-ready F h b hb =
      record {
        sound = sound-less (get_or ns 1 0) 64000 (F * 1000) (block_at ns b) (omega arith) (valid-sound ns size valid b hb);
        known = λ z. valid-taken ns size valid z b hb;
      }

-- ---- a state's first numbers set anew

eleven : (xs : List ℕ) → length xs ≡ 683
    → xs
    ≡ (get_or xs 0 0
    ∷ get_or xs 1 0
    ∷ get_or xs 2 0
    ∷ get_or xs 3 0
    ∷ get_or xs 4 0
    ∷ get_or xs 5 0
    ∷ get_or xs 6 0
    ∷ get_or xs 7 0
    ∷ get_or xs 8 0
    ∷ get_or xs 9 0
    ∷ get_or xs 10 0
    ∷ drop 11 xs)
unfolding tab
eleven xs size =
    let head : take 11 xs ≡ tab 11 0 (λ (k : ℕ). get_or xs k 0) =
    tab-of (take 11 xs) 11 (λ (k : ℕ). get_or xs k 0) (length-take-le 11 xs (omega (arith, size))) (λ i hi. get_or-take 11 xs i 0 hi) in
    sym (take-append-drop 11 xs) ∙ ap (λ (l : List ℕ). l ++ drop 11 xs) head

module _ (xs : List ℕ) (size : length xs ≡ 683) (a b c d p q r s t : ℕ) where
  abbrev anew : List ℕ → List ℕ
  anew l = sets (sets l 7 (a ∷ b ∷ c ∷ d ∷ [])) 2 (p ∷ q ∷ r ∷ s ∷ t ∷ [])

  anew-head : take 11 (anew xs) ≡ (get_or xs 0 0 ∷ get_or xs 1 0 ∷ p ∷ q ∷ r ∷ s ∷ t ∷ a ∷ b ∷ c ∷ d ∷ [])
  anew-head = ap (λ (l : List ℕ). take 11 (anew l)) (eleven xs size)

  anew-rest : drop 11 (anew xs) ≡ drop 11 xs
  anew-rest = ap (λ (l : List ℕ). drop 11 (anew l)) (eleven xs size)

  anew-part : (n : ℕ) → part_of (anew xs) n ≡ part_of xs n
  anew-part n =
      ap (take 42) (sym (drop-drop (42 * n) 11 (anew xs)) ∙ ap (drop (42 * n)) anew-rest ∙ drop-drop (42 * n) 11 xs)

  anew-size : length (anew xs) ≡ 683
  anew-size = length-sets (sets xs 7 (a ∷ b ∷ c ∷ d ∷ [])) 2 (p ∷ q ∷ r ∷ s ∷ t ∷ []) ∙ length-sets xs 7 (a ∷ b ∷ c ∷ d ∷ []) ∙ size

-- ---- the state after the frames

-- the ways of reading leave a state's first numbers
pub fed-same : {ns xs : List ℕ} {g : ℕ → Block} {w : ℕ} → FedTo ns g w xs → (k : ℕ) → k < 11 → get_or xs k 0 ≡ get_or ns k 0
fed-same {ns} {xs} fed k h = sym (get_or-take 11 xs k 0 h) ∙ ap (λ (l : List ℕ). get_or l k 0) fed.head ∙ get_or-take 11 ns k 0 h

module _ (row : Row) (ns line : List ℕ) (behind : ℕ) (lent : ℕ → ℕ → ℕ) (votes xs ys : List ℕ) (few : frames_of row (length line) ≤ 64) (voted : Voted row line votes) (fed : FedTo ns (fed_at row ns line behind lent) 4 xs) (put : ys ≡ sets (sets xs 7 (changes_after xs (get_or xs 2 0) (set votes 0 (get_or xs 4 0)) (frames_of row (length line)))) 2 (votes_after (get_or xs 2 0) (get_or xs 3 0) (get_or xs 4 0) (get_or xs 5 0) (get_or xs 6 0) votes (frames_of row (length line)))) where
  abbrev F : ℕ
  F = frames_of row (length line)

  abbrev notes : List ℕ
  notes = majorities row line

  same : (k : ℕ) → k < 11 → get_or xs k 0 ≡ get_or ns k 0
  same k h = fed-same fed k h

  many : length notes ≡ F
  many = ap length (sym voted.read) ∙ length-take-le F (drop 1 votes) (omega (arith, few, voted.size, length-drop 1 votes))

  older-is : (x y u v : ℕ) → x ≡ u → y ≡ v → get_or (x ∷ y ∷ drop 1 votes) F 0 % 16 ≡ vote_ago u v notes 1
  older-is x y u v ex ey =
      let e : F + 1 - 1 ≡ F = omega arith in
      rw (ex, ey) (rw e at (vote-ago u v votes notes F 1 voted.read many (omega arith)))

  last-is : (x y u v : ℕ) → x ≡ u → y ≡ v → get_or (x ∷ y ∷ drop 1 votes) (F + 1) 0 % 16 ≡ vote_ago u v notes 0
  last-is x y u v ex ey =
      let e : F + 1 - 0 ≡ F + 1 = omega arith in
      rw (ex, ey) (rw e at (vote-ago u v votes notes F 0 voted.read many (omega arith)))

  changes-is : (k j : ℕ) → k < 11
      → get_or xs k 0 + changes_in (get_or xs 2 0) (set votes 0 (get_or xs 4 0)) j F ≡ get_or ns k 0 + changes_in (get_or ns 2 0) (get_or ns 4 0 ∷ notes) j F
  changes-is k j h =
      rw (same k h, same 2 (omega arith), same 4 (omega arith))
      (ap (λ (n : ℕ). get_or ns k 0 + n) (changes-before votes notes (get_or ns 4 0) F (omega (arith, voted.size)) voted.read (get_or ns 2 0) j))

  abbrev vote_at : ℕ → ℕ → ℕ → ℕ
  vote_at x y i = get_or (x ∷ y ∷ drop 1 votes) i 0 % 16

  abbrev changes_at : ℕ → ℕ → ℕ
  changes_at k j = get_or xs k 0 + changes_in (get_or xs 2 0) (set votes 0 (get_or xs 4 0)) j F

  first-numbers : (get_or xs 0 0
      ∷ get_or xs 1 0
      ∷ cond (eqb F 0) (get_or xs 2 0) 1
      ∷ vote_at (get_or xs 3 0) (get_or xs 4 0) F
      ∷ vote_at (get_or xs 3 0) (get_or xs 4 0) (F + 1)
      ∷ vote_at (get_or xs 5 0) (get_or xs 6 0) F
      ∷ vote_at (get_or xs 5 0) (get_or xs 6 0) (F + 1)
      ∷ changes_at 7 0
      ∷ changes_at 8 1
      ∷ changes_at 9 2
      ∷ changes_at 10 3
      ∷ [])
      ≡ head_of (fed_state row (state_from ns) line behind lent)
  unfolding fed_state state_from
  first-numbers =
      let came : cond (eqb F 0) (get_or xs 2 0) 1 ≡ cond (eqb F 0) (get_or ns 2 0) 1 = ap (λ (x : ℕ). cond (eqb F 0) x 1) (same 2 (omega arith)) in
      let older = older-is (get_or xs 3 0) (get_or xs 4 0) (get_or ns 3 0) (get_or ns 4 0) (same 3 (omega arith)) (same 4 (omega arith)) in
      let last = last-is (get_or xs 3 0) (get_or xs 4 0) (get_or ns 3 0) (get_or ns 4 0) (same 3 (omega arith)) (same 4 (omega arith)) in
      let older_all = older-is (get_or xs 5 0) (get_or xs 6 0) (get_or ns 5 0) (get_or ns 6 0) (same 5 (omega arith)) (same 6 (omega arith)) in
      let last_all = last-is (get_or xs 5 0) (get_or xs 6 0) (get_or ns 5 0) (get_or ns 6 0) (same 5 (omega arith)) (same 6 (omega arith)) in
      rw
      (came, older, last, older_all, last_all, changes-is 7 0 (omega arith), changes-is 8 1 (omega arith), changes-is 9 2 (omega arith), changes-is 10 3 (omega arith), same 0 (omega arith), same 1 (omega arith))

  pub fed-numbers : ys ≡ numbers_of (fed_state row (state_from ns) line behind lent)
  unfolding fed_state
  fed-numbers =
      state-numbers ys (fed_state row (state_from ns) line behind lent) (ap length put ∙ anew-size xs fed.size _ _ _ _ _ _ _ _ _)
      (ap (take 11) put ∙ anew-head xs fed.size _ _ _ _ _ _ _ _ _ ∙ first-numbers)
      (λ b hb. ap (λ (l : List ℕ). part_of l b) put ∙ anew-part xs fed.size _ _ _ _ _ _ _ _ _ b ∙ fed.done b hb)

-- ---- what the inner functions ask

pub running : (row : Row) → Shared row → (pattern line size lent base scratch : ℕ) → Framed row line (frames_of row line) → lent ≡ size → size ≡ 4 * (size / 4)
    → frames_of row line * row.room ≤ 8 * (size / 4) → (pattern ≢ 0 → OneOfTwo pattern) → base < 9223372036854775808 → scratch ≡ 128
    → Running row pattern line (frames_of row line) lent base scratch
running row sh pattern line size lent base scratch framed e quarters room known small long =
    rw e
    (record {
      shared = sh;
      accepted = record { framed = framed; quarters = quarters; room = room };
      known = known;
      small = small;
      pattern_room = long;
    })

pub feedable : (row : Row) → Shared row → (ns : List ℕ) (line behind sent : ℕ) → length ns ≡ 683 → feed_fault row (state_from ns) line behind sent ≡ 0
    → Feedable row ns line behind
unfolding feed_fault
feedable row sh ns line behind sent size none =
    let six = unrefused (not (is_valid (state_from ns))) 6 _ (λ z. omega arith) none in
    let two = unrefused (bad_line row line) 2 _ (λ z. omega arith) six.1 in
    let four = unrefused (eqb (state_from ns).pattern 0 && not (eqb (sent % 4) 0)) 4 _ (λ z. omega arith) two.1 in
    let five = unrefused (ltb 16 behind) 5 0 (λ z. omega arith) four.1 in
    record {
      shared = sh;
      size = size;
      valid = not-false (is_valid (state_from ns)) six.0;
      framed = framed row line two.0;
      known = ltb-false 16 behind five.0;
    }

-- ---- the state after the frames, told

module _ (row : Row) (ns line : List ℕ) (behind : ℕ) (lent : ℕ → ℕ → ℕ) (ok : Feedable row ns (length line) behind) where
  abbrev after : State
  after = fed_state row (state_from ns) line behind lent

  after-sound : (b : ℕ) → b < 16 → Sound (get_or ns 1 0) 0 (after.blocks b)
  unfolding fed_state
  after-sound b h =
      blocks-sound row ns line behind lent ok.shared ok.framed.few (valid-ready ns ok.size ok.valid (frames_of row (length line)) ok.framed.few) b h

  after-whole : (b : ℕ) → b < 16 → Whole (after.blocks b)
  after-whole b h = record { lanes = (after-sound b h).room.lanes; marks = (after-sound b h).marked }

  pub after-low : (xs : List ℕ) → xs ≡ numbers_of after → (b : ℕ) → b < 16 → (block_at xs b).standing.low ≤ 4611686018427387904
  after-low xs e b h =
      let same : block_at xs b ≡ after.blocks b = ap (λ (l : List ℕ). block_at l b) e ∙ blocks-again after after-whole b h in
      rw same (omega (arith, (after-sound b h).low_most))

  pub after-told : (xs : List ℕ) → xs ≡ numbers_of after → answer_of (state_from xs) ≡ answer_of after
  after-told xs e = ap (λ (l : List ℕ). answer_of (state_from l)) e ∙ answer-again after after-whole
