-- Nothing lost: a reading costs nothing exactly where `judge` finds no wrong digit in it. So what is promised of `judge` is promised of the answer that costs nothing.
use Rattle.std.specs.Prelude.{Some}
use mathlib.Core.Path.{◌≡◌, refl, sym, ◌∙◌, ap}
use mathlib.Core.Bool.{Bool, cond, true, false, true≢false, not, ◌&&◌, ◌||◌}
use mathlib.Core.List.{List, []}
use Prim.Native.Nat.{ℕ, zero, ◌+◌, ◌*◌, ◌-◌, ◌/◌, ◌%◌, ◌≤◌, ◌<◌, min}
use native.Mathlib.Omega.{arith}
use native.Mathlib.Decide.{ℕ_discrete}
use native.Mathlib.Nat.{zero-add, div-add-mod'}
use lib.Dec.{eqb, ltb}
use lib.ListN.{length, get_or}
use borrow.Author.Tests.{eq-eqb, eqb-true, ltb-false}
use Rattle.digits.specs.Digits.{digits_of}
use Rattle.digits.proofs.Laws.{digits-length}
use Rattle.digits.proofs.Sums.{sum-zero, sum-all}
use Rattle.table.specs.declared.Row.{Row}
use Rattle.levels.specs.Table.{Shared}
use Rattle.table.specs.Table.{level_of}
use Rattle.levels.specs.Sizes.{frames_of, bad_line, bad_buffer, quarter_of}
use Rattle.levels.proofs.Judged.{unrefused, line-frames}
use Rattle.levels.proofs.Buffers.{quarter-length}
use Rattle.levels.proofs.Counts.{line-count, negative-most}
use Rattle.promises.proofs.Accepted.{shared}
use Rattle.judge.specs.Wrong.{wrong_at, wrong_in, due_at}
use Rattle.judge.specs.Readings as Judge
use Rattle.judge.specs.Verdict.{own_wrong, before_wrong, after_wrong, judgement, bad_pattern, number_of}
use Rattle.judge_promises.specs.Verdicts.{Index, right, late, early, AllAsSent, MadeAt, Question, verdict, JudgeAccepted, wrong_by}
use Rattle.judge_promises.proofs.Fitting.{no_number, four-at, answers}
use Rattle.judge_promises.proofs.Verdicts.{made-fits}
use Rattle.slips.specs.Slips.{lent_from, wrong_of}
use Rattle.verdict_blocks.specs.Blocks.{Block, zero_at, fresh_block, start_of, is_better, better_of}
use Rattle.levels.specs.Order.{has_negative}
use Rattle.verdict_blocks.specs.Readings.{majorities, read_by, counts_by, ran_by, ran_after, own_votes, before_votes, after_votes}
use Rattle.verdict.specs.Feed.{lent_to}
use Rattle.verdict_states.specs.States.{State}
use Rattle.verdict_promises.specs.Worn.{cost_told}
use Rattle.verdict_promises.specs.Fits.{by_index, as_recording}
use Rattle.verdict_promises.specs.Paths.{from_fresh}
use Rattle.verdict_promises.proofs.Cuts.{acts_of, in-columns, frames-of, start-counts, read_length}
use Rattle.verdict_promises.proofs.Blocks.{own_block, none-block, all-block, after_block}
use Rattle.verdict_promises.proofs.Steady.{Alike, ran-alike}
use Rattle.verdict_promises.proofs.Pattern.{lent_at}
use Rattle.verdict_promises.proofs.Right.{Right, right-free, free-right}
use Rattle.verdict_promises.proofs.Worn.{some-counts, at-most-either}

none-or-one : (t : Bool) → ◌≡◌ {A = ℕ} (cond t 0 1) 0 → t ≡ true
none-or-one true e = refl
none-or-one false e = absurd (some e)
  where
    some : ◌≡◌ {A = ℕ} 1 0 → ⊥
    some e = omega arith

-- ---- right beside the digits given, as `judge` counts and as the lanes see it

module _ (sent ds : List ℕ) (room : length ds ≤ length sent) where
  abbrev lent : ℕ → ℕ
  lent = lent_from (zero_at + 0) sent

  digit-lent : (i : ℕ) → i < length ds → lent (i + zero_at) ≡ get_or sent i 0
  digit-lent i h = lent_at (zero_at + 0) sent (i + zero_at) i (omega arith) (omega (arith, room))

  pub counted-right : (counts : ℕ → ℕ) → wrong_in 0 sent ds ≡ 0 → Right lent ds counts (length ds)
  unfolding wrong_in wrong_of due_at
  counted-right counts none i h =
      let k : 0 + i ≡ i = zero-add i in
      let one = sum-zero (length ds - 0) (λ (k : ℕ). wrong_at 0 sent ds (0 + k)) none i (omega arith) in
      let same = eqb-true (get_or ds (0 + i) 0) (get_or sent (0 + i) 0) (none-or-one _ one) in
      rw (eq-eqb (lent (i + zero_at)) (get_or ds i 0) (digit-lent i h ∙ sym (rw k at same))) refl

  pub right-counted : (counts : ℕ → ℕ) → Right lent ds counts (length ds) → wrong_in 0 sent ds ≡ 0
  unfolding wrong_in wrong_of due_at
  right-counted counts all =
      sum-all (length ds - 0) 0 (λ (k : ℕ). wrong_at 0 sent ds (0 + k)) (λ k h. at k (omega arith)) ∙ omega arith
    where
      at : (k : ℕ) → k < length ds → wrong_at 0 sent ds (0 + k) ≡ 0
      at k h =
          let e : 0 + k ≡ k = zero-add k in
          let same = eqb-true (lent (k + zero_at)) (get_or ds k 0) (none-or-one _ (all k h)) in
          rw (e, eq-eqb (get_or ds k 0) (get_or sent k 0) (sym same ∙ digit-lent k h)) refl

-- ---- a reading by some votes

module _ (row : Row) (sh : Shared row) (F : ℕ) (few : F ≤ 144115188075855872) (line buffer : List ℕ) (whole : length line ≡ F * row.bytes) (j : ℕ) (hj : j < 4) (by : List ℕ) where
  abbrev R : List ℕ
  R = read_by row line by j

  abbrev quarter : List ℕ
  quarter = digits_of (quarter_of buffer j)

  abbrev block : Block
  block = ran_by row 0 (lent_to buffer 0 j) line by j (fresh_block 0)

  long : length R ≡ start_of (counts_by row by j) F
  long = read_length row sh j hj by line F (in-columns row sh (length line) F whole)

  is-run : block ≡ from_fresh (lent_to buffer 0 j) R (counts_by row by j) F
  unfolding ran_by
  is-run = ap (from_fresh (lent_to buffer 0 j) R (counts_by row by j)) (frames-of row sh (length line) F whole)

  pub no-wrong-costs : length R ≤ length quarter → wrong_in 0 quarter R ≡ 0 → cost_told block ≡ 0
  no-wrong-costs room none =
      let all = counted-right quarter R room (counts_by row by j) none in
      let free = right-free (lent_to buffer 0 j) R (counts_by row by j) F (λ i h. all i (omega (arith, long))) in
      ap cost_told is-run ∙ ap (λ (x : ℕ). x / 4294967296) free

  pub no-costs-wrong : length R ≤ length quarter → cost_told block ≡ 0 → wrong_in 0 quarter R ≡ 0
  no-costs-wrong room free =
      let all = free-right (lent_to buffer 0 j) R (counts_by row by j) F few (λ f h. some-counts row sh by j f) (ap cost_told (sym is-run) ∙ free) in
      right-counted quarter R room (counts_by row by j) (λ i h. all i (omega (arith, long)))

-- ---- an accepted question to `judge`, with digits that are given

last_of : (a b : Bool) → not a || b ≡ false → b ≡ false
last_of true b e = e
last_of false b e = absurd (true≢false e)

module _ (level : ℕ) (q : Question) (ok : JudgeAccepted level q) (row : Row) (e : level_of level ≡ Some row) (given : q.pattern ≡ 0) where
  abbrev sh : Shared row
  sh = shared level row e

  abbrev F : ℕ
  F = frames_of row (length q.line)

  sizes : (length q.line ≡ F * row.bytes) × ((F ≤ 64) × (F * row.room ≤ 8 * (length q.buffer / 4)))
  unfolding number_of
  sizes =
      let number = no_number level q row e ok in
      let pattern = unrefused (bad_pattern q.pattern) 13 _ (λ z. omega arith) number in
      let two = unrefused (bad_line row (length q.line)) 2 _ (λ z. omega arith) pattern.1 in
      let four = unrefused (eqb q.pattern 0 && bad_buffer row (length q.line) (length q.buffer)) 4 _ (λ z. omega arith) two.1 in
      let whole = line-frames row (length q.line) two.0 in
      let buffer : bad_buffer row (length q.line) (length q.buffer) ≡ false = rw (eq-eqb q.pattern 0 given) at four.0 in
      let room = ltb-false (8 * (length q.buffer / 4)) (F * row.room) (last_of (eqb (length q.buffer % 4) 0) (ltb (8 * (length q.buffer / 4)) (F * row.room)) buffer) in
      (omega (arith, div-add-mod' (length q.line) row.bytes, whole.0), (whole.1, room))

  module _ (j : ℕ) (hj : j < 4) where
    abbrev sent : List ℕ
    sent = digits_of (quarter_of q.buffer j)

    abbrev recording : State
    recording = as_recording row level q

    abbrev ran : List ℕ → Block
    ran by = ran_by row 0 (lent_to q.buffer 0 j) q.line by j (fresh_block 0)

    -- the quarters have room for every reading
    room : (by : List ℕ) → length (read_by row q.line by j) ≤ length sent
    room by =
        let acts = acts_of row by j in
        let count = read_length row sh j hj by q.line F (in-columns row sh (length q.line) F sizes.0) ∙ start-counts row sh j hj by F in
        omega (arith, count, line-count row sh j hj acts F, negative-most row sh acts F, sizes.1.1, digits-length (quarter_of q.buffer j), quarter-length q.buffer j hj)

    abbrev wrong : List ℕ → ℕ
    wrong by = wrong_in 0 sent (read_by row q.line by j)

    none-costs : (by : List ℕ) → wrong by ≡ 0 → cost_told (ran by) ≡ 0
    none-costs by none = no-wrong-costs row sh F (omega (arith, sizes.1.0)) q.line q.buffer sizes.0 j hj by (room by) none

    costs-none : (by : List ℕ) → cost_told (ran by) ≡ 0 → wrong by ≡ 0
    costs-none by free = no-costs-wrong row sh F (omega (arith, sizes.1.0)) q.line q.buffer sizes.0 j hj by (room by) free

    -- of two ways: the fewer wrong digits are none exactly where the better one costs nothing
    better-free : (a b : List ℕ) → min (wrong a) (wrong b) ≡ 0 → cost_told (better_of (ran a) (ran b)) ≡ 0
    better-free a b none =
        let most = at-most-either row sh level q.earlier 16 (λ (k : ℕ). []) q.line (lent_to q.buffer 0) j 0 hj a b in
        elim (ℕ_discrete (wrong a) 0) [
          | yes z ↦ omega (arith, most.0, none-costs a z)
          | no z ↦ omega (arith, most.1, none-costs b (omega arith))
        ]

    free-better : (a b : List ℕ) → cost_told (better_of (ran a) (ran b)) ≡ 0 → min (wrong a) (wrong b) ≡ 0
    free-better a b free = go (is_better (ran a) (ran b)) free
      where
        go : (t : Bool) → cost_told (cond t (ran b) (ran a)) ≡ 0 → min (wrong a) (wrong b) ≡ 0
        go true free = omega (arith, costs-none b free)
        go false free = omega (arith, costs-none a free)

    -- the answer's numbers of `judge`, as wrong digits by votes
    abbrev E : ℕ
    E = q.earlier

    abbrev maj : List ℕ
    maj = majorities row q.line

    said-own : wrong_by right (verdict level q) j ≡ wrong (own_votes E maj)
    unfolding judgement own_wrong read_by Judge.read_by
    said-own = rw (answers level q row e ok) (four-at (own_wrong row E q.line q.pattern q.buffer) j hj ∙ rw given refl)

    said-before : wrong_by late (verdict level q) j ≡ min (wrong (before_votes 0 (cond (has_negative row) E 0) maj)) (wrong (before_votes 15 (cond (has_negative row) E 15) maj))
    unfolding judgement before_wrong read_by Judge.read_by
    said-before = rw (answers level q row e ok) (four-at (before_wrong row E q.line q.pattern q.buffer) j hj ∙ rw given refl)

    said-after : wrong_by early (verdict level q) j ≡ min (wrong (after_votes maj 0)) (wrong (after_votes maj 15))
    unfolding judgement after_wrong read_by Judge.read_by
    said-after = rw (answers level q row e ok) (four-at (after_wrong row q.line q.pattern q.buffer) j hj ∙ rw given refl)

    -- and the recording's blocks
    own-alike : Alike row j F (own_votes (cond (has_negative row) E 0) maj) (own_votes E maj)
    own-alike = record { before = λ n. rw n refl; own = λ f h. refl }

    is-own : recording.blocks j ≡ ran (own_votes E maj)
    is-own =
        own_block row level E 0 q.line 16 (lent_to q.buffer 0) j hj
        ∙ ran-alike row sh j F hj q.line sizes.0 0 (lent_to q.buffer 0 j) (own_votes (cond (has_negative row) E 0) maj) (own_votes E maj) own-alike (fresh_block 0)

    is-before : by_index late recording j ≡ better_of (ran (before_votes 0 (cond (has_negative row) E 0) maj)) (ran (before_votes 15 (cond (has_negative row) E 15) maj))
    is-before = rw (none-block row level E 0 q.line 16 (lent_to q.buffer 0) j hj, all-block row level E 0 q.line 16 (lent_to q.buffer 0) j hj) refl

    is-after : by_index early recording j ≡ better_of (ran (after_votes maj 0)) (ran (after_votes maj 15))
    unfolding ran_after
    is-after = after_block row level E 0 q.line 16 (lent_to q.buffer 0) j hj

    -- a reading costs nothing where `judge` finds no wrong digit in it, and only there
    pub fits-free : (index : Index) → wrong_by index (verdict level q) j ≡ 0 → cost_told (by_index index recording j) ≡ 0
    fits-free right none = ap cost_told is-own ∙ none-costs (own_votes E maj) (sym said-own ∙ none)
    fits-free late none = ap cost_told is-before ∙ better-free _ _ (sym said-before ∙ none)
    fits-free early none = ap cost_told is-after ∙ better-free _ _ (sym said-after ∙ none)

    pub free-fits : (index : Index) → cost_told (by_index index recording j) ≡ 0 → wrong_by index (verdict level q) j ≡ 0
    free-fits right free = said-own ∙ costs-none (own_votes E maj) (ap cost_told (sym is-own) ∙ free)
    free-fits late free = said-before ∙ free-better _ _ (ap cost_told (sym is-before) ∙ free)
    free-fits early free = said-after ∙ free-better _ _ (ap cost_told (sym is-after) ∙ free)

-- so today's theorem is one on cost 0: the line that a right, a late or an early multiplexer made of what was sent, whatever demand 3 allows was damaged, costs nothing by the
-- reading that goes with it
pub made-free : (level : ℕ) (q : Question) (index : Index) (t : ℕ → List ℕ) (ok : JudgeAccepted level q) → q.pattern ≡ 0 → AllAsSent q.pattern q.buffer t
    → MadeAt level index q.earlier t q.line → (row : Row) (e : level_of level ≡ Some row) (j : ℕ) → j < 4 → cost_told (by_index index (as_recording row level q) j) ≡ 0
made-free level q index t ok given sent made row e j hj = fits-free level q ok row e given j hj index (made-fits level q index t ok sent made j hj).none_wrong
