-- Physics: the reading that goes with a multiplexer costs no more than the digits that changed on the way and sixteen times the digits that were lost and doubled before it.
use mathlib.Core.Path.{◌≡◌, refl, sym, ◌∙◌, ap, subst}
use mathlib.Core.Logic.{◌≢◌}
use mathlib.Core.Bool.{Bool, cond, true, false}
use mathlib.Core.List.{List, [], ◌∷◌, ◌++◌, map, append-nil}
use Prim.Native.Nat.{ℕ, zero, suc, ◌+◌, ◌*◌, ◌-◌, ◌/◌, ◌≤◌, ◌<◌}
use native.Mathlib.Omega.{arith}
use native.Mathlib.Decide.{ℕ_discrete}
use native.Mathlib.Nat.{add-zero, suc-mul, mul_left_comm, mul-le-mul_left}
use lib.Dec.{eqb}
use lib.ListN.{length, get_or, drop, length-append, length-map, get_or-append}
use lib.Seq.{get_or-append-add}
use borrow.Author.Tests.{eq-eqb, ne_eqb}
use Rattle.digits.specs.Digits.{digits_of}
use Rattle.digits.specs.Sums.{sum_to}
use Rattle.digits.proofs.Laws.{digits-binary, tab-length}
use Rattle.digits.proofs.Lists.{of_four}
use Rattle.digits.proofs.Sums.{sum_same}
use Rattle.table.specs.declared.Row.{Row}
use Rattle.levels.specs.Table.{Shared}
use Rattle.levels.specs.declared.order.Action.{Action}
use Rattle.levels.specs.declared.vote.Vote.{Vote}
use Rattle.levels.specs.Sizes.{frames_of}
use Rattle.levels.specs.Places.{kind_at, pos_of}
use Rattle.levels.specs.Order.{stuffed, decisions, has_negative, is_stuffed, both_carry, carries, carried, before, places_of}
use Rattle.levels.proofs.Columns.{columns}
use Rattle.levels.proofs.Inverse.{places-length}
use Rattle.reading.specs.Notes.{note_of, notes_of}
use Rattle.extraction.specs.Quarters.{taken_to}
use Rattle.promises.proofs.Order.{column-place, places_same}
use Rattle.promises.proofs.Reading.{decisions-read}
use Rattle.promises.proofs.Sent.{sent-carried}
use Rattle.promises.proofs.Recovered.{group-vote}
use Rattle.judge_promises.specs.Verdicts.{Index, right, late, early, acts_on, acted_line}
use Rattle.judge_promises.proofs.Acted.{carried_other, line-group}
use Rattle.judge_promises.proofs.Readings.{index-alike}
use Rattle.judge_promises.proofs.Acted as Acted
use Rattle.slips.specs.Slips.{wrong_price, step_price, wrong_of, least_of}
use Rattle.verdict_blocks.specs.Blocks.{Block, zero_at, fresh_block, is_better, better_of, digits_to, start_of}
use Rattle.verdict_blocks.specs.Readings.{majorities, read_by, counts_by, ran_by, ran_after, own_votes, before_votes, after_votes}
use Rattle.verdict_promises.specs.Paths.{wrongs_on, slips_on, Path, from_fresh, low_in}
use Rattle.verdict_states.specs.States.{State}
use Rattle.verdict_promises.specs.Steady.{recorded, by_before, by_after}
use Rattle.verdict_promises.specs.Worn.{changed_in, Worn, Along, cost_told, read_count, Explains, Few, tried}
use Rattle.verdict_promises.proofs.Frames.{taken_more}
use Rattle.verdict_promises.proofs.Cuts.{acts_of, in-columns, frames-of, start-counts}
use Rattle.verdict_promises.proofs.Blocks.{own_block, none-block, all-block, after_block}
use Rattle.verdict_promises.proofs.Steady.{Alike, acts-alike, better-both}
use Rattle.verdict_promises.proofs.Least.{least-below, few-path}
use Rattle.verdict_promises.proofs.Runs.{lanes_in, run-known, run-lanes}

-- ---- a frame has some digits of each tributary, stuffed or not

product : (s t m q : ℕ) → s ≡ suc m → t ≡ 4 * q → s * t ≡ 4 * (m * q + q)
product s t m q e g = rw (e, g) (mul_left_comm (suc m) 4 q ∙ ap (λ (k : ℕ). 4 * k) (suc-mul m q))

module _ (row : Row) (sh : Shared row) where
  first-least : 8 ≤ row.first
  first-least =
      elim (ℕ_discrete row.len 10) [
        | yes ten ↦ omega (arith, sh.ten ten)
        | no not-ten ↦
            elim (ℕ_discrete row.len 12) [
              | yes twelve ↦ omega (arith, sh.twelve twelve)
              | no not-twelve ↦ omega (arith, (sh.eight not-ten not-twelve).1)
            ]
      ]

  pub some-digits : 2 ≤ row.n
  some-digits =
      let q = row.set / 4 in
      let m = row.sets - 1 in
      let sets : row.sets ≡ suc m = omega (arith, sh.later_set) in
      let four : row.set ≡ 4 * q = omega (arith, sh.set_fours) in
      let digits : row.digits ≡ 4 * (m * q + q) = sh.whole ∙ product row.sets row.set m q sets four in
      let least : m * 4 ≤ m * q = mul-le-mul_left m (omega (arith, sh.room, first-least, four)) in
      let heads : (row.sets - 2) * (row.middle / 4) ≤ (row.sets - 2) * 2 = mul-le-mul_left (row.sets - 2) (omega (arith, sh.middle_most)) in
      omega (arith, digits, least, heads, sh.counted, sh.last_most, sh.room, sh.later_set, sets)

  pub some-counts : (votes : List ℕ) (j f : ℕ) → 0 < counts_by row votes j f
  unfolding counts_by
  some-counts votes j f = go (is_stuffed (acts_of row votes j f)) (cond (both_carry (acts_of row votes j f)) (row.room - row.n) 0)
    where
      go : (t : Bool) (x : ℕ) → 0 < row.n + x - cond t 1 0
      go true x = omega (arith, some-digits)
      go false x = omega (arith, some-digits)

-- ---- digits read beside a tributary's

-- how many of a list's digits are not the tributary's
abbrev wrong_beside : List ℕ → List ℕ → ℕ
wrong_beside t l = sum_to (length l) (λ (i : ℕ). cond (eqb (get_or t i 0) (get_or l i 0)) 0 1)

added : (a b c d : ℕ) → a ≡ b → c ≡ d → a + c ≡ b + d
added a b c d e g = omega arith

one-beside : (t l : List ℕ) (d : ℕ) → wrong_beside t (l ++ (d ∷ [])) ≡ wrong_beside t l + cond (eqb (get_or t (length l) 0) d) 0 1
unfolding sum_to
one-beside t l d =
    let long : length (l ++ (d ∷ [])) ≡ suc (length l) = length-append l (d ∷ []) ∙ omega arith in
    let last : get_or (l ++ (d ∷ [])) (length l) 0 ≡ d = ap (λ (k : ℕ). get_or (l ++ (d ∷ [])) k 0) (sym (add-zero (length l))) ∙ get_or-append-add l (d ∷ []) 0 0 in
    ap (λ (n : ℕ). sum_to n (λ (i : ℕ). cond (eqb (get_or t i 0) (get_or (l ++ (d ∷ [])) i 0)) 0 1)) long
    ∙ added _ _ _ _
    (sum_same (length l) (λ (i : ℕ). cond (eqb (get_or t i 0) (get_or (l ++ (d ∷ [])) i 0)) 0 1) (λ (i : ℕ). cond (eqb (get_or t i 0) (get_or l i 0)) 0 1)
    (λ i h. ap (λ (x : ℕ). cond (eqb (get_or t i 0) x) 0 1) (get_or-append l (d ∷ []) 0 i h)))
    (ap (λ (x : ℕ). cond (eqb (get_or t (length l) 0) x) 0 1) last)

module _ (row : Row) (sh : Shared row) (acts : ℕ → Action) (j : ℕ) (hj : j < 4) (sent received t : List ℕ) where
  abbrev taken : ℕ → List ℕ
  taken x = map (λ (p : ℕ). get_or received p 0) (places_of row acts j x)

  taken-long : (x : ℕ) → length (taken x) ≡ before row acts j x
  taken-long x = length-map (places_of row acts j x) (λ (p : ℕ). get_or received p 0) ∙ places-length row acts j x

  none-taken : wrong_beside t (taken 0) ≡ 0
  unfolding places_of sum_to
  none-taken = refl

  -- where the sent line carries the tributary's digits in order, the digits read differ from them where a carrying place has changed
  pub beside : (x : ℕ) → ((y : ℕ) → y < x → carries row acts (4 * y + j) ≡ true → get_or sent (4 * y + j) 0 ≡ get_or t (before row acts j y) 0)
      → wrong_beside t (taken x) ≡ changed_in row acts j sent received x
  unfolding changed_in sum_to
  beside zero carry = none-taken
  beside (suc x) carry =
      ap (wrong_beside t) (taken_more row sh 0 acts j hj received acts x)
      ∙ go (carries row acts (4 * x + j)) (carry x (omega arith)) (beside x (λ y h. carry y (omega arith)))
    where
      go : (c : Bool) → (c ≡ true → get_or sent (4 * x + j) 0 ≡ get_or t (before row acts j x) 0) → wrong_beside t (taken x) ≡ changed_in row acts j sent received x
          → wrong_beside t (taken x ++ cond c (get_or received (4 * x + j) 0 ∷ []) [])
          ≡ changed_in row acts j sent received x + cond c (cond (eqb (get_or sent (4 * x + j) 0) (get_or received (4 * x + j) 0)) 0 1) 0
      go true carry old =
          one-beside t (taken x) (get_or received (4 * x + j) 0)
          ∙ added _ _ _ _ old (ap (λ (n : ℕ). cond (eqb n (get_or received (4 * x + j) 0)) 0 1) (ap (λ (k : ℕ). get_or t k 0) (taken-long x) ∙ sym (carry refl)))
      go false carry old = ap (wrong_beside t) (append-nil (taken x)) ∙ old ∙ sym (add-zero (changed_in row acts j sent received x))

-- ---- a worn line

module _ (row : Row) (sh : Shared row) (index : Index) (earlier : ℕ) (tributary : ℕ → List ℕ) (line : List ℕ) (j e : ℕ) (hj : j < 4) (worn : Worn row index earlier tributary line j e) where
  abbrev notes : List ℕ
  notes = worn.notes

  abbrev F : ℕ
  F = length notes

  abbrev X : ℕ
  X = F * columns row

  abbrev votes : List ℕ
  votes = acts_on row index earlier notes worn.unknown

  abbrev sent : List ℕ
  sent = acted_line row earlier notes votes tributary

  abbrev received : List ℕ
  received = digits_of line

  abbrev acts : ℕ → Action
  acts = acts_of row votes j

  frames : frames_of row (length line) ≡ F
  frames = frames-of row sh (length line) F worn.whole

  all-columns : 2 * length line ≡ X
  all-columns = in-columns row sh (length line) F worn.whole

  long : length (majorities row line) ≡ F
  long = tab-length (frames_of row (length line)) 0 (note_of row received) ∙ frames

  -- the decisions that are read are those that were said
  pub said : (f : ℕ) → f < F → decisions (majorities row line) j f ≡ decisions notes j f
  said f hf =
      ap (λ (n : ℕ). decisions (notes_of row received n) j f) frames
      ∙ decisions-read row received (digits-binary line) F f j hf hj
      ∙ ap (λ (v : Vote). v.stuffed)
      (group-vote row sh sent received (digits-binary line) f j (decisions notes j f) (line-group row sh earlier notes votes tributary f j hf hj) (worn.few_controls f hf))

  -- a carrying place was sent with the tributary's next digit
  carry : (y : ℕ) → y < X → carries row acts (4 * y + j) ≡ true → get_or sent (4 * y + j) 0 ≡ get_or (tributary j) (before row acts j y) 0
  unfolding carries
  carry y h c =
      let p = 4 * y + j in
      let inside = column-place row sh F j hj y h in
      Acted.at row sh earlier notes votes tributary p inside
      ∙ rw (carried_other (kind_at row p) (acts (pos_of row p).frame) c) (sent-carried row sh (get_or votes 0 0) (drop 1 votes) tributary F j y hj inside c)

  -- read by votes for which its frames do the same, no more digits are wrong beside the tributary's than changed
  module _ (by : List ℕ) (alike : Alike row j F by votes) where
    abbrev R : List ℕ
    R = read_by row line by j

    is-taken : R ≡ map (λ (p : ℕ). get_or received p 0) (places_of row acts j X)
    unfolding read_by taken_to
    is-taken =
        ap (λ (x : ℕ). map (λ (p : ℕ). get_or received p 0) (places_of row (acts_of row by j) j x)) all-columns
        ∙ ap (map (λ (p : ℕ). get_or received p 0)) (places_same row sh F j hj (acts_of row by j) acts (acts-alike row j F by votes alike) X (omega arith))

    few-wrong : wrong_beside (tributary j) R ≤ e
    few-wrong =
        let all : wrong_beside (tributary j) R ≡ changed_in row acts j sent received X = ap (wrong_beside (tributary j)) is-taken ∙ beside row sh acts j hj sent received (tributary j) X carry in
        let same : changed_in row acts j sent received (2 * length line) ≡ changed_in row acts j sent received X = ap (changed_in row acts j sent received) all-columns in
        omega (arith, all, same, worn.few_digits)

    -- held against what was sent, along a path that the tributary is
    module _ (lent path : ℕ → ℕ) where
      abbrev counts : ℕ → ℕ
      counts = counts_by row by j

      abbrev n : ℕ
      n = start_of counts F

      read-long : length R ≡ n
      read-long =
          ap length is-taken
          ∙ length-map (places_of row acts j X) (λ (p : ℕ). get_or received p 0)
          ∙ ap length (sym (places_same row sh F j hj (acts_of row by j) acts (acts-alike row j F by votes alike) X (omega arith)))
          ∙ places-length row (acts_of row by j) j X
          ∙ sym (start-counts row sh j hj by F)

      pub wrong-along : Along lent (tributary j) path n → wrongs_on lent R path n ≤ e
      unfolding wrongs_on wrong_of
      wrong-along along =
          let same : sum_to n (λ (i : ℕ). cond (eqb (lent (i + path (suc i))) (get_or R i 0)) 0 1) ≡ sum_to n (λ (i : ℕ). cond (eqb (get_or (tributary j) i 0) (get_or R i 0)) 0 1) =
          sum_same n (λ (i : ℕ). cond (eqb (lent (i + path (suc i))) (get_or R i 0)) 0 1) (λ (i : ℕ). cond (eqb (get_or (tributary j) i 0) (get_or R i 0)) 0 1)
          (λ i h. ap (λ (d : ℕ). cond (eqb d (get_or R i 0)) 0 1) (sym (along i h))) in
          let all : sum_to n (λ (i : ℕ). cond (eqb (get_or (tributary j) i 0) (get_or R i 0)) 0 1) ≡ wrong_beside (tributary j) R =
          ap (λ (k : ℕ). sum_to k (λ (i : ℕ). cond (eqb (get_or (tributary j) i 0) (get_or R i 0)) 0 1)) (sym read-long) in
          omega (arith, same, all, few-wrong)

      abbrev low : ℕ → ℕ
      low = low_in lent R counts

      abbrev block : Block
      block = ran_by row 0 lent line by j (fresh_block 0)

      -- so the reading costs no more than e and sixteen times the path's steps
      pub costs-at-most : F ≤ 144115188075855872 → slips_on path n < 4294967296 → Path low counts F path → Along lent (tributary j) path n → cost_told block ≤ e + 16 * slips_on path n
      unfolding ran_by digits_to
      costs-at-most few small is along =
          let same : from_fresh lent R counts F ≡ block = ap (from_fresh lent R counts) (sym frames) in
          let least = least-below lent R low counts F (lanes_in lent R counts) (run-lanes lent R counts F few (λ f h. some-counts row sh by j f)) path is in
          let number : least_of block.lanes ≡ least_of (from_fresh lent R counts F).lanes = ap (λ (b : Block). least_of b.lanes) (sym same) in
          told (least_of block.lanes) (wrongs_on lent R path n) (slips_on path n) (omega (arith, number, least)) (wrong-along along) small
        where
          told : (x w k : ℕ) → x ≤ wrong_price * w + step_price * k → w ≤ e → k < 4294967296 → x / 4294967296 ≤ e + 16 * k
          told x w k h l g = omega arith

      -- with few digits changed and few slips the path cannot leave the lanes
      pub few-inside : F ≤ 144115188075855872 → path 0 ≡ zero_at → Along lent (tributary j) path n → e + 32 * slips_on path n ≤ 143 → Path low counts F path
      unfolding digits_to
      few-inside few begins along small =
          few-path lent R low counts F (lanes_in lent R counts) (run-lanes lent R counts F few (λ f h. some-counts row sh by j f)) path begins e (slips_on path n) (wrong-along along) (omega arith) small

-- ---- the three readings of a recording, fed to a fresh state and held against digits that were sent

module _ (row : Row) (sh : Shared row) (level earlier next : ℕ) (tributary : ℕ → List ℕ) (line : List ℕ) (lent : ℕ → ℕ → ℕ) (j e : ℕ) (hj : j < 4) where
  abbrev recording : State
  recording = recorded row level earlier 0 line next lent

  abbrev ran : List ℕ → Block
  ran by = ran_by row 0 (lent j) line by j (fresh_block 0)

  abbrev maj : List ℕ
  maj = majorities row line

  module _ (index : Index) (worn : Worn row index earlier tributary line j e) (path : ℕ → ℕ) where
    abbrev G : ℕ
    G = length worn.notes

    frames-all : frames_of row (length line) ≡ G
    frames-all = frames-of row sh (length line) G worn.whole

    -- the index's votes, by the majorities and a vote with the bit of the one that nobody said
    by_index : (u : ℕ) → stuffed u j ≡ stuffed worn.unknown j → Alike row j G (acts_on row index earlier maj u) (acts_on row index earlier worn.notes worn.unknown)
    by_index u bit =
        let a = index-alike row j earlier maj worn.notes (long row sh index earlier tributary line j e hj worn) (said row sh index earlier tributary line j e hj worn) u worn.unknown bit index in
        record { before = a.before; own = a.own }

    costs-by : (by : List ℕ) → Alike row j G by (acts_on row index earlier worn.notes worn.unknown) → Explains row line (lent j) j by (tributary j) path → cost_told (ran by) ≤ e + 16 * slips_on path (read_count row line j by)
    costs-by by alike x =
        rw frames-all
        (costs-at-most row sh index earlier tributary line j e hj worn by alike (lent j) path (rw frames-all at x.few_frames) (rw frames-all at x.few_slips) (rw frames-all at x.is_path) (rw frames-all at x.along))

    few-explains : (by : List ℕ) → Alike row j G by (acts_on row index earlier worn.notes worn.unknown) → Few row line (lent j) j by (tributary j) e path
        → Explains row line (lent j) j by (tributary j) path
    few-explains by alike x =
        record {
          few_frames = x.few_frames;
          few_slips = omega (arith, x.few);
          is_path =
              rw frames-all
              (few-inside row sh index earlier tributary line j e hj worn by alike (lent j) path (rw frames-all at x.few_frames) x.begins (rw frames-all at x.along)
              (rw frames-all at x.few));
          along = x.along;
        }

  tried-bit : (t : Bool) → stuffed (tried t) j ≡ t
  tried-bit true = of_four (λ (j : ℕ). stuffed 15 j ≡ true) refl refl refl refl j hj
  tried-bit false = of_four (λ (j : ℕ). stuffed 0 j ≡ false) refl refl refl refl j hj

  -- what was sent is known to every reading, so of two ways the better one costs no more
  known : (by : List ℕ) → (ran by).standing.taken ≡ 1
  unfolding ran_by
  known by = (run-known (lent j) (read_by row line by j) (counts_by row by j) (frames_of row (length line))).taken

  better-known : (a b : List ℕ) → (better_of (ran a) (ran b)).standing.taken ≡ 1
  better-known a b = go (is_better (ran a) (ran b))
    where
      go : (t : Bool) → (cond t (ran b) (ran a)).standing.taken ≡ 1
      go true = known b
      go false = known a

  pub at-most-either : (a b : List ℕ) → (cost_told (better_of (ran a) (ran b)) ≤ cost_told (ran a)) × (cost_told (better_of (ran a) (ran b)) ≤ cost_told (ran b))
  at-most-either a b =
      let both = better-both (ran a) (ran b) in
      let first = both.0.costs (known a ∙ sym (better-known a b)) in
      let second = both.1.costs (known b ∙ sym (better-known a b)) in
      (omega (arith, first), omega (arith, second))

  -- of the two ways of an unknown vote one has its bit
  either : (a b c : List ℕ) (t : Bool) → (t ≡ false → a ≡ c) → (t ≡ true → b ≡ c) → cost_told (better_of (ran a) (ran b)) ≤ cost_told (ran c)
  either a b c true none all = subst (λ (v : List ℕ). cost_told (better_of (ran a) (ran b)) ≤ cost_told (ran v)) (all refl) (at-most-either a b).1
  either a b c false none all = subst (λ (v : List ℕ). cost_told (better_of (ran a) (ran b)) ≤ cost_told (ran v)) (none refl) (at-most-either a b).0

  -- a right multiplexer's line, by the decisions of its own frames
  abbrev pub own_by : List ℕ
  own_by = own_votes (cond (has_negative row) earlier 0) maj

  own-alike : (worn : Worn row right earlier tributary line j e) → Alike row j (length worn.notes) own_by (acts_on row right earlier worn.notes worn.unknown)
  own-alike worn = let a = by_index right worn (λ i. 0) worn.unknown refl in record { before = λ n. rw n refl; own = a.own }

  pub right-costs : (worn : Worn row right earlier tributary line j e) (path : ℕ → ℕ) → Explains row line (lent j) j own_by (tributary j) path
      → cost_told (recording.blocks j) ≤ e + 16 * slips_on path (read_count row line j own_by)
  right-costs worn path x =
      let alike = own-alike worn in
      subst (λ (b : Block). cost_told b ≤ e + 16 * slips_on path (read_count row line j own_by)) (sym (own_block row level earlier 0 line next lent j hj))
      (costs-by right worn path own_by alike x)

  -- a late one's, by those of the frames before: the vote that nobody said is the one that it took
  abbrev pub before_by : Bool → List ℕ
  before_by t = before_votes (tried t) (cond (has_negative row) earlier (tried t)) maj

  pub late-costs : (worn : Worn row late earlier tributary line j e) (path : ℕ → ℕ) → Explains row line (lent j) j (before_by (stuffed worn.unknown j)) (tributary j) path
      → cost_told (by_before recording j) ≤ e + 16 * slips_on path (read_count row line j (before_by (stuffed worn.unknown j)))
  late-costs worn path x =
      let t = stuffed worn.unknown j in
      let way = costs-by late worn path (before_by t) (by_index late worn path (tried t) (tried-bit t)) x in
      let is : by_before recording j ≡ better_of (ran (before_by false)) (ran (before_by true)) =
      rw (none-block row level earlier 0 line next lent j hj, all-block row level earlier 0 line next lent j hj) refl in
      let best : cost_told (by_before recording j) ≤ cost_told (ran (before_by t)) =
      rw is (either (before_by false) (before_by true) (before_by t) t (λ g. ap before_by (sym g)) (λ g. ap before_by (sym g))) in
      omega (arith, best, way)

  -- an early one's, by those of the frames after: at the end of the recording, where the vote after all is unknown, and where it is told
  abbrev pub after_by : ℕ → List ℕ
  after_by x = after_votes maj x

  pub early-costs : next ≡ 16 → (worn : Worn row early earlier tributary line j e) (path : ℕ → ℕ)
      → Explains row line (lent j) j (after_by (tried (stuffed worn.unknown j))) (tributary j) path
      → cost_told (by_after recording j) ≤ e + 16 * slips_on path (read_count row line j (after_by (tried (stuffed worn.unknown j))))
  unfolding ran_after
  early-costs unknown worn path x =
      let t = stuffed worn.unknown j in
      let way = costs-by early worn path (after_by (tried t)) (by_index early worn path (tried t) (tried-bit t)) x in
      let is : by_after recording j ≡ better_of (ran (after_by 0)) (ran (after_by 15)) = after_block row level earlier 0 line next lent j hj ∙ rw (eq-eqb next 16 unknown) refl in
      let best : cost_told (by_after recording j) ≤ cost_told (ran (after_by (tried t))) =
      rw is (either (after_by 0) (after_by 15) (after_by (tried t)) t (λ g. ap (λ (b : Bool). after_by (tried b)) (sym g)) (λ g. ap (λ (b : Bool). after_by (tried b)) (sym g))) in
      omega (arith, best, way)

  pub early-costs-told : next ≢ 16 → (worn : Worn row early earlier tributary line j e) → stuffed next j ≡ stuffed worn.unknown j → (path : ℕ → ℕ)
      → Explains row line (lent j) j (after_by next) (tributary j) path → cost_told (by_after recording j) ≤ e + 16 * slips_on path (read_count row line j (after_by next))
  unfolding ran_after
  early-costs-told told worn bit path x =
      let is : by_after recording j ≡ ran (after_by next) = after_block row level earlier 0 line next lent j hj ∙ rw (ne_eqb next 16 told) refl in
      subst (λ (b : Block). cost_told b ≤ e + 16 * slips_on path (read_count row line j (after_by next))) (sym is)
      (costs-by early worn path (after_by next) (by_index early worn path next bit) x)

  -- ---- and where few digits changed and few slipped nothing more is asked: the path stays in the lanes

  pub right-few : (worn : Worn row right earlier tributary line j e) (path : ℕ → ℕ) → Few row line (lent j) j own_by (tributary j) e path
      → cost_told (recording.blocks j) ≤ e + 16 * slips_on path (read_count row line j own_by)
  right-few worn path x = right-costs worn path (few-explains right worn path own_by (own-alike worn) x)

  pub late-few : (worn : Worn row late earlier tributary line j e) (path : ℕ → ℕ) → Few row line (lent j) j (before_by (stuffed worn.unknown j)) (tributary j) e path
      → cost_told (by_before recording j) ≤ e + 16 * slips_on path (read_count row line j (before_by (stuffed worn.unknown j)))
  late-few worn path x =
      let t = stuffed worn.unknown j in
      late-costs worn path (few-explains late worn path (before_by t) (by_index late worn path (tried t) (tried-bit t)) x)

  pub early-few : next ≡ 16 → (worn : Worn row early earlier tributary line j e) (path : ℕ → ℕ)
      → Few row line (lent j) j (after_by (tried (stuffed worn.unknown j))) (tributary j) e path
      → cost_told (by_after recording j) ≤ e + 16 * slips_on path (read_count row line j (after_by (tried (stuffed worn.unknown j))))
  early-few unknown worn path x =
      let t = stuffed worn.unknown j in
      early-costs unknown worn path (few-explains early worn path (after_by (tried t)) (by_index early worn path (tried t) (tried-bit t)) x)
