-- The late multiplexer of the workbench is one that is late: its line, which has the control digits of the notes and all other digits of the notes moved by a frame, is made so.
use mathlib.Core.Path.{◌≡◌, refl, sym, ◌∙◌, ap, subst}
use mathlib.Core.Bool.{Bool, cond, true, false}
use mathlib.Core.List.{List, ◌∷◌}
use Prim.Native.Nat.{ℕ, zero, ◌+◌, ◌*◌, ◌/◌, ◌%◌, ◌^◌, ◌<◌}
use native.Mathlib.Omega.{arith}
use native.Mathlib.Nat.{zero-add, mul_left_comm}
use lib.Dec.{eqb}
use lib.ListN.{length, get_or, take, drop}
use lib.Seq.{get_or-take}
use borrow.Author.Tests.{lt-ltb}
use Rattle.digits.specs.Digits.{digits_of, tab, Binary, differing}
use Rattle.digits.proofs.Laws.{digits-binary, bytes-length, digits-of-bytes, tab-length, tab-at, tab-binary}
use Rattle.digits.proofs.Lists.{differing-self, of_four}
use Rattle.table.specs.declared.Row.{Row}
use Rattle.levels.specs.Table.{Shared}
use Rattle.levels.specs.Places.{kind_at, pos_of}
use Rattle.levels.specs.Order.{stuffed, decisions, has_negative, actions, carries, carried, before}
use Rattle.levels.proofs.Positions.{pos-of-sum}
use Rattle.levels.proofs.Ways.{kind-control}
use Rattle.levels.proofs.Groups.{group-same}
use Rattle.levels.proofs.Columns.{columns, frame-start}
use Rattle.levels.specs.Line.{line_digit, line_of}
use Rattle.tally.proofs.Sums.{kind-in-frame}
use Rattle.promises.specs.Damage.{kept, group_at, line_digits}
use Rattle.promises.specs.Carried.{Room}
use Rattle.promises.proofs.Accepted.{line-digits}
use Rattle.promises.proofs.Order.{column-place, carries_same, before_same}
use Rattle.promises.proofs.Recovered.{kept-carries}
use Rattle.promises.proofs.Sent.{in_line, control-place, sent-group, sent-carried}
use Rattle.workbench.specs.Bench.{is_control, mixed, mixed_line, decided_by, delayed}
use Rattle.judge_promises.specs.Verdicts.{late, acts_on, acted_line, Made}
use Rattle.judge_promises.proofs.Acted.{carried_other, line-group, at}
use Rattle.judge_promises.proofs.Readings.{Alike, acts-alike}
use Rattle.judge_promises.proofs.Shown.{whole-frames}

-- a late note decides as the note before it
bits-by : (last note j : ℕ) → j < 4 → decided_by last note / 2 ^ j % 2 ≡ last / 2 ^ j % 2
bits-by last note = of_four (λ (j : ℕ). decided_by last note / 2 ^ j % 2 ≡ last / 2 ^ j % 2) (omega arith) (omega arith) (omega arith) (omega arith)

pub decided-by : (last note j : ℕ) → j < 4 → stuffed (decided_by last note) j ≡ stuffed last j
decided-by last note j hj = ap (λ (d : ℕ). eqb d 1) (bits-by last note j hj)

module _ (row : Row) (sh : Shared row) (earlier first : ℕ) (notes moved : List ℕ) (t : ℕ → List ℕ) (binary : (j : ℕ) → j < 4 → Binary (t j)) (room : Room row (length notes) t)
    (decides : (f j : ℕ) → f < length notes → j < 4 → decisions moved j f ≡ decisions (first ∷ notes) j f) where
  abbrev F : ℕ
  F = length notes

  abbrev bytes : ℕ
  bytes = F * row.bytes

  -- the right multiplexer's line, and that of the notes moved by a frame
  abbrev said : List ℕ
  said = line_of row earlier notes t bytes

  abbrev acted : List ℕ
  acted = line_of row earlier moved t bytes

  -- the bench's line
  abbrev pub bench_line : List ℕ
  bench_line = mixed_line row said acted

  places : 8 * bytes ≡ F * row.digits
  places = mul_left_comm 8 F row.bytes ∙ ap (λ (k : ℕ). F * k) (sym sh.packed)

  acted-bytes : length acted ≡ bytes
  acted-bytes = bytes-length bytes (tab (8 * bytes) 0 (line_digit row earlier moved t))

  mixed-small : (p : ℕ) → mixed row (digits_of said) (digits_of acted) p < 2
  unfolding mixed
  mixed-small p = go (is_control (kind_at row (p % row.digits)))
    where
      go : (c : Bool) → cond c (get_or (digits_of said) p 0) (get_or (digits_of acted) p 0) < 2
      go true = digits-binary said p
      go false = digits-binary acted p

  line-is : digits_of bench_line ≡ tab (F * row.digits) 0 (mixed row (digits_of said) (digits_of acted))
  line-is =
      let g = mixed row (digits_of said) (digits_of acted) in
      digits-of-bytes (length acted) (tab (8 * length acted) 0 g) (tab-binary (8 * length acted) 0 g mixed-small) (tab-length (8 * length acted) 0 g)
      ∙ ap (λ (n : ℕ). tab n 0 g) (ap (λ (k : ℕ). 8 * k) acted-bytes ∙ places)

  -- its digits: the control digits of the one, the other digits of the other
  digit-is : (p : ℕ) → p < F * row.digits
      → get_or (digits_of bench_line) p 0 ≡ cond (is_control (kind_at row p)) (get_or (line_digits row earlier notes t F) p 0) (get_or (line_digits row earlier moved t F) p 0)
  unfolding mixed
  digit-is p h =
      ap (λ (ds : List ℕ). get_or ds p 0) line-is
      ∙ tab-at (F * row.digits) 0 (mixed row (digits_of said) (digits_of acted)) p h
      ∙ rw (zero-add p, kind-in-frame row sh p, line-digits row earlier notes t binary bytes F places, line-digits row earlier moved t binary bytes F places) refl

  -- what it acts on: in frame 0 a vote that no frame of the line said, then those of the frame before
  abbrev unknown : ℕ
  unknown = cond (has_negative row) earlier first

  abbrev votes : List ℕ
  votes = acts_on row late first notes unknown

  abbrev sent : List ℕ
  sent = acted_line row first notes votes t

  second-vote : (b : Bool) → has_negative row ≡ b → cond b first unknown ≡ first
  second-vote true n = refl
  second-vote false n = rw n refl

  -- that is what the moved notes make its frames do
  alike : (j : ℕ) → j < 4 → Alike row j F (earlier ∷ moved) votes
  alike j hj =
      record {
        before = λ n. rw n refl;
        own =
            λ f h.
            decides f j h hj
            ∙ ap (λ (x : ℕ). stuffed (get_or (x ∷ notes) f 0) j) (sym (second-vote (has_negative row) refl))
            ∙ sym (ap (λ (k : ℕ). stuffed k j) (get_or-take F (cond (has_negative row) first unknown ∷ notes) f 0 h));
      }

  acts-same : (j : ℕ) → j < 4 → (f : ℕ) → f < F → actions row earlier moved j f ≡ actions row (get_or votes 0 0) (drop 1 votes) j f
  acts-same j hj f h = acts-alike row j F (earlier ∷ moved) votes (alike j hj) f h

  -- so a place that carries a digit carries the same one
  carries-it : (j x : ℕ) → j < 4 → x < F * columns row → carries row (actions row (get_or votes 0 0) (drop 1 votes) j) (4 * x + j) ≡ true → get_or (digits_of bench_line) (4 * x + j) 0 ≡ get_or sent (4 * x + j) 0
  unfolding carries
  carries-it j x hj hx c =
      let p = 4 * x + j in
      let inside : p < F * row.digits = column-place row sh F j hj x hx in
      let d = actions row earlier moved j in
      let e = actions row (get_or votes 0 0) (drop 1 votes) j in
      let other = carried_other (kind_at row p) (e (pos_of row p).frame) c in
      let same : carries row d p ≡ true = carries_same row sh F j hj d e (acts-same j hj) x hx ∙ c in
      let ours : get_or (digits_of bench_line) p 0 ≡ get_or (t j) (before row d j x) 0 = digit-is p inside ∙ rw other (sent-carried row sh earlier moved t F j x hj inside same) in
      let theirs : get_or sent p 0 ≡ get_or (t j) (before row e j x) 0 =
      at row sh first notes votes t p inside ∙ rw other (sent-carried row sh (get_or votes 0 0) (drop 1 votes) t F j x hj inside c) in
      ours ∙ ap (λ (k : ℕ). get_or (t j) k 0) (before_same row sh F j hj d e (acts-same j hj) x (omega arith)) ∙ sym theirs

  -- its control groups are those of the notes
  groups : (f j : ℕ) → f < F → j < 4 → group_at row (digits_of bench_line) f j ≡ group_at row sent f j
  groups f j hf hj =
      group-same (digits_of bench_line) (f * row.digits + (row.set + j)) row.set (line_digits row earlier notes t F) row.control one
      ∙ sent-group row sh earlier notes t F f j hf hj
      ∙ sym (line-group row sh first notes votes t f j hf hj)
    where
      one : (i : ℕ) → i < row.control
          → get_or (digits_of bench_line) (f * row.digits + (row.set + j) + i * row.set) 0 ≡ get_or (line_digits row earlier notes t F) (f * row.digits + (row.set + j) + i * row.set) 0
      one i hi =
          let p = f * row.digits + (row.set + j) + i * row.set in
          let place : p ≡ f * row.digits + ((i + 1) * row.set + j) = control-place row sh f j i in
          let hs : i + 1 < row.sets = omega (arith, sh.group) in
          let hr : j < row.set = omega (arith, sh.room) in
          digit-is p (in_line row sh f (i + 1) j p place hs hr F hf) ∙ rw (pos-of-sum row sh p f (i + 1) j place hs hr, kind-control row sh (i + 1) (omega arith) j hj) refl

  kept-place : (p : ℕ) → p < F * row.digits → carried (kind_at row p) (actions row (get_or votes 0 0) (drop 1 votes) (p % 4) (pos_of row p).frame) ≡ true
      → get_or (digits_of bench_line) p 0 ≡ get_or sent p 0
  unfolding carries
  kept-place p h c =
      let j = p % 4 in
      let it : 4 * (p / 4) + p % 4 ≡ p = omega arith in
      let hx : p / 4 < F * columns row = omega (arith, frame-start row sh 0 (omega arith) F) in
      subst (λ (q : ℕ). get_or (digits_of bench_line) q 0 ≡ get_or sent q 0) it
      (carries-it (p % 4) (p / 4) (omega arith) hx (subst (λ (q : ℕ). carried (kind_at row q) (actions row (get_or votes 0 0) (drop 1 votes) (p % 4) (pos_of row q).frame) ≡ true) (sym it) c))

  pub bench-late : Made row late first t bench_line
  bench-late =
      record {
        notes = notes;
        unknown = unknown;
        frames = sym (whole-frames row sh (length bench_line) F (bytes-length (length acted) (tab (8 * length acted) 0 (mixed row (digits_of said) (digits_of acted))) ∙ acted-bytes));
        room = room;
        damage =
            record {
              digits = digits-binary bench_line;
              size = ap length line-is ∙ tab-length (F * row.digits) 0 (mixed row (digits_of said) (digits_of acted));
              others_kept = λ p h free. kept-place p h (kept-carries (kind_at row p) (actions row (get_or votes 0 0) (drop 1 votes) (p % 4) (pos_of row p).frame) free);
              few_controls = λ f j hf hj. rw (groups f j hf hj) (omega (arith, differing-self (group_at row sent f j)));
            };
      }

-- the bench moves the notes by `delay`: so its late multiplexer's line is made late, with the vote that frame 0 took as the vote before all
pub delayed-decides : (first : ℕ) (notes old : List ℕ) → length old ≡ length notes → (f j : ℕ) → f < length notes → j < 4
    → decisions (tab (length old) 0 (delayed first notes old)) j f ≡ decisions (first ∷ notes) j f
unfolding delayed
delayed-decides first notes old long f j hf hj =
    ap (λ (n : ℕ). stuffed n j) (tab-at (length old) 0 (delayed first notes old) f (omega (arith, long)))
    ∙ rw (zero-add f, lt-ltb f (length notes) hf) (decided-by (get_or (first ∷ notes) f 0) (get_or notes f 0) j hj)
