-- Levels 2 to 4 do not look at the vote before frame 0: their frames act on their own votes alone, and 5 is not given for it. So each call answers and leaves
-- the same whatever it is, and demand 3 holds with a vote of its own for each call.
use Rattle.std.specs.Prelude.{Option, Some, None}
use mathlib.Core.Path.{◌≡◌, refl, sym, ◌∙◌, ap, fun_ext}
use mathlib.Core.Bool.{cond, true, false}
use mathlib.Core.List.{List, []}
use Prim.Native.Nat.{ℕ, ◌+◌, ◌*◌, ◌-◌, ◌/◌, ◌%◌, ◌<◌}
use native.Mathlib.Omega.{arith}
use lib.Dec.{eqb}
use lib.ListN.{length, get_or}
use borrow.Author.Tests.{eqb-true}
use Rattle.digits.specs.Digits.{digits_of}
use Rattle.digits.proofs.Tests.{cond-told}
use Rattle.table.specs.declared.Row.{Row}
use Rattle.table.specs.Table.{level_of}
use Rattle.levels.specs.Faults.{Counted}
use Rattle.levels.specs.Sizes.{on_level, quarter_of}
use Rattle.levels.specs.Places.{pos_of}
use Rattle.levels.specs.Order.{has_negative, action_of, actions, counts_of}
use Rattle.levels.specs.Faults.{fault, refused_with, earlier_fault, fault_of, send_fault_of, answer_on, send_answer_on}
use Rattle.levels.specs.Line.{line_digit}
use Rattle.multiplex.specs.Multiplex as multiplex
use Rattle.reading.specs.Reading.{notes_after}
use Rattle.extraction.specs.Quarters.{taken_to, quarter_from, quarters_from}
use Rattle.extraction.specs.Extract.{buffer_on}
use Rattle.promises.specs.Together.{Outcome}
use Rattle.promises.specs.Calls.{Lent, SendAccepted, sent_line, ReadAccepted}
use Rattle.promises.specs.Plain.{Numbers, stuffs, Changed, controls_differing, DemandThree}
use Rattle.promises.specs.Earlier.{NotLookedAt, AnyVotes}
use Rattle.promises.proofs.Levels.{numbers2, numbers3, numbers4, level-2, level-3, level-4}

-- levels 2, 3 and 4 have no negative places
abbrev pub Without : Option Row → Type 0
Without l = on_level l (λ (row : Row). has_negative row ≡ false) (Unit {0})

pub without : (level : ℕ) → level < 5 → Without (level_of level)
unfolding level_of
without level small =
    cond-told Without (eqb level 2) (λ _. refl)
    (λ _. cond-told Without (eqb level 3) (λ _. refl)
    (λ _. cond-told Without (eqb level 4) (λ _. refl)
    (λ _. cond-told Without (eqb level 12) (λ t. absurd (omega (arith, eqb-true level 12 t)))
    (λ _. cond-told Without (eqb level 14) (λ t. absurd (omega (arith, eqb-true level 14 t))) (λ _. tt)))))

module _ (row : Row) (none : has_negative row ≡ false) (x y : ℕ) where
  -- what a frame does, by its own vote alone
  acts-alike : (notes : List ℕ) (j f : ℕ) → actions row x notes j f ≡ actions row y notes j f
  unfolding action_of
  acts-alike notes j f = rw none

  pub acts : (notes : List ℕ) (j : ℕ) → actions row x notes j ≡ actions row y notes j
  acts notes j = fun_ext (λ (f : ℕ). acts-alike notes j f)

  no-fault : earlier_fault row x ≡ earlier_fault row y
  no-fault = rw none

  counts-alike : (notes : List ℕ) (F : ℕ) → counts_of row x notes F ≡ counts_of row y notes F
  counts-alike notes F = rw (acts notes 0, acts notes 1, acts notes 2, acts notes 3)

  fault-alike : (line : ℕ) (notes : List ℕ) (buffer : ℕ) → fault_of row x line notes buffer ≡ fault_of row y line notes buffer
  unfolding fault_of
  fault-alike line notes buffer = rw no-fault

  send-fault-alike : (line : ℕ) (notes : List ℕ) (buffer : ℕ) → send_fault_of row x line notes buffer ≡ send_fault_of row y line notes buffer
  unfolding send_fault_of
  send-fault-alike line notes buffer = rw (fault-alike line notes buffer)

  pub digit-alike : (notes : List ℕ) (tributary : ℕ → List ℕ) (p : ℕ) → line_digit row x notes tributary p ≡ line_digit row y notes tributary p
  unfolding line_digit
  digit-alike notes tributary p = rw (acts notes (p % 4), acts-alike notes (p % 4) (pos_of row p).frame)

  quarter-alike : (notes line : List ℕ) (q j : ℕ) → quarter_from row x notes line q j ≡ quarter_from row y notes line q j
  unfolding quarter_from taken_to
  quarter-alike notes line q j = rw (acts notes j)

  quarters-alike : (notes line : List ℕ) (q : ℕ) → quarters_from row x notes line q ≡ quarters_from row y notes line q
  unfolding quarters_from
  quarters-alike notes line q = rw (quarter-alike notes line q 0, quarter-alike notes line q 1, quarter-alike notes line q 2, quarter-alike notes line q 3)

  line-alike : (line notes buffer : List ℕ) → multiplex.line_on row x line notes buffer ≡ multiplex.line_on row y line notes buffer
  line-alike line notes buffer =
      let same : line_digit row x notes (λ (j : ℕ). digits_of (quarter_of buffer j)) ≡ line_digit row y notes (λ (j : ℕ). digits_of (quarter_of buffer j)) =
      fun_ext (λ (p : ℕ). digit-alike notes (λ (j : ℕ). digits_of (quarter_of buffer j)) p) in
      rw (send-fault-alike (length line) notes (length buffer), same)

-- ---- of the calls, whatever the level's row

module _ (x y : ℕ) where
  on-send : (l : Option Row) → Without l → (line : ℕ) (notes : List ℕ) (buffer : ℕ)
      → on_level l (λ (row : Row). send_answer_on row x line notes buffer) (refused_with (fault 1 0)) ≡ on_level l (λ (row : Row). send_answer_on row y line notes buffer) (refused_with (fault 1 0))
  on-send (Some row) none line notes buffer = rw (send-fault-alike row none x y line notes buffer, counts-alike row none x y notes (length notes))
  on-send None none line notes buffer = refl

  on-extract : (l : Option Row) → Without l → (line : ℕ) (notes : List ℕ) (buffer : ℕ)
      → on_level l (λ (row : Row). answer_on row x line notes buffer) (refused_with (fault 1 0)) ≡ on_level l (λ (row : Row). answer_on row y line notes buffer) (refused_with (fault 1 0))
  on-extract (Some row) none line notes buffer = rw (fault-alike row none x y line notes buffer, counts-alike row none x y notes (length notes))
  on-extract None none line notes buffer = refl

  on_line : (l : Option Row) → Without l → (line notes buffer : List ℕ)
      → on_level l (λ (row : Row). multiplex.line_on row x line notes buffer) line ≡ on_level l (λ (row : Row). multiplex.line_on row y line notes buffer) line
  on_line (Some row) none line notes buffer = line-alike row none x y line notes buffer
  on_line None none line notes buffer = refl

  on-buffer : (l : Option Row) → Without l → (line notes buffer : List ℕ)
      → on_level l (λ (row : Row). buffer_on row x line notes buffer) buffer ≡ on_level l (λ (row : Row). buffer_on row y line notes buffer) buffer
  on-buffer (Some row) none line notes buffer = rw (fault-alike row none x y (length line) notes (length buffer), quarters-alike row none x y notes line (length buffer / 4))
  on-buffer None none line notes buffer = refl

-- at levels 2 to 4 the vote is not looked at
pub not-looked-at : (level x y : ℕ) (c : Lent) → level < 5 → NotLookedAt level x y c
not-looked-at level x y c small =
    let none = without level small in
    record {
      send_answer = on-send x y (level_of level) none (length c.line) c.notes (length c.buffer);
      send_line = on_line x y (level_of level) none c.line c.notes c.buffer;
      extract_answer = on-extract x y (level_of level) none (length c.line) c.notes (length c.buffer);
      extract_buffer = on-buffer x y (level_of level) none c.line c.notes c.buffer;
      reading = rw (on-extract x y (level_of level) none (length c.line) (notes_after level c.line c.notes) (length c.buffer), on-buffer x y (level_of level) none c.line (notes_after level c.line c.notes) c.buffer);
    }

-- ---- demand 3, each call with a vote of its own

module _ (level : ℕ) (l : Numbers) (small : level < 5) (none : l.negatives ≡ []) (d : DemandThree level l) where
  send-as : (x z : ℕ) (c : Lent) → SendAccepted level x c → SendAccepted level z c
  send-as x z c ok = sym (ap (λ (r : Counted). r.refusal) (not-looked-at level x z c small).send_answer) ∙ ok

  read_as : (x z : ℕ) (c : Lent) → ReadAccepted level x c → ReadAccepted level z c
  read_as x z c ok = sym (ap (λ (r : Outcome). r.refusal) (not-looked-at level x z c small).reading) ∙ ok

  same_line : (x z : ℕ) (c : Lent) → sent_line level x c ≡ sent_line level z c
  same_line x z c = (not-looked-at level x z c small).send_line

  stuffs-as : (negatives : List ℕ) → negatives ≡ [] → (x z : ℕ) (notes : List ℕ) (j f : ℕ) → stuffs negatives x notes j f ≡ stuffs negatives z notes j f
  stuffs-as negatives e x z notes j f = rw e

  changed-as : (x z : ℕ) (send : Lent) (received : List ℕ) → Changed level x l send received → Changed level z l send received
  changed-as x z send received c =
      record {
        size = c.size;
        kept = λ f r hf from to controls services stuffed negative.
            c.kept f r hf from to controls services (λ here. stuffs-as l.negatives none x z send.notes (r - l.positive) f ∙ stuffed here)
            (λ i h. absurd (no_place i h))
            ∙ ap (λ (line : List ℕ). get_or (digits_of line) (f * l.N + r) 0) (same_line x z send);
        few = λ f j hf hj. rw (same_line x z send) at (c.few f j hf hj);
      }
    where
      no_place : (i : ℕ) → i < length l.negatives → ⊥
      no_place i h = omega (arith, ap (λ (ns : List ℕ). length ns) none)

  pub any-votes : AnyVotes level l
  any-votes =
      record {
        same = λ x y z a b received other ok-a ok-b ca cb.
            d.same z a b received other (send-as x z a ok-a) (send-as y z b ok-b) (changed-as x z a received ca) (changed-as y z b other cb);
        returned = λ x z send read ok lent c. d.returned z send read (send-as x z send ok) lent (changed-as x z send read.line c);
        dissent = λ x z send read ok lent c j hj.
            d.dissent z send read (send-as x z send ok) lent (changed-as x z send read.line c) j hj
            ∙ ap (λ (line : List ℕ). controls_differing l (length send.notes) (digits_of line) (digits_of read.line) j) (same_line z x send);
        others = λ x z j k a b ok. d.others z j k a b (read_as x z a ok);
      }

pub votes-2 : AnyVotes 2 numbers2
votes-2 = any-votes 2 numbers2 (omega arith) refl level-2

pub votes-3 : AnyVotes 3 numbers3
votes-3 = any-votes 3 numbers3 (omega arith) refl level-3

pub votes-4 : AnyVotes 4 numbers4
votes-4 = any-votes 4 numbers4 (omega arith) refl level-4
