-- Levels 2 to 4 do not look at the vote before the notes: a swap answers and leaves the same whatever it is, and a multiplexed line becomes what multiplexing
-- the new four would have made whatever votes the two sends and the swap are given.
use Rattle.std.specs.Prelude.{Option, Some, None}
use mathlib.Core.Path.{◌≡◌, refl, sym, ◌∙◌, ap, fun_ext}
use mathlib.Core.Bool.{false}
use mathlib.Core.List.{List}
use Prim.Native.Nat.{ℕ, ◌-◌, ◌<◌}
use lib.ListN.{length, take, get_or}
use Rattle.digits.specs.Digits.{digits_of}
use Rattle.table.specs.declared.Row.{Row}
use Rattle.table.specs.Table.{level_of}
use Rattle.levels.specs.Faults.{Counted}
use Rattle.levels.specs.Sizes.{on_level, quarter_of}
use Rattle.levels.specs.Order.{has_negative}
use Rattle.promises.specs.Calls.{Lent, SendAccepted, sent_line, sent_digits}
use Rattle.promises.proofs.Earlier.{Without, without, acts, digit-alike, not-looked-at}
use Rattle.swap.specs.Swap.{number_of, swapped_digit, refused_with, swapped_on, line_on}
use Rattle.swap_promises.specs.Swapping.{Swap, SwapAccepted, swap_line, from0, SwapsSame, with_vote, NewFourAnyVotes, new_vote}
use Rattle.swap_promises.proofs.NewFour.{becomes-new}
use Rattle.swap_promises.proofs.NewSend.{is-mixed}

module _ (row : Row) (none : has_negative row ≡ false) (x y : ℕ) where
  number-alike : (tributary line notes buffer : ℕ) → number_of row x tributary line notes buffer ≡ number_of row y tributary line notes buffer
  unfolding number_of
  number-alike tributary line notes buffer = rw none

  swapped-alike : (notes : List ℕ) (j : ℕ) (digits old : List ℕ) → swapped_digit row x notes j digits old ≡ swapped_digit row y notes j digits old
  swapped-alike notes j digits old = fun_ext (λ (p : ℕ). rw (digit-alike row none x y notes (λ (k : ℕ). digits) p))

module _ (x y : ℕ) where
  on-answer : (l : Option Row) → Without l → (tributary line : ℕ) (notes : List ℕ) (buffer : ℕ)
      → on_level l (λ (row : Row). swapped_on row x tributary line notes buffer) (refused_with 1) ≡ on_level l (λ (row : Row). swapped_on row y tributary line notes buffer) (refused_with 1)
  on-answer (Some row) none tributary line notes buffer = rw (number-alike row none x y tributary line (length notes) buffer, acts row none x y notes (tributary - 1))
  on-answer None none tributary line notes buffer = refl

  on_line : (l : Option Row) → Without l → (tributary : ℕ) (line notes buffer : List ℕ)
      → on_level l (λ (row : Row). line_on row x tributary line notes buffer) line ≡ on_level l (λ (row : Row). line_on row y tributary line notes buffer) line
  on_line (Some row) none tributary line notes buffer =
      rw (number-alike row none x y tributary (length line) (length notes) (length buffer), swapped-alike row none x y notes (tributary - 1) (digits_of buffer) (digits_of line))
  on_line None none tributary line notes buffer = refl

-- a swap at levels 2 to 4, refused or not
pub vote-not-looked-at : (level : ℕ) (line : List ℕ) (s : Swap) (vote : ℕ) → level < 5 → SwapsSame level line s (with_vote vote s)
vote-not-looked-at level line s vote small =
    record {
      left = on_line s.earlier vote (level_of level) (without level small) s.tributary line s.notes s.buffer;
      answer = on-answer s.earlier vote (level_of level) (without level small) s.tributary (length line) s.notes (length s.buffer);
    }

-- what a send is given and counts
sent-as : (level x y : ℕ) (c : Lent) (k : ℕ) → level < 5 → sent_digits level x c k ≡ sent_digits level y c k
sent-as level x y c k small =
    ap (λ (r : Counted). take (get_or r.counts k 0) (digits_of (quarter_of c.buffer k))) (not-looked-at level x y c small).send_answer

pub becomes-new-any-votes : (level earlier : ℕ) (send : Lent) (s : Swap) (vote : ℕ) (four : Lent) → level < 5 → SendAccepted level earlier send
    → SwapAccepted level (sent_line level earlier send) s → SendAccepted level vote four → NewFourAnyVotes level earlier send (sent_line level earlier send) s vote four
    → swap_line level (sent_line level earlier send) s ≡ sent_line level vote four
becomes-new-any-votes level earlier send s vote four small sent ok made new =
    becomes-new level earlier send s mix four sent ok (sym (ap (λ (r : Counted). r.refusal) (not-looked-at level vote mix four small).send_answer) ∙ made)
    (record {
      before = is-mixed (from0 s) s.earlier earlier;
      frames = new.frames;
      noted = new.noted;
      own = sent-as level mix vote four (from0 s) small ∙ new.own;
      beside = λ k h other. sent-as level mix vote four k small ∙ new.beside k h other;
    })
    ∙ (not-looked-at level mix vote four small).send_line
  where
    mix : ℕ
    mix = new_vote earlier s
