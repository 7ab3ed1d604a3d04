-- What is promised of swapping one tributary, said of the call. Document 02, request 12. A line comes as bytes; what the call leaves and answers is
-- given by the definitions that its statement cites (crates/swap/specs/Swap.antt). Tributaries are 1 to 4 to the call and counted from 0 in the theorems.
use Rattle.std.specs.Prelude.{◌≡◌, ◌≢◌, Bool, cond, false, ◌&&◌, not, List, ◌++◌, ℕ, ◌-◌, ◌/◌, ◌%◌, ◌^◌, ◌<◌, eqb, length, get_or, take, replicate}
use Rattle.digits.specs.Digits.{digits_of, Bytes, tab, with_digit}
use Rattle.table.specs.declared.Row.{Row}
use Rattle.table.specs.Table.{level_of}
use Rattle.levels.specs.declared.order.Action.{Action}
use Rattle.levels.specs.declared.places.Kind.{Kind}
use Rattle.levels.specs.declared.places.Kind.TheVariants.{Word, Service, Control, Justification, Tributary}
use Rattle.levels.specs.Sizes.{on_level, quarter_of}
use Rattle.levels.specs.Places.{kind_at, pos_of}
use Rattle.levels.specs.Order.{decisions, actions, carried}
use Rattle.promises.specs.Calls.{Lent, SendAccepted, sent_line, sent_digits, read_notes, read_digits, SameButAt}
use Rattle.promises.specs.Extraction.{extract_counts, extract_digits, SameBit}
use Rattle.swap.specs.Swap.{swapped, line_after}

-- what a swap is given besides the line: the vote before the notes, the tributary, its decisions and its digits
pub record Swap : Type 0 where
  pub earlier : ℕ
  pub tributary : ℕ
  pub notes : List ℕ
  pub buffer : List ℕ

-- it was accepted; the line it leaves; the digits it took; the tributary from 0
abbrev pub SwapAccepted : ℕ → List ℕ → Swap → Type 0
SwapAccepted level line s = (swapped level s.earlier s.tributary (length line) s.notes (length s.buffer)).refusal ≡ 0

abbrev pub swap_line : ℕ → List ℕ → Swap → List ℕ
swap_line level line s = line_after level s.earlier s.tributary line s.notes s.buffer

abbrev pub swap_count : ℕ → List ℕ → Swap → ℕ
swap_count level line s = (swapped level s.earlier s.tributary (length line) s.notes (length s.buffer)).digits

abbrev pub swap_digits : ℕ → List ℕ → Swap → List ℕ
swap_digits level line s = take (swap_count level line s) (digits_of s.buffer)

abbrev pub from0 : Swap → ℕ
from0 s = s.tributary - 1

-- "and touches no other digit": the line keeps its length, and every place that is not the tributary's own keeps its digit
pub record OthersStay (level : ℕ) (line : List ℕ) (s : Swap) : Type 0 where
  pub size : length (swap_line level line s) ≡ length line
  pub digits : SameButAt level (from0 s) line (swap_line level line s)

-- "notes of which only bit j−1 is looked at; levels 12 and 14 take the earlier vote as well, of which beyond its refusal only bit j−1 counts": two swaps of one
-- tributary and one buffer that agree in that bit
pub record SameToSwap (a b : Swap) : Type 0 where
  pub tributary : a.tributary ≡ b.tributary
  pub buffer : a.buffer ≡ b.buffer
  pub bits : SameBit (from0 a) a.earlier b.earlier a.notes b.notes

-- leave the same line and answer the same
pub record SwapsSame (level : ℕ) (line : List ℕ) (a b : Swap) : Type 0 where
  pub left : swap_line level line a ≡ swap_line level line b
  pub answer : swapped level a.earlier a.tributary (length line) a.notes (length a.buffer)
      ≡ swapped level b.earlier b.tributary (length line) b.notes (length b.buffer)

-- a swap with another vote before its notes
abbrev pub with_vote : ℕ → Swap → Swap
with_vote vote s = record { earlier = vote; tributary = s.tributary; notes = s.notes; buffer = s.buffer }

-- a note, or a vote before the notes, with one's bit for tributary j and the other's bits beside it
pub record Mixed (j one other mixed : ℕ) : Type 0 where
  pub own : mixed / 2 ^ j % 2 ≡ one / 2 ^ j % 2
  pub beside : (k : ℕ) → k < 8 → k ≢ j → mixed / 2 ^ k % 2 ≡ other / 2 ^ k % 2

-- "multiplexing the new four": a send, after this vote, of the other three as they were sent and of the tributary with the swap's digits and decisions
pub record NewFour (level earlier : ℕ) (send : Lent) (line : List ℕ) (s : Swap) (vote : ℕ) (four : Lent) : Type 0 where
  pub before : Mixed (from0 s) s.earlier earlier vote
  pub frames : length four.notes ≡ length send.notes
  pub noted : (f : ℕ) → f < length send.notes → Mixed (from0 s) (get_or s.notes f 0) (get_or send.notes f 0) (get_or four.notes f 0)
  pub own : sent_digits level vote four (from0 s) ≡ swap_digits level line s
  pub beside : (k : ℕ) → k < 4 → k ≢ from0 s → sent_digits level vote four k ≡ sent_digits level earlier send k

-- at levels 2 to 4, which do not look at the votes before the notes, nothing is asked of these: each of send, swap and new send has one of its own
pub record NewFourAnyVotes (level x : ℕ) (send : Lent) (line : List ℕ) (s : Swap) (y : ℕ) (four : Lent) : Type 0 where
  pub frames : length four.notes ≡ length send.notes
  pub noted : (f : ℕ) → f < length send.notes → Mixed (from0 s) (get_or s.notes f 0) (get_or send.notes f 0) (get_or four.notes f 0)
  pub own : sent_digits level y four (from0 s) ≡ swap_digits level line s
  pub beside : (k : ℕ) → k < 4 → k ≢ from0 s → sent_digits level y four k ≡ sent_digits level x send k

-- the new four made of what the send and the swap were given: each note and the vote before them with bit j replaced, and quarter j replaced by as many of
-- the swap's bytes, zeros where it has fewer
abbrev pub mixed : ℕ → ℕ → ℕ → ℕ
mixed j one other = with_digit other j (one / 2 ^ j % 2)

abbrev pub fitted : ℕ → List ℕ → List ℕ
fitted q buffer = take q (buffer ++ replicate q 0)

abbrev pub new_part : Lent → Swap → ℕ → List ℕ
new_part send s k = cond (eqb k (from0 s)) (fitted (length send.buffer / 4) s.buffer) (quarter_of send.buffer k)

abbrev pub new_vote : ℕ → Swap → ℕ
new_vote earlier s = mixed (from0 s) s.earlier earlier

abbrev pub new_four : Lent → Swap → Lent
new_four send s =
    record {
      line = send.line;
      notes = tab (length send.notes) 0 (λ (f : ℕ). mixed (from0 s) (get_or s.notes f 0) (get_or send.notes f 0));
      buffer = new_part send s 0 ++ (new_part send s 1 ++ (new_part send s 2 ++ new_part send s 3));
    }

-- there is such a send: this one is accepted, is of the new four, and makes the swapped line; and it can be made, of bytes and a vote of 64 digits where send and
-- swap were
pub record NewFourSent (level earlier : ℕ) (send : Lent) (s : Swap) : Type 0 where
  pub accepted : SendAccepted level (new_vote earlier s) (new_four send s)
  pub new : NewFour level earlier send (sent_line level earlier send) s (new_vote earlier s) (new_four send s)
  pub line : swap_line level (sent_line level earlier send) s ≡ sent_line level (new_vote earlier s) (new_four send s)
  pub vote : earlier < 2 ^ 64 → new_vote earlier s < 2 ^ 64
  pub noted : Bytes send.notes → Bytes (new_four send s).notes
  pub lent : Bytes send.buffer → Bytes s.buffer → Bytes (new_four send s).buffer

-- extraction from the swapped line by the swap's decisions returns the swap's digits, all that it took; `earlier` is the vote before the extraction's notes
pub record NewExtracted (level earlier : ℕ) (line : List ℕ) (s : Swap) (c : Lent) : Type 0 where
  pub counted : get_or (extract_counts level earlier c) (from0 s) 0 ≡ swap_count level line s
  pub digits : extract_digits level earlier c (from0 s) ≡ swap_digits level line s

-- a swap of what was read: the tributary's bits of the notes that the reading left and of the vote before them, and its digits as they were read
pub record AsRead (level earlier : ℕ) (read : Lent) (s : Swap) : Type 0 where
  pub bits : SameBit (from0 s) earlier s.earlier (read_notes level earlier read) s.notes
  pub digits : swap_digits level read.line s ≡ read_digits level earlier read (from0 s)

-- a damaged digit by what was read: a control digit that is not the frame's vote, or a stuffing digit that is not 1
abbrev pub damaged : Kind → Action → Bool → ℕ → Bool
damaged Word act vote d = false
damaged (Service s) act vote d = false
damaged Control act vote d = not (eqb d (cond vote 1 0))
damaged (Justification sign) act vote d = not (carried (Justification sign) act) && not (eqb d 1)
damaged Tributary act vote d = false

abbrev pub damaged_at : Row → ℕ → List ℕ → ℕ → List ℕ → ℕ → Bool
damaged_at row earlier notes j ds p =
    eqb (p % 4) j && damaged (kind_at row p) (actions row earlier notes j (pos_of row p).frame) (decisions notes j (pos_of row p).frame) (get_or ds p 0)

-- two lines that differ at most in tributary j's digits that are damaged in the first
abbrev pub SameButDamaged : Row → ℕ → List ℕ → ℕ → List ℕ → List ℕ → Type 0
SameButDamaged row earlier notes j ds es = (p : ℕ) → p < length ds → damaged_at row earlier notes j ds p ≡ false → get_or ds p 0 ≡ get_or es p 0

abbrev pub SameButDamagedAt : ℕ → ℕ → List ℕ → ℕ → List ℕ → List ℕ → Type 0
SameButDamagedAt level earlier notes j line other =
    on_level (level_of level) (λ (row : Row). SameButDamaged row earlier notes j (digits_of line) (digits_of other)) ⊥
