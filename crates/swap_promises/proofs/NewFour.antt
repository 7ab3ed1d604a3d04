-- "A multiplexed line becomes what multiplexing the new four would have made." A tributary's own places go by its own bit of the notes and of the vote
-- before them and by its digits as many as the frames take; every other place by the word and by the notes' service bits.
use Rattle.std.specs.Prelude.{Some}
use mathlib.Core.Path.{◌≡◌, refl, sym, ◌∙◌, ap}
use mathlib.Core.Logic.{◌≢◌}
use mathlib.Core.Bool.{Bool, cond, true, false, false≢true, true≢false, ◌&&◌}
use mathlib.Core.List.{List}
use Prim.Native.Nat.{ℕ, suc, ◌+◌, ◌*◌, ◌/◌, ◌%◌, ◌^◌, ◌≤◌, ◌<◌}
use native.Mathlib.Omega.{arith}
use native.Mathlib.Nat.{zero-add, lt_of_mul-lt-mul_right}
use lib.Dec.{eqb}
use lib.ListN.{length, get_or, take}
use lib.Seq.{get_or-take}
use borrow.Author.Tests.{eqb-true, eqb-false}
use Rattle.digits.specs.Digits.{digits_of}
use Rattle.digits.proofs.Laws.{bytes-length, tab-at}
use Rattle.table.specs.declared.Row.{Row}
use Rattle.table.specs.Table.{level_of}
use Rattle.levels.specs.Table.{Shared}
use Rattle.levels.specs.declared.order.Action.{Action}
use Rattle.levels.specs.declared.places.ServiceDigit.{ServiceDigit}
use Rattle.levels.specs.declared.places.ServiceDigit.TheVariants.{RemoteAlarm, FirstNational, SecondNational, ThirdNational, Fixed}
use Rattle.levels.specs.declared.places.Kind.{Kind}
use Rattle.levels.specs.declared.places.Kind.TheVariants.{Word, Service, Control, Justification, Tributary}
use Rattle.levels.specs.Sizes.{frames_of}
use Rattle.levels.specs.Places.{kind_at, pos_of, is_own}
use Rattle.levels.specs.Order.{stuffed, actions, carried, carries, before, count_of}
use Rattle.levels.proofs.Positions.{stands}
use Rattle.levels.proofs.Columns.{columns, frame-start}
use Rattle.levels.proofs.Counts.{line-count}
use Rattle.levels.proofs.Inverse.{before-rises}
use Rattle.levels.specs.Line.{service_by, digit_by, line_digit, line_of}
use Rattle.promises.specs.Calls.{Lent, SendAccepted, sent_line, sent_counts}
use Rattle.promises.specs.Extraction.{SameBit}
use Rattle.promises.proofs.Order.{before_same, count_same, actions-same}
use Rattle.promises.proofs.Accepted.{shared, tributary, send-sizes, send-whole, send-places, send-bytes, send_line, send-count}
use Rattle.swap_promises.specs.Swapping.{Swap, SwapAccepted, swap_line, swap_count, from0, Mixed, NewFour}
use Rattle.swap_promises.proofs.Places.{same_bytes, swap-level, swap-small, swap-noted, swap_places, swap_line_lem, swap-count}

-- an own place by its kind
own-by : (row : Row) (a b : ℕ) (act : Action) (k r next next' : ℕ) (kind : Kind) → is_own kind ≡ true → stuffed a k ≡ stuffed b k → (carried kind act ≡ true → next ≡ next')
    → digit_by row a act k r next kind ≡ digit_by row b act k r next' kind
own-by row a b act k r next next' Word o bit same = absurd (false≢true o)
own-by row a b act k r next next' (Service s) o bit same = absurd (false≢true o)
own-by row a b act k r next next' Control o bit same = rw bit
own-by row a b act k r next next' (Justification sign) o bit same = go (carried (Justification sign) act) same
  where
    go : (t : Bool) → (t ≡ true → next ≡ next') → cond t next 1 ≡ cond t next' 1
    go true same = same refl
    go false same = refl
own-by row a b act k r next next' Tributary o bit same = same refl

-- the other places by theirs
abbrev SameService : ℕ → ℕ → Type 0
SameService a b = (k : ℕ) → 3 < k → k < 8 → a / 2 ^ k % 2 ≡ b / 2 ^ k % 2

service-by : (a b : ℕ) → SameService a b → (s : ServiceDigit) → service_by a s ≡ service_by b s
service-by a b same RemoteAlarm = same 4 (omega arith) (omega arith)
service-by a b same FirstNational = same 5 (omega arith) (omega arith)
service-by a b same SecondNational = same 6 (omega arith) (omega arith)
service-by a b same ThirdNational = same 7 (omega arith) (omega arith)
service-by a b same Fixed = refl

other-by : (row : Row) (a b : ℕ) (act act' : Action) (k r next next' : ℕ) (kind : Kind) → is_own kind ≡ false → SameService a b
    → digit_by row a act k r next kind ≡ digit_by row b act' k r next' kind
other-by row a b act act' k r next next' Word o same = refl
other-by row a b act act' k r next next' (Service s) o same = service-by a b same s
other-by row a b act act' k r next next' Control o same = absurd (true≢false o)
other-by row a b act act' k r next next' (Justification sign) o same = absurd (true≢false o)
other-by row a b act act' k r next next' Tributary o same = absurd (true≢false o)

-- a place of a line of F frames stands in one of them
frame-in : (row : Row) → Shared row → (F p : ℕ) → p < F * row.digits → (pos_of row p).frame < F
frame-in row sh F p h = lt_of_mul-lt-mul_right row.digits (omega (arith, h, (stands row sh p).sum))

-- lines by two notes and the votes before them, and of two tributaries each
module _ (row : Row) (sh : Shared row) (x y : ℕ) (a b : List ℕ) (t u : ℕ → List ℕ) (p : ℕ) where
  abbrev whose : ℕ
  whose = p % 4

  abbrev acts : ℕ → Action
  acts = actions row x a whose

  -- the digit that a carrying place takes is one that is counted
  counted : (F : ℕ) → p < F * row.digits → carries row acts p ≡ true → before row acts whose (p / 4) < count_of row acts F
  unfolding before count_of
  counted F h c =
      let place : 4 * (p / 4) + whose ≡ p = omega arith in
      let one : cond {A = ℕ} (carries row acts (4 * (p / 4) + whose)) 1 0 ≡ 1 = rw (place, c) in
      let inside : suc (p / 4) ≤ F * columns row = omega (arith, frame-start row sh 0 (omega arith) F) in
      omega (arith, one, before-rises row acts whose (suc (p / 4)) (F * columns row) inside, line-count row sh whose (omega arith) acts F)

  pub own-digit : p < length a * row.digits → is_own (kind_at row p) ≡ true → SameBit whose x y a b
      → ((i : ℕ) → i < count_of row acts (length a) → get_or (t whose) i 0 ≡ get_or (u whose) i 0) → line_digit row x a t p ≡ line_digit row y b u p
  unfolding line_digit carries
  own-digit h o bits same =
      let F = length a in
      let column : p / 4 ≤ F * columns row = omega (arith, frame-start row sh 0 (omega arith) F) in
      let frame = frame-in row sh F p h in
      let all = actions-same row x y a b whose F bits.before bits.bit in
      rw (← all (pos_of row p).frame frame, ← before_same row sh F whose (omega arith) acts (actions row y b whose) all (p / 4) column)
      (own-by row (get_or a (pos_of row p).frame 0) (get_or b (pos_of row p).frame 0) (acts (pos_of row p).frame) whose (pos_of row p).place _ _ (kind_at row p) o (bits.bit (pos_of row p).frame frame)
      (λ c. same (before row acts whose (p / 4)) (counted F h c)))

  pub other-digit : is_own (kind_at row p) ≡ false → SameService (get_or a (pos_of row p).frame 0) (get_or b (pos_of row p).frame 0) → line_digit row x a t p ≡ line_digit row y b u p
  unfolding line_digit
  other-digit o same = other-by row _ _ _ _ whose (pos_of row p).place _ _ (kind_at row p) o same

-- lists of which the first n are the same
firsts : (n m : ℕ) (xs ys : List ℕ) → take n xs ≡ take m ys → n ≡ m → (i : ℕ) → i < m → get_or xs i 0 ≡ get_or ys i 0
firsts n m xs ys same e i h =
    sym (get_or-take n xs i 0 (omega arith)) ∙ ap (λ (l : List ℕ). get_or l i 0) same ∙ get_or-take m ys i 0 h

-- notes with one's bit j and the other's bits beside it have the one's decisions for tributary j, and the other's for the other three
module _ (j x y z : ℕ) (one other both : List ℕ) where
  abbrev AllMixed : Type 0
  AllMixed = (f : ℕ) → f < length other → Mixed j (get_or one f 0) (get_or other f 0) (get_or both f 0)

  pub own_bits : length one ≡ length other → Mixed j x y z → length both ≡ length other → AllMixed → SameBit j x z one both
  own_bits frames before same noted =
      record {
        before = ap (λ (d : ℕ). eqb d 1) (sym before.own);
        frames = frames ∙ sym same;
        bit = λ f h. ap (λ (d : ℕ). eqb d 1) (sym (noted f (omega (arith, frames))).own);
      }

  pub beside-bits : Mixed j x y z → length both ≡ length other → AllMixed → (k : ℕ) → k < 4 → k ≢ j → SameBit k y z other both
  beside-bits before same noted k hk far =
      record {
        before = ap (λ (d : ℕ). eqb d 1) (sym (before.beside k (omega arith) far));
        frames = sym same;
        bit = λ f h. ap (λ (d : ℕ). eqb d 1) (sym ((noted f h).beside k (omega arith) far));
      }

-- what a send counts of a tributary, by other notes that have the same bit
pub count_by : (level y : ℕ) (row : Row) (e : level_of level ≡ Some row) (four : Lent) → SendAccepted level y four → (k z : ℕ) (notes : List ℕ) → k < 4 → SameBit k z y notes four.notes
    → get_or (sent_counts level y four) k 0 ≡ count_of row (actions row z notes k) (length notes)
count_by level y row e four made k z notes hk bits =
    send-count level y row e four made k hk
    ∙ ap (λ (n : ℕ). count_of row (actions row y four.notes k) n) (sym bits.frames)
    ∙ sym (count_same row (actions row z notes k) (actions row y four.notes k) (length notes) (actions-same row z y notes four.notes k (length notes) bits.before bits.bit))

module _ (level x : ℕ) (row : Row) (e : level_of level ≡ Some row) (send : Lent) (sent : SendAccepted level x send) (s : Swap) (ok : SwapAccepted level (sent_line level x send) s)
    (y : ℕ) (four : Lent) (made : SendAccepted level y four) (new : NewFour level x send (sent_line level x send) s y four) where
  abbrev line : List ℕ
  line = sent_line level x send

  abbrev F : ℕ
  F = length send.notes

  abbrev j : ℕ
  j = from0 s

  abbrev sh : Shared row
  sh = shared level row e

  abbrev olds : ℕ → List ℕ
  olds = tributary level x row e send sent

  abbrev news : ℕ → List ℕ
  news = tributary level y row e four made

  small : j < 4
  small = swap-small level row e line s ok

  -- as long, and of as many frames
  long : length line ≡ length send.line
  long = ap length (send-bytes level x row e send sent) ∙ bytes-length (length send.line) _

  frames : length s.notes ≡ F
  frames =
      swap-noted level row e line s ok ∙ ap (λ (n : ℕ). frames_of row n) long ∙ sym (send-sizes level x row e send sent).framed.noted

  four-long : length four.line ≡ length line
  four-long =
      send-whole level y row e four made ∙ ap (λ (n : ℕ). n * row.bytes) new.frames ∙ sym (send-whole level x row e send sent) ∙ sym long

  -- the tributary's bit is the swap's, the other three are the send's
  bits-own : SameBit j s.earlier y s.notes four.notes
  bits-own = own_bits j s.earlier x y s.notes send.notes four.notes frames new.before new.frames new.noted

  bits-beside : (k : ℕ) → k < 4 → k ≢ j → SameBit k x y send.notes four.notes
  bits-beside k hk other = beside-bits j s.earlier x y s.notes send.notes four.notes new.before new.frames new.noted k hk other

  -- so are the digits
  digits-own : (i : ℕ) → i < count_of row (actions row s.earlier s.notes j) (length s.notes) → get_or (digits_of s.buffer) i 0 ≡ get_or (news j) i 0
  digits-own i h =
      let count = swap-count level row e line s ok in
      let counts = count_by level y row e four made j s.earlier s.notes small bits-own ∙ sym count in
      sym (firsts (get_or (sent_counts level y four) j 0) (swap_count level line s) (news j) (digits_of s.buffer) new.own counts i (omega (arith, count)))

  digits-beside : (k : ℕ) → k < 4 → k ≢ j → (i : ℕ) → i < count_of row (actions row x send.notes k) F → get_or (olds k) i 0 ≡ get_or (news k) i 0
  digits-beside k hk other i h =
      let count = send-count level x row e send sent k hk in
      let counts = count_by level y row e four made k x send.notes hk (bits-beside k hk other) ∙ sym count in
      sym (firsts (get_or (sent_counts level y four) k 0) (get_or (sent_counts level x send) k 0) (news k) (olds k) (new.beside k hk other) counts i (omega (arith, count)))

  module _ (p : ℕ) (h : p < 8 * length line) where
    inside : p < F * row.digits
    inside = omega (arith, long, send-places level x row e send sent)

    was : get_or (digits_of line) p 0 ≡ line_digit row x send.notes olds p
    was =
        ap (λ (ds : List ℕ). get_or ds p 0) (send_line level x row e send sent)
        ∙ tab-at (F * row.digits) 0 (line_digit row x send.notes olds) p inside
        ∙ ap (line_digit row x send.notes olds) (zero-add p)

    -- no own place
    not_own : is_own (kind_at row p) ≡ false → get_or (digits_of line) p 0 ≡ line_digit row y four.notes news p
    not_own o =
        was
        ∙ other-digit row sh x y send.notes four.notes olds news p o
        (λ k low high. sym ((new.noted (pos_of row p).frame (frame-in row sh F p inside)).beside k high (λ same. omega (arith, small))))

    at : (t o : Bool) → eqb (p % 4) j ≡ t → is_own (kind_at row p) ≡ o
        → cond (t && o) (line_digit row s.earlier s.notes (λ (k : ℕ). digits_of s.buffer) p) (get_or (digits_of line) p 0) ≡ line_digit row y four.notes news p
    at true true et eo =
        let w = eqb-true (p % 4) j et in
        own-digit row sh s.earlier y s.notes four.notes (λ (k : ℕ). digits_of s.buffer) news p (omega (arith, swap_places level row e line s ok)) eo (rw w bits-own)
        (rw w digits-own)
    at true false et eo = not_own eo
    at false true et eo =
        let w = eqb-false (p % 4) j et in
        was
        ∙ own-digit row sh x y send.notes four.notes olds news p inside eo (bits-beside (p % 4) (omega arith) w) (digits-beside (p % 4) (omega arith) w)
    at false false et eo = not_own eo

  new-on : swap_line level line s ≡ sent_line level y four
  new-on =
      swap_line_lem level row e line s ok
      ∙ same_bytes (length line) _ (line_digit row y four.notes news) (λ p h. at p h (eqb (p % 4) j) (is_own (kind_at row p)) refl refl)
      ∙ ap (λ (n : ℕ). line_of row y four.notes news n) (sym four-long)
      ∙ sym (send-bytes level y row e four made)

-- a multiplexed line becomes what multiplexing the new four would have made: any accepted send of the new four
pub becomes-new : (level earlier : ℕ) (send : Lent) (s : Swap) (vote : ℕ) (four : Lent) → SendAccepted level earlier send → SwapAccepted level (sent_line level earlier send) s
    → SendAccepted level vote four → NewFour level earlier send (sent_line level earlier send) s vote four → swap_line level (sent_line level earlier send) s ≡ sent_line level vote four
becomes-new level earlier send s vote four sent ok made new =
    let on = swap-level level (sent_line level earlier send) s ok in
    new-on level earlier on.0 on.1 send sent s ok vote four made new
