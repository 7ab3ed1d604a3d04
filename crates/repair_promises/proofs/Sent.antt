-- "A multiplexed line whose only damage is of demand 3's sort, service digits excepted, comes back exactly as it was sent." With the switch on damaged national
-- digits come back too: an accepted send has 1 at every national place.
use Rattle.std.specs.Prelude.{Option, Some, None}
use mathlib.Core.Path.{◌≡◌, refl, sym, ◌∙◌, ap}
use mathlib.Core.Bool.{Bool, cond, true, false, true≢false}
use mathlib.Core.List.{List}
use Prim.Native.Nat.{ℕ, ◌*◌, ◌-◌, ◌/◌, ◌%◌, ◌^◌, ◌<◌}
use native.Mathlib.Omega.{arith}
use native.Mathlib.Nat.{lt_of_mul-lt-mul_right}
use lib.Dec.{eqb}
use lib.ListN.{length, get_or}
use borrow.Author.Tests.{eqb-true, not-false}
use Rattle.digits.specs.Digits.{digits_of, bytes_of, tab}
use Rattle.digits.proofs.Laws.{digits-length, bytes-by-place}
use Rattle.table.specs.declared.Row.{Row}
use Rattle.table.specs.Table.{level_of}
use Rattle.levels.specs.declared.order.Action.{Action}
use Rattle.levels.specs.declared.places.ServiceDigit.{ServiceDigit}
use Rattle.levels.specs.declared.places.ServiceDigit.TheVariants.{RemoteAlarm, FirstNational, SecondNational, ThirdNational, Fixed}
use Rattle.levels.specs.declared.places.Kind.{Kind}
use Rattle.levels.specs.declared.places.Kind.TheVariants.{Word, Service, Control, Justification, Tributary}
use Rattle.levels.specs.Table.{Shared}
use Rattle.levels.specs.Sizes.{on_level, frames_of, bad_line, frames_refusal}
use Rattle.levels.specs.Places.{kind_at, pos_of}
use Rattle.levels.specs.Order.{stuffed, actions, carried, before}
use Rattle.levels.proofs.Judged.{unrefused, no-frames-refused}
use Rattle.levels.proofs.Positions.{stands}
use Rattle.levels.specs.Line.{service_by, digit_by, line_digit}
use Rattle.promises.specs.Damage.{kept, liberty, line_digits}
use Rattle.promises.specs.Calls.{Lent, SendAccepted, sent_line}
use Rattle.promises.proofs.Sent.{sent-at}
use Rattle.promises.proofs.Recovered.{vote-kept, acts-kept}
use Rattle.promises.proofs.Accepted.{send-level, shared, tributary, send-sizes, send-vote, send-places, send-sound, send-bytes, send_line}
use Rattle.repair.specs.Repair.{Repaired}
use Rattle.repair.specs.Repair.{repaired_service, repaired_by, repaired_digit, becomes, number_of, changed, repaired_line, RepairMet}
use Rattle.repair.proofs.Answering.{none-refused}
use Rattle.repair_promises.specs.Repairing.{is_national, unrepaired, Wear, WearAt, WearWithSwitch, WearWithSwitchAt}
use Rattle.repair_promises.proofs.National.{national_kind, national-sent}
use Rattle.repair_promises.proofs.Places.{repaired-length, repaired-bytes, repaired-at}

-- a service digit becomes what was sent, where it is left as it came and came so, or is set to 1 and was 1
as-service : (national : Bool) (note came : ℕ) (s : ServiceDigit) → (unrepaired national s ≡ true → came ≡ service_by note s)
    → (national ≡ true → is_national s ≡ true → service_by note s ≡ 1) → repaired_service national came s ≡ service_by note s
as-service true note came RemoteAlarm keeps set = keeps refl
as-service false note came RemoteAlarm keeps set = keeps refl
as-service true note came FirstNational keeps set = sym (set refl refl)
as-service false note came FirstNational keeps set = keeps refl
as-service true note came SecondNational keeps set = sym (set refl refl)
as-service false note came SecondNational keeps set = keeps refl
as-service true note came ThirdNational keeps set = sym (set refl refl)
as-service false note came ThirdNational keeps set = keeps refl
as-service true note came Fixed keeps set = keeps refl
as-service false note came Fixed keeps set = keeps refl

-- by the decision that was sent a place becomes what was sent, where what is not repaired came as it was sent, and a national digit that is set was 1
as_sent : (row : Row) (national : Bool) (note : ℕ) (act : Action) (j r next came : ℕ) (kind : Kind) → (liberty kind act ≡ kept → came ≡ digit_by row note act j r next kind)
    → ((s : ServiceDigit) → kind ≡ Service s → unrepaired national s ≡ true → came ≡ digit_by row note act j r next kind)
    → (national ≡ true → national_kind kind ≡ true → digit_by row note act j r next kind ≡ 1)
    → repaired_by row national (stuffed note j) act r came kind ≡ digit_by row note act j r next kind
as_sent row national note act j r next came Word keeps service set = refl
as_sent row national note act j r next came (Service s) keeps service set = as-service national note came s (service s refl) set
as_sent row national note act j r next came Control keeps service set = refl
as_sent row national note act j r next came (Justification sign) keeps service set = go (carried (Justification sign) act) refl
  where
    go : (t : Bool) → carried (Justification sign) act ≡ t → cond t came 1 ≡ cond t next 1
    go true c = rw c at (keeps (rw c))
    go false c = refl
as_sent row national note act j r next came Tributary keeps service set = keeps refl

-- every note has 1 in each of the level's national bits: bits 5 and up, as many as the level has national digits
abbrev NationalsSet : Row → List ℕ → Type 0
NationalsSet row notes = (f : ℕ) → f < length notes → get_or notes f 0 / 2 ^ 5 % 2 ^ row.nationals ≡ 2 ^ row.nationals - 1

-- over the row
module _ (row : Row) (sh : Shared row) (F earlier : ℕ) (national : Bool) (notes : List ℕ) (many : length notes ≡ F) (tributary : ℕ → List ℕ) (line : List ℕ)
    (ones : national ≡ true → NationalsSet row notes) (wear : Wear row earlier national notes F (line_digits row earlier notes tributary F) (digits_of line))
    (frames : frames_of row (length line) ≡ F) where
  abbrev ds : List ℕ
  ds = digits_of line

  abbrev sent : List ℕ
  sent = line_digits row earlier notes tributary F

  places : 8 * length line ≡ F * row.digits
  places = sym (digits-length line) ∙ wear.damage.size

  back_at : (p : ℕ) → p < 8 * length line → becomes row earlier national line p ≡ line_digit row earlier notes tributary p
  unfolding repaired_digit line_digit
  back_at p h =
      let f = (pos_of row p).frame in
      let j = p % 4 in
      let hj : j < 4 = omega arith in
      let inside : p < F * row.digits = omega (arith, places) in
      let hf : f < F = lt_of_mul-lt-mul_right row.digits (omega (arith, inside, (stands row sh p).sum)) in
      let there = sent-at row sh earlier notes tributary F p inside in
      let next = get_or (tributary j) (before row (actions row earlier notes j) j (p / 4)) 0 in
      rw (frames, vote-kept row sh F earlier notes tributary ds wear.damage f j hf hj, acts-kept row sh F earlier notes tributary ds wear.damage j hj f hf)
      (as_sent row national (get_or notes f 0) (actions row earlier notes j f) j (pos_of row p).place next (get_or ds p 0) (kind_at row p)
      (λ k. wear.damage.others_kept p inside k ∙ there)
      (λ s k free. wear.service_kept p s inside k free ∙ there)
      (λ on nat.
      national-sent row sh (get_or notes f 0) (actions row earlier notes j f) j (pos_of row p).set (pos_of row p).place next nat
      (ones on f (omega (arith, hf)))))

  pub line-back : repaired_line row earlier national line ≡ bytes_of (length line) (tab (8 * length line) 0 (line_digit row earlier notes tributary))
  line-back =
      let long = repaired-length row earlier national line in
      bytes-by-place (repaired_line row earlier national line) (line_digit row earlier notes tributary) (repaired-bytes row earlier national line)
      (λ p h. let inside : p < 8 * length line = omega (arith, long) in repaired-at row earlier national line p inside ∙ back_at p inside)
      ∙ ap (λ (n : ℕ). bytes_of n (tab (8 * n) 0 (line_digit row earlier notes tributary))) long

module _ (level earlier : ℕ) (national : Bool) (row : Row) (e : level_of level ≡ Some row) (send : Lent) (ok : SendAccepted level earlier send) (line : List ℕ)
    (wear : Wear row earlier national send.notes (length send.notes) (digits_of (sent_line level earlier send)) (digits_of line)) where
  long : length line ≡ length send.line
  long = omega (arith, digits-length line, wear.damage.size, send-places level earlier row e send ok)

  -- an accepted send has them
  ones : NationalsSet row send.notes
  ones f hf =
      let bits = get_or send.notes f 0 / 2 ^ 5 % 2 ^ row.nationals in
      eqb-true bits (2 ^ row.nationals - 1) (not-false (eqb bits (2 ^ row.nationals - 1)) ((send-sound level earlier row e send ok).nationals_set f hf))

  good : bad_line row (length line) ≡ false
  unfolding frames_refusal
  good =
      rw long
      (unrefused (bad_line row (length send.line)) 2 _ (λ z. omega arith) (no-frames-refused row (length send.line) (length send.notes) (send-sizes level earlier row e send ok).framed)).0

  number : number_of row earlier (length line) ≡ 0
  number = none-refused row earlier line good (send-vote level earlier row e send ok)

  back_on : (answer : Repaired) (left : List ℕ) → RepairMet level earlier national line answer left → (answer.refusal ≡ 0) × (left ≡ sent_line level earlier send)
  unfolding changed
  back_on answer left met =
      let F = length send.notes in
      let given = tributary level earlier row e send ok in
      let repaired : left ≡ repaired_line row earlier national line = met.1 ∙ rw (e, number) in
      let worn = rw (send_line level earlier row e send ok) at wear in
      let frames : frames_of row (length line) ≡ F = rw long (sym (send-sizes level earlier row e send ok).framed.noted) in
      let sent : bytes_of (length line) (tab (8 * length line) 0 (line_digit row earlier send.notes given)) ≡ sent_line level earlier send = rw long (sym (send-bytes level earlier row e send ok)) in (
        ap (λ (r : Repaired). r.refusal) met.0 ∙ rw (e, number),
        repaired
            ∙ line-back row (shared level row e) F earlier national send.notes refl given line (λ on. ones) worn frames
            ∙ sent,
      )

-- what is said of a level is said of its row
wear-on : (level earlier : ℕ) (national : Bool) (row : Row) → level_of level ≡ Some row → (notes sent received : List ℕ) → WearAt level earlier national notes sent received
    → Wear row earlier national notes (length notes) (digits_of sent) (digits_of received)
wear-on level earlier national row e notes sent received w = rw e at w

-- the repair of a worn line of an accepted send is accepted, and leaves the line that was sent
pub comes_back : (level earlier : ℕ) (national : Bool) (send : Lent) (line : List ℕ) (answer : Repaired) (left : List ℕ) → SendAccepted level earlier send
    → WearAt level earlier national send.notes (sent_line level earlier send) line
    → RepairMet level earlier national line answer left → (answer.refusal ≡ 0) × (left ≡ sent_line level earlier send)
comes_back level earlier national send line answer left ok wear =
    let on = send-level level earlier send ok in
    let row = on.0 in
    back_on level earlier national row on.1 send ok line
    (wear-on level earlier national row on.1 send.notes (sent_line level earlier send) line wear) answer left

-- with the switch on, whatever became of the national digits
pub comes-back-with-switch : (level earlier : ℕ) (send : Lent) (line : List ℕ) (answer : Repaired) (left : List ℕ) → SendAccepted level earlier send
    → WearWithSwitchAt level earlier send.notes (sent_line level earlier send) line
    → RepairMet level earlier true line answer left → (answer.refusal ≡ 0) × (left ≡ sent_line level earlier send)
comes-back-with-switch level earlier send line answer left ok wear = comes_back level earlier true send line answer left ok (go (level_of level) wear)
  where
    no-national : (s : ServiceDigit) → unrepaired true s ≡ true → is_national s ≡ false
    no-national RemoteAlarm u = refl
    no-national FirstNational u = absurd (true≢false (sym u))
    no-national SecondNational u = absurd (true≢false (sym u))
    no-national ThirdNational u = absurd (true≢false (sym u))
    no-national Fixed u = refl

    go : (l : Option Row) → on_level l (λ (row : Row). WearWithSwitch row earlier send.notes (length send.notes) (digits_of (sent_line level earlier send)) (digits_of line)) ⊥
        → on_level l (λ (row : Row). Wear row earlier true send.notes (length send.notes) (digits_of (sent_line level earlier send)) (digits_of line)) ⊥
    go (Some row) w = record { damage = w.worn; service_kept = λ p s h k u. sym (w.others_kept p s h k (no-national s u)) }
    go None w = w
