-- `sent_at` is `sent_at`: what the place is decides, and a tributary's next digit is the one at its running index.
use mathlib.Core.Path.{◌≡◌, refl, sym, ◌∙◌}
use native.Mathlib.Omega.{arith}
use native.Mathlib.Nat.{mod-lt}
use Prim.Native.Nat.{◌%◌}
use lib.ListN.{get_or}
use Rattle.engine.specs.Engine.{place_of, sent_at}
use Rattle.plain.proofs.Places.{in-word, in-service}
use Rattle.plain.proofs.send.sent_at.Goals as goal

pub place_in-requires : goal.place_in-requires
place_in-requires c =
    (c.requires.0, mod-lt _ (omega (arith, c.requires.0.packed, c.requires.0.some)))

pub word_digit-requires : goal.word_digit-requires
word_digit-requires c =
    (c.requires.0, in-word _ _ (sym c.place_in.ensures ∙ c.in-Alignment.is))

pub overflow_sub-q : goal.overflow_sub-q
overflow_sub-q c =
    let at = in-service c.args.row (place_of c.args.row c.args.p) (sym c.place_in.ensures ∙ c.in-Service.is) in
    omega (arith, at.0)

pub overflow_add-q : goal.overflow_add-q
overflow_add-q c =
    let at = in-service c.args.row (place_of c.args.row c.args.p) (sym c.place_in.ensures ∙ c.in-Service.is) in
    omega (arith, at.1, c.requires.0.alarms, c.requires.0.nationals)

pub note_bit-requires : goal.note_bit-requires
note_bit-requires c =
    let at = in-service c.args.row (place_of c.args.row c.args.p) (sym c.place_in.ensures ∙ c.in-Service.is) in
    omega (arith, at.1, c.requires.0.alarms, c.requires.0.nationals)

pub returns-in-Alignment : goal.returns-in-Alignment
unfolding sent_at
returns-in-Alignment c =
    rw (sym c.place_in.ensures ∙ c.in-Alignment.is) c.word_digit.ensures

pub returns-in-Service : goal.returns-in-Service
unfolding sent_at
returns-in-Service c =
    rw (sym c.place_in.ensures ∙ c.in-Service.is) c.note_bit.ensures

pub returns-in-Fixed : goal.returns-in-Fixed
unfolding sent_at
returns-in-Fixed c = rw (sym c.place_in.ensures ∙ c.in-Fixed.is) (refl, omega arith)

pub returns-in-Control : goal.returns-in-Control
unfolding sent_at
returns-in-Control c =
    rw (sym c.place_in.ensures ∙ c.in-Control.is) c.note_bit-vote.ensures

pub returns-in-Negative : goal.returns-in-Negative
unfolding sent_at
returns-in-Negative c =
    let j = c.args.p % c.args.row.digits % 4 in
    let next : get_or c.args.next.now j 0 ≡ _ = c.requires.2.each j (omega arith) in
    rw (sym c.place_in.ensures ∙ c.in-Negative.is, ← next, ← c.quarter_digit-digit.ensures.0) c.justified.ensures

pub returns-in-Positive : goal.returns-in-Positive
unfolding sent_at
returns-in-Positive c =
    let j = c.args.p % c.args.row.digits % 4 in
    let next : get_or c.args.next.now j 0 ≡ _ = c.requires.2.each j (omega arith) in
    rw (sym c.place_in.ensures ∙ c.in-Positive.is, ← next, ← c.quarter_digit-digit.ensures.0) c.justified-in-Positive.ensures

pub returns-in-Tributary : goal.returns-in-Tributary
unfolding sent_at
returns-in-Tributary c =
    let j = c.args.p % c.args.row.digits % 4 in
    let next : get_or c.args.next.now j 0 ≡ _ = c.requires.2.each j (omega arith) in
    rw (sym c.place_in.ensures ∙ c.in-Tributary.is, ← next) c.quarter_digit-digit.ensures
