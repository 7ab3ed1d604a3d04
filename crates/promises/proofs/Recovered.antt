-- Demand 3, first part: damage changes no vote and no digit that a tributary's place carries, so the send is read back from the damaged
-- line.
use mathlib.Core.Path.{◌≡◌, refl, sym, ◌∙◌, ap}
use mathlib.Core.Bool.{Bool, cond, true, false, false≢true}
use mathlib.Core.List.{List}
use Prim.Native.Nat.{ℕ, ◌+◌, ◌*◌, ◌%◌, ◌≤◌, ◌<◌}
use native.Mathlib.Omega.{arith}
use lib.ListN.{length, get_or, take, replicate}
use Rattle.digits.specs.Digits.{Binary, differing}
use Rattle.digits.proofs.Sums.{sum_same}
use Rattle.levels.proofs.Groups.{group-binary, differing-votes}
use Rattle.table.specs.declared.Row.{Row}
use Rattle.levels.specs.declared.vote.Vote.{Vote}
use Rattle.levels.specs.declared.order.Action.{Action}
use Rattle.levels.specs.declared.places.Kind.{Kind}
use Rattle.levels.specs.declared.places.Kind.TheVariants.{Word, Service, Control, Justification, Tributary}
use Rattle.levels.specs.Table.{Shared}
use Rattle.levels.specs.Places.{kind_at, pos_of}
use Rattle.levels.specs.Order.{decisions, actions, carried, carries, before, count_of}
use Rattle.levels.specs.Vote.{votes_for}
use Rattle.levels.proofs.Columns.{columns}
use Rattle.levels.proofs.Counts.{line-count, count_room}
use Rattle.levels.proofs.Majority.{group-length, vote-stands}
use Rattle.reading.specs.Notes.{vote_at, notes_of, dissent_to}
use Rattle.extraction.specs.Quarters.{taken_to}
use Rattle.promises.specs.Damage.{at-will, kept, liberty, liberty_at, group_at, allowed, Damage, controls_changed, line_digits}
use Rattle.promises.specs.Carried.{digits_read, digits_sent, count_sent, Room, Returned}
use Rattle.promises.proofs.Sent.{sent-group, sent-carried}
use Rattle.promises.proofs.Reading.{decisions-read}
use Rattle.promises.proofs.Order.{column-place, places_same, count_same, actions-same, digits-back}

-- a place that carries a digit is kept
pub carried-kept : (k : Kind) (act : Action) → carried k act ≡ true → liberty k act ≡ kept
carried-kept Word act c = absurd (false≢true c)
carried-kept (Service s) act c = absurd (false≢true c)
carried-kept Control act c = absurd (false≢true c)
carried-kept (Justification sign) act c = rw c
carried-kept Tributary act c = refl

-- and no other
pub kept-carries : (k : Kind) (act : Action) → liberty k act ≡ kept → carried k act ≡ true
kept-carries Word act e = cc
kept-carries (Service s) act e = cc
kept-carries Control act e = cc
kept-carries (Justification sign) act e = go (carried (Justification sign) act) refl e
  where
    go : (t : Bool) → carried (Justification sign) act ≡ t → cond t kept at-will ≡ kept → carried (Justification sign) act ≡ true
    go true c e = c
    go false c e = cc
kept-carries Tributary act e = refl

-- where a group was sent unanimous and fewer than half of its digits were changed, its vote is what was sent, and the digits that dissent are those that were changed
pub group-vote : (row : Row) → Shared row → (sent ds : List ℕ) → Binary ds → (f j : ℕ) (st : Bool) → group_at row sent f j ≡ replicate row.control (cond st 1 0)
    → differing (group_at row sent f j) (group_at row ds f j) ≤ allowed row → vote_at row ds f j ≡ record { stuffed = st; dissent = differing (group_at row sent f j) (group_at row ds f j) }
unfolding vote_at
group-vote row sh sent ds bin f j st all few =
    let g = group_at row ds f j in
    let place = f * row.digits + (row.set + j) in
    let binary : Binary g = group-binary ds bin place row.set row.control in
    let len : length g ≡ row.control = group-length ds place row.set row.control in
    let changed : votes_for (cond st 0 1) g ≡ differing (group_at row sent f j) g = sym (differing-votes st g binary) ∙ rw (len, all) in
    rw (vote-stands st g binary (omega (arith, changed, sh.odd)), changed)

module _ (row : Row) (sh : Shared row) (F : ℕ) where
  module _ (earlier : ℕ) (notes : List ℕ) (tributary : ℕ → List ℕ) (ds : List ℕ) (damage : Damage row earlier notes F (line_digits row earlier notes tributary F) ds) where
    abbrev sent : List ℕ
    sent = line_digits row earlier notes tributary F

    -- a group's vote is the send's decision, and the digits that dissent are those that were changed
    pub vote-kept : (f j : ℕ) → f < F → j < 4
        → vote_at row ds f j ≡ record { stuffed = decisions notes j f; dissent = differing (group_at row sent f j) (group_at row ds f j) }
    vote-kept f j hf hj =
        group-vote row sh sent ds damage.digits f j (decisions notes j f) (sent-group row sh earlier notes tributary F f j hf hj) (damage.few_controls f j hf hj)

    pub decision-kept : (f j : ℕ) → f < F → j < 4 → decisions (notes_of row ds F) j f ≡ decisions notes j f
    decision-kept f j hf hj = decisions-read row ds damage.digits F f j hf hj ∙ ap (λ (v : Vote). v.stuffed) (vote-kept f j hf hj)

    -- so as many digits of a tributary dissent as its control digits were changed
    pub dissent-changed : (j : ℕ) → j < 4 → dissent_to row ds j F ≡ controls_changed row F sent ds j
    dissent-changed j hj =
        sum_same F (λ (f : ℕ). (vote_at row ds f j).dissent) (λ (f : ℕ). differing (group_at row sent f j) (group_at row ds f j))
        (λ f hf. ap (λ (v : Vote). v.dissent) (vote-kept f j hf hj))

    -- a digit that a place of tributary j carries has come as it was sent
    pub digit-kept : (j : ℕ) → j < 4 → (x : ℕ) → x < F * columns row → carries row (actions row earlier notes j) (4 * x + j) ≡ true
        → get_or ds (4 * x + j) 0 ≡ get_or (tributary j) (before row (actions row earlier notes j) j x) 0
    unfolding carries
    digit-kept j hj x h c =
        let p = 4 * x + j in
        let in_line = column-place row sh F j hj x h in
        let w : p % 4 ≡ j = omega arith in
        let free : liberty_at row earlier notes p ≡ kept = rw w (carried-kept (kind_at row p) (actions row earlier notes j (pos_of row p).frame) c) in
        damage.others_kept p in_line free ∙ sent-carried row sh earlier notes tributary F j x hj in_line c

    pub acts-kept : (j : ℕ) → j < 4 → (f : ℕ) → f < F → actions row earlier (notes_of row ds F) j f ≡ actions row earlier notes j f
    acts-kept j hj = actions-same row earlier earlier (notes_of row ds F) notes j F refl (λ f hf. decision-kept f j hf hj)

    pub damage-recovered : Room row F tributary → Returned row earlier F notes tributary ds
    unfolding taken_to count_of
    damage-recovered room =
        record {
          decided = λ j f hj hf. decision-kept f j hf hj;
          counted = λ j hj. count_same row (actions row earlier (notes_of row ds F) j) (actions row earlier notes j) F (acts-kept j hj);
          digits = back;
        }
      where
        back : (j : ℕ) → j < 4 → digits_read row earlier F ds j ≡ digits_sent row earlier F notes tributary j
        back j hj =
            let d = actions row earlier notes j in
            let X = F * columns row in
            let all : before row d j X ≡ count_sent row earlier F notes j = omega (arith, line-count row sh j hj d F) in
            rw (places_same row sh F j hj (actions row earlier (notes_of row ds F) j) d (acts-kept j hj) X (omega arith))
            (digits-back row d j ds (tributary j) X (digit-kept j hj) (omega (arith, all, count_room row sh j hj d F, room j hj)) ∙ ap (λ (n : ℕ). take n (tributary j)) all)
