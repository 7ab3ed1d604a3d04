-- Wear is no less than the request's: any damage of demand 3's sort, with the service digits put back, is wear; so as much as demand 3 allows comes back.
use mathlib.Core.Path.{◌≡◌, refl, ◌∙◌, ap}
use mathlib.Core.Bool.{Bool, cond, false}
use mathlib.Core.List.{List}
use Prim.Native.Nat.{ℕ, ◌+◌, ◌*◌, ◌%◌, ◌<◌}
use native.Mathlib.Omega.{arith}
use native.Mathlib.Nat.{zero-add}
use lib.ListN.{get_or}
use Rattle.digits.specs.Digits.{Binary}
use Rattle.digits.proofs.Laws.{tab-length, tab-at, tab-binary}
use Rattle.table.specs.declared.Row.{Row}
use Rattle.levels.specs.declared.order.Action.{Action}
use Rattle.levels.specs.declared.places.Kind.{Kind}
use Rattle.levels.specs.declared.places.Kind.TheVariants.{Word, Service, Control, Justification, Tributary}
use Rattle.levels.specs.Table.{Shared}
use Rattle.levels.specs.Places.{kind_at, pos_of}
use Rattle.levels.specs.Order.{actions}
use Rattle.levels.proofs.Choice.{cond-by}
use Rattle.levels.proofs.Positions.{pos-of-sum}
use Rattle.levels.proofs.Ways.{kind-control}
use Rattle.levels.proofs.Groups.{group-same}
use Rattle.promises.specs.Damage.{kept, liberty, group_at, Damage}
use Rattle.promises.proofs.Sent.{control-place, in_line}
use Rattle.repair_promises.specs.Repairing.{is_service, service_put_back, Wear}

-- a digit that is kept is no service digit
kept-none : (kind : Kind) (act : Action) → liberty kind act ≡ kept → is_service kind ≡ false
kept-none Word act e = refl
kept-none (Service s) act e = cc
kept-none Control act e = refl
kept-none (Justification sign) act e = refl
kept-none Tributary act e = refl

module _ (row : Row) (sh : Shared row) (earlier : ℕ) (national : Bool) (notes : List ℕ) (F : ℕ) (sent received : List ℕ) (bin : Binary sent) (d : Damage row earlier notes F sent received) where
  abbrev digit : ℕ → ℕ
  digit p = cond (is_service (kind_at row p)) (get_or sent p 0) (get_or received p 0)

  abbrev worn : List ℕ
  worn = service_put_back row F sent received

  worn-at : (p : ℕ) → p < F * row.digits → get_or worn p 0 ≡ digit p
  worn-at p h = tab-at (F * row.digits) 0 digit p h ∙ ap digit (zero-add p)

  same-group : (f j : ℕ) → f < F → j < 4 → group_at row worn f j ≡ group_at row received f j
  same-group f j hf hj =
      group-same worn (f * row.digits + (row.set + j)) row.set received row.control
      (λ i hi.
      let p = f * row.digits + (row.set + j) + i * row.set in
      let e = control-place row sh f j i in
      let hs : i + 1 < row.sets = omega (arith, sh.group) in
      let hr : j < row.set = omega (arith, sh.room) in
      worn-at p (in_line row sh f (i + 1) j p e hs hr F hf) ∙ rw (pos-of-sum row sh p f (i + 1) j e hs hr, kind-control row sh (i + 1) (omega arith) j hj))

  pub put-back-wears : Wear row earlier national notes F sent worn
  put-back-wears =
      record {
        damage = record {
          digits = tab-binary (F * row.digits) 0 digit (λ p. cond-by (λ (n : ℕ). n < 2) (is_service (kind_at row p)) (bin p) (d.digits p));
          size = tab-length (F * row.digits) 0 digit;
          others_kept = λ p h k. worn-at p h ∙ rw (kept-none (kind_at row p) (actions row earlier notes (p % 4) (pos_of row p).frame) k) (d.others_kept p h k);
          few_controls = λ f j hf hj. rw (same-group f j hf hj) (d.few_controls f j hf hj);
        };
        service_kept = λ p s h k free. worn-at p h ∙ rw k;
      }
