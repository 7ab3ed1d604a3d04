-- The quarters on their way: one place more is handed out, and at the end all are.
use mathlib.Core.Path.{◌≡◌, refl, sym, ◌∙◌, ap}
use mathlib.Core.Bool.{Bool, cond, true, false}
use mathlib.Core.List.{List, [], ◌∷◌, ◌++◌, append-nil}
use Prim.Native.Nat.{ℕ, zero, suc, ◌+◌, ◌*◌, ◌/◌, ◌%◌, ◌≤◌, ◌<◌}
use native.Mathlib.Omega.{arith}
use native.Mathlib.Numerals.{add-one}
use native.Mathlib.Nat.{mul_left_comm, zero-div, div-lt_iff_lt-mul, mod-lt, div-add-mod'}
use native.Mathlib.Decide.{dec_lt, ℕ_discrete}
use lib.Dec.{eqb}
use lib.Arith.{digits_div, digits_mod}
use lib.ListN.{length, get_or, replicate, length-append, length-replicate, get_or-append, get_or-eq_default}
use lib.Seq.{get_or-append_seam}
use borrow.Author.Tests.{eq-eqb, ne_eqb}
use Rattle.table.specs.declared.Row.{Row}
use Rattle.engine.specs.Engine.{digit_at, packed, sum_over, carries_at, carries_for, count_to, taken_to, handed_at}
use Rattle.engine.specs.Walk.{Bytes}
use Rattle.plain.specs.Walk.{Taken}
use Rattle.engine.proofs.Rows.{cond-by}
use Rattle.engine.proofs.Packing.{packed-is}

-- an element after a list
one_more : (xs : List ℕ) (d i : ℕ) → get_or (xs ++ (d ∷ [])) i 0 ≡ cond (eqb i (length xs)) d (get_or xs i 0)
one_more xs d i =
    elim (ℕ_discrete i (length xs)) [
      | yes e ↦ rw (eq-eqb i (length xs) e, e) (get_or-append_seam xs d [] 0)
      | no n ↦
          rw (ne_eqb i (length xs) n)
          (elim (dec_lt i (length xs)) [
            | yes l ↦ get_or-append xs (d ∷ []) 0 i l
            | no l ↦
                get_or-eq_default (xs ++ (d ∷ [])) 0 (omega (arith, length-append xs (d ∷ []))) ∙ sym (get_or-eq_default xs 0 (omega arith))
          ])
    ]

-- digit i of quarter j has its own place in the buffer
same_place : (q j i k m : ℕ) → i < 8 * q → m < 8 * q → 8 * (j * q) + i ≡ 8 * (k * q) + m → (j ≡ k) × (i ≡ m)
same_place q j i k m hi hm e =
    (sym (digits_div j hi) ∙ ap (λ (x : ℕ). x / (8 * q)) same ∙ digits_div k hm, sym (digits_mod j hi) ∙ ap (λ (x : ℕ). x % (8 * q)) same ∙ digits_mod k hm)
  where
    same : j * (8 * q) + i ≡ k * (8 * q) + m
    same = omega (arith, e, mul_left_comm j 8 q, mul_left_comm k 8 q)

module _ (row : Row) (earlier : ℕ) (notes line : List ℕ) where
  -- as many digits are taken as are counted
  pub taken-length : (j p : ℕ) → length (taken_to row earlier notes line j p) ≡ count_to row earlier notes j p
  unfolding taken_to count_to sum_over
  taken-length j zero = refl
  taken-length j (suc p) = length-append (taken_to row earlier notes line j p) _ ∙ rw (taken-length j p, one (carries_for row earlier notes j p))
    where
      one : (t : Bool) → length (cond t (digit_at line p ∷ []) []) ≡ cond t 1 0
      one true = refl
      one false = refl

  pub taken_more : (j p : ℕ) → taken_to row earlier notes line j (p + 1) ≡ taken_to row earlier notes line j p ++ cond (carries_for row earlier notes j p) (digit_at line p ∷ []) []
  unfolding taken_to
  taken_more j p = rw (add-one p)

  -- a place that is not tributary j's, or carries nothing, hands nothing to it
  taken-same : (j p : ℕ) → carries_for row earlier notes j p ≡ false → taken_to row earlier notes line j (p + 1) ≡ taken_to row earlier notes line j p
  taken-same j p e = taken_more j p ∙ rw e (append-nil (taken_to row earlier notes line j p))

  taken_own : (j p i : ℕ) → carries_for row earlier notes j p ≡ true
      → get_or (taken_to row earlier notes line j (p + 1)) i 0 ≡ cond (eqb i (count_to row earlier notes j p)) (digit_at line p) (get_or (taken_to row earlier notes line j p) i 0)
  taken_own j p i e =
      ap (λ (xs : List ℕ). get_or xs i 0) (taken_more j p)
      ∙ rw e (one_more (taken_to row earlier notes line j p) (digit_at line p) i ∙ rw (taken-length j p))

  module _ (q p : ℕ) (buffer : List ℕ) (w : Taken row earlier notes line q p buffer) where
    abbrev own : ℕ
    own = p % row.digits % 4

    abbrev index : ℕ
    index = count_to row earlier notes own p

    pub taken-idle : carries_at row earlier notes p ≡ false → Taken row earlier notes line q (p + 1) buffer
    unfolding carries_for
    taken-idle e =
        record {
          bytes = w.bytes;
          size = w.size;
          done = λ j i hj hi. w.done j i hj hi ∙ ap (λ (xs : List ℕ). get_or xs i 0) (sym (taken-same j p (rw e (cond-by (λ t. t ≡ false) (eqb own j) refl refl))));
        }

    -- which of two digits one place more hands to digit i of tributary j
    handed : (j i : ℕ) → carries_at row earlier notes p ≡ true
        → get_or (taken_to row earlier notes line j (p + 1)) i 0
        ≡ cond (eqb own j) (cond (eqb i index) (digit_at line p) (get_or (taken_to row earlier notes line j p) i 0)) (get_or (taken_to row earlier notes line j p) i 0)
    unfolding carries_for
    handed j i e =
        elim (ℕ_discrete own j) [
          | yes s ↦
              let mine : carries_for row earlier notes j p ≡ true = rw (eq-eqb own j s, e) in
              rw (eq-eqb own j s) (taken_own j p i mine ∙ rw (← s))
          | no n ↦
              let other : carries_for row earlier notes j p ≡ false = rw (ne_eqb own j n) in
              rw (ne_eqb own j n) (ap (λ (xs : List ℕ). get_or xs i 0) (taken-same j p other))
        ]

    -- past the quarter's end nothing is written
    pub taken-past : carries_at row earlier notes p ≡ true → 8 * q ≤ index → Taken row earlier notes line q (p + 1) buffer
    taken-past e past =
        record {
          bytes = w.bytes;
          size = w.size;
          done = λ j i hj hi.
              w.done j i hj hi
              ∙ sym (handed j i e ∙ rw (ne_eqb i index (λ z. omega arith)) (cond-by (λ n. n ≡ get_or (taken_to row earlier notes line j p) i 0) (eqb own j) refl refl));
        }

    pub taken-put : carries_at row earlier notes p ≡ true → index < 8 * q → (new : List ℕ) (d : ℕ) → d ≡ digit_at line p
        → ((k : ℕ) → digit_at new k ≡ cond (eqb k (8 * (own * q) + index)) d (digit_at buffer k)) → Bytes new → length new ≡ length buffer
        → Taken row earlier notes line q (p + 1) new
    taken-put e room new d ed put bytes kept = record { bytes = bytes; size = kept ∙ w.size; done = λ j i hj hi. put (8 * (j * q) + i) ∙ sym (handed j i e ∙ at j i hj hi) }
      where
        at : (j i : ℕ) → j < 4 → i < 8 * q
            → cond (eqb own j) (cond (eqb i index) (digit_at line p) (get_or (taken_to row earlier notes line j p) i 0)) (get_or (taken_to row earlier notes line j p) i 0)
            ≡ cond (eqb (8 * (j * q) + i) (8 * (own * q) + index)) d (digit_at buffer (8 * (j * q) + i))
        at j i hj hi =
            elim (ℕ_discrete own j) [
              | yes s ↦
                  elim (ℕ_discrete i index) [
                    | yes z ↦
                        let same : 8 * (j * q) + i ≡ 8 * (own * q) + index = rw (z, ← s) in
                        rw (eq-eqb own j s, eq-eqb i index z, eq-eqb (8 * (j * q) + i) (8 * (own * q) + index) same) (sym ed)
                    | no n ↦
                        rw (eq-eqb own j s, ne_eqb i index n, ne_eqb (8 * (j * q) + i) (8 * (own * q) + index) (λ z. n (same_place q j i own index hi room z).1))
                        (sym (w.done j i hj hi))
                  ]
              | no n ↦
                  rw (ne_eqb own j n, ne_eqb (8 * (j * q) + i) (8 * (own * q) + index) (λ z. n (sym (same_place q j i own index hi room z).0)))
                  (sym (w.done j i hj hi))
            ]

  -- nothing is handed out before the first place: zeros
  pub taken_start : (n q : ℕ) → n ≡ 4 * q → Taken row earlier notes line q 0 (replicate n 0)
  unfolding digit_at taken_to
  taken_start n q e =
      record {
        bytes = λ i. rw (zeros n i) (omega arith);
        size = length-replicate n 0 ∙ e;
        done = λ j i hj hi. rw (zeros n ((8 * (j * q) + i) / 8), zero-div);
      }
    where
      zeros : (n i : ℕ) → get_or (replicate {A = ℕ} n 0) i 0 ≡ 0
      zeros zero i = refl
      zeros (suc n) zero = refl
      zeros (suc n) (suc i) = zeros n i

  pub taken-all : (q p n : ℕ) (buffer : List ℕ) → Taken row earlier notes line q p buffer → p ≡ 8 * length line → n ≡ 4 * q
      → buffer ≡ packed n (handed_at row earlier notes line (8 * q))
  unfolding handed_at
  taken-all q p n buffer w e en =
      packed-is buffer (handed_at row earlier notes line (8 * q)) w.bytes digit ∙ ap (λ (m : ℕ). packed m (handed_at row earlier notes line (8 * q))) (w.size ∙ sym en)
    where
      digit : (k : ℕ) → k < 8 * length buffer → digit_at buffer k ≡ get_or (taken_to row earlier notes line (k / (8 * q)) (8 * length line)) (k % (8 * q)) 0
      digit k h =
          let some : 0 < 8 * q = omega (arith, w.size) in
          let quarter : k / (8 * q) < 4 = (div-lt_iff_lt-mul some).1 (omega (arith, w.size)) in
          let at : 8 * (k / (8 * q) * q) + k % (8 * q) ≡ k = omega (arith, mul_left_comm (k / (8 * q)) 8 q, div-add-mod' k (8 * q)) in
          rw at at (w.done (k / (8 * q)) (k % (8 * q)) quarter (mod-lt k some)) ∙ rw e
