-- Alignment lost and found again: four missed words in a row, chained; and from a hunt to the first frame after it, alignment that is found is
-- not lost.
use mathlib.Core.Path.{◌≡◌, refl, sym, ap, ◌∙◌}
use mathlib.Core.Bool.{Bool, true, false, true≢false}
use mathlib.Core.List.{List, [], ◌∷◌}
use Prim.Native.Nat.{ℕ, suc, ◌+◌, ◌-◌, ◌≤◌, ◌<◌}
use native.Mathlib.Omega.{arith}
use borrow.Author.Tests.{eqb-false, eq-eqb}
use lib.Dec.{eqb}
use lib.ListN.{length, take}
use Rattle.digits.specs.Runs as runs
use Rattle.table.specs.declared.Row.{Row}
use Rattle.levels.specs.Table.{Shared}
use Rattle.modes.specs.declared.Mode.TheVariants.{Hunting, Aligned}
use Rattle.receiver.specs.declared.State.{State}
use Rattle.modes.specs.Modes.{seen_of, asks}
use Rattle.pieces.specs.Frame.{aligned, ready_of}
use Rattle.receiver.specs.Feed.{core_of, after_of}
use Rattle.receiver_promises.specs.History.{heard, ready_after, Missed}
use Rattle.pieces.proofs.Holding.{word-within}
use Rattle.digits.proofs.Tests.{and-asked}
use Rattle.receiver_promises.proofs.Alignment.{after_on, after_turn, asked-at, up_one, frame-ready, missed-on, missed-out, not-before}
use Rattle.receiver_promises.proofs.Traces.{aligned-held}

module _ (row : Row) (sh : Shared row) where
  -- ---- four missed words in a row

  -- aligned at a word, and the next four are missed: the frames of the first three are handed over, and that of the fourth is not, nor any
  -- other until three words were found again
  pub record Lost (s : State) (a b c d : List ℕ) : Type 0 where
    pub one_missed : (heard row s a).mode ≡ Aligned 1
    pub two_missed : (heard row (heard row s a) b).mode ≡ Aligned 2
    pub three_missed : (heard row (heard row (heard row s a) b) c).mode ≡ Aligned 3
    pub hunts : (heard row (heard row (heard row (heard row s a) b) c) d).mode ≡ Hunting
    pub handed : (es : List ℕ) → length es ≡ row.digits - row.len
        → (ready_after row (heard row s a) es ≡ true)
        × (ready_after row (heard row (heard row s a) b) es ≡ true)
        × (ready_after row (heard row (heard row (heard row s a) b) c) es ≡ true)
    pub not_handed : (es : List ℕ) → length es ≤ row.digits + row.digits + (row.digits - row.len)
        → ready_after row (heard row (heard row (heard row (heard row s a) b) c) d) es ≡ false

  pub lost : (s : State) → s.mode ≡ Aligned 0 → s.place ≡ 0 → (a b c d : List ℕ)
      → Missed row s a → Missed row (heard row s a) b → Missed row (heard row (heard row s a) b) c → Missed row (heard row (heard row (heard row s a) b) c) d
      → Lost s a b c d
  lost s m z a b c d ma mb mc md =
      let one = missed-on row 0 (omega arith) s m z a ma.size some ma.bad in
      let two = missed-on row 1 (omega arith) (heard row s a) one.0 one.1 b mb.size some mb.bad in
      let three = missed-on row 2 (omega arith) (heard row (heard row s a) b) two.0 two.1 c mc.size some mc.bad in
      let out = missed-out row (heard row (heard row (heard row s a) b) c) three.0 three.1 d md.size some md.bad in
      record {
        one_missed = one.0;
        two_missed = two.0;
        three_missed = three.0;
        hunts = out;
        handed = λ es l. (
          whole 1 (heard row s a) one.0 one.1 es l,
          whole 2 (heard row (heard row s a) b) two.0 two.1 es l,
          whole 3 (heard row (heard row (heard row s a) b) c) three.0 three.1 es l,
        );
        not_handed = λ es short. none (heard row (heard row (heard row (heard row s a) b) c) d) out es short;
      }
    where
      some : 0 < row.digits
      some = omega (arith, sh.word_some, word-within row sh)

      -- a word's frame is ready where the mode is aligned at the word
      whole : (m : ℕ) (s : State) → s.mode ≡ Aligned m → s.place ≡ 0 → (es : List ℕ) → length es ≡ row.digits - row.len → ready_after row s es ≡ true
      whole m s e z es l = frame-ready row s (rw e) z es (omega (arith, sh.word_some, word-within row sh)) ∙ rw (e, eq-eqb (length es) (row.digits - row.len) l)

      none : (s : State) → s.mode ≡ Hunting → (es : List ℕ) → length es ≤ row.digits + row.digits + (row.digits - row.len) → ready_after row s es ≡ false
      none s h es short = by-ready (ready_after row s es) refl
        where
          over : row.digits + row.digits + (row.digits - row.len) + 1 ≤ length es → ⊥
          over l = omega arith

          by-ready : (r : Bool) → ready_after row s es ≡ r → r ≡ false
          by-ready true e = absurd (over (not-before row s h es e))
          by-ready false e = refl

  -- ---- from a hunt to the first frame after it

  -- aligned, and the frame's last digit is not past
  abbrev pub Early : State → Type 0
  Early s = aligned s.mode ≡ true → s.place ≤ row.digits - row.len

  pub early-hunting : (s : State) → s.mode ≡ Hunting → Early s
  early-hunting s e q = absurd (true≢false (sym q ∙ ap aligned e))

  -- hunting, no frame is ready
  pub none-hunting : (s : State) → s.mode ≡ Hunting → ready_after row s [] ≡ false
  unfolding runs.heard ready_of
  none-hunting s e = rw e

  module _ (s : State) (early : Early s) (none : ready_of row (core_of s) ≡ false) (d : ℕ) where
    -- aligned, no word is judged
    not-asked : aligned s.mode ≡ true → asks row (seen_of row s.seen) s.mode s.place ≡ false
    not-asked q = by-asked (asks row (seen_of row s.seen) s.mode s.place) refl
      where
        over : s.place + 1 ≡ row.digits → ⊥
        over e = omega (arith, early q, sh.word_some, word-within row sh)

        by-asked : (b : Bool) → asks row (seen_of row s.seen) s.mode s.place ≡ b → b ≡ false
        by-asked true e = absurd (over (asked-at row (seen_of row s.seen) s.mode s.place e (aligned-held s.mode q)))
        by-asked false e = refl

    pub early-same : aligned s.mode ≡ true → (after_of row s d).mode ≡ s.mode
    early-same q = (after_on row s d (not-asked q)).0

    pub early-more : Early (after_of row s d)
    unfolding ready_of
    early-more = by-asked (asks row (seen_of row s.seen) s.mode s.place) refl
      where
        by-asked : (b : Bool) → asks row (seen_of row s.seen) s.mode s.place ≡ b → Early (after_of row s d)
        by-asked true e q = omega (arith, (after_turn row s d e).1)
        by-asked false e q =
            let on = after_on row s d e in
            let held : aligned s.mode ≡ true = sym (ap aligned on.0) ∙ q in
            let up : (after_of row s d).place ≡ s.place + 1 = on.1 ∙ up_one s.mode s.place (aligned-held s.mode held) in
            below up (early held) (eqb-false s.place (row.digits - row.len) (and-asked (aligned s.mode) (eqb s.place (row.digits - row.len)) none held))
          where
            below : (after_of row s d).place ≡ s.place + 1 → s.place ≤ row.digits - row.len → (s.place ≡ row.digits - row.len → ⊥) → (after_of row s d).place ≤ row.digits - row.len
            below up at not_last = omega arith

  -- while no frame is ready, the mode that is aligned stays
  pub early-stays : (es : List ℕ) (s : State) → Early s → aligned s.mode ≡ true
      → ((k : ℕ) → k < length es → ready_after row s (take k es) ≡ false) → (heard row s es).mode ≡ s.mode
  unfolding runs.heard
  early-stays [] s early q none = refl
  early-stays (d ∷ es) s early q none =
      let same = early-same s early (none 0 (omega arith)) d q in
      early-stays es (after_of row s d) (early-more s early (none 0 (omega arith)) d) (ap aligned same ∙ q) (λ k h. none (suc k) (omega arith)) ∙ same
