-- The alarm's second statement (specs/Turns.antt): a stretch that ends turns it as request 4's sentences say, and each level's number stands at its border.
use mathlib.Core.Path.{◌≡◌, refl, sym}
use mathlib.Core.Bool.{Bool, true, false, true≢false}
use Prim.Native.Nat.{ℕ, ◌+◌}
use borrow.Author.Tests.{leb-true, leb-false, le-leb, lt-leb, eq-eqb}
use Rattle.table.specs.declared.Row.{Row}
use Rattle.table.specs.Table.{level_of}
use Rattle.pieces.specs.declared.alarm.Stretch.{Stretch}
use Rattle.pieces.specs.Alarm.{is_few, alarm_after, ended, added}
use Rattle.pieces.specs.Turns.{Turns, EveryBorder, borders}

-- ---- a stretch ends

only-begun : (few before : Bool) → alarm_after few before false ≡ true → (before ≡ true) × (few ≡ true)
only-begun true true e = (refl, refl)
only-begun true false e = absurd (true≢false (sym e))
only-begun false true e = absurd (true≢false (sym e))
only-begun false false e = absurd (true≢false (sym e))

only-ended : (few before : Bool) → alarm_after few before true ≡ false → (before ≡ false) × (few ≡ false)
only-ended false false e = (refl, refl)
only-ended true true e = absurd (true≢false e)
only-ended true false e = absurd (true≢false e)
only-ended false true e = absurd (true≢false e)

pub ended-turns : (row : Row) (st : Stretch) (zeros : ℕ) → Turns row st zeros (ended row st zeros)
ended-turns row st zeros =
    record {
      begins = λ off few lo. rw (le-leb zeros row.limit lo, few) refl;
      begins_only = λ off on.
          let both = only-begun (is_few row zeros) st.few (rw off at on) in
          (both.0, leb-true zeros row.limit both.1);
      ends = λ on few hi. rw (lt-leb zeros row.limit hi, few) refl;
      ends_only = λ on off.
          let both = only-ended (is_few row zeros) st.few (rw on at off) in
          (both.0, leb-false zeros row.limit both.1);
      few = λ lo. le-leb zeros row.limit lo;
      more = λ hi. lt-leb zeros row.limit hi;
      anew = (refl, refl);
    }

-- with the N-th digit, however many came at once
pub stretch-turns : (row : Row) (st : Stretch) (n z : ℕ) → st.digits + n ≡ row.digits → Turns row st (st.zeros + z) (added row st n z)
unfolding added
stretch-turns row st n z e = rw (eq-eqb (st.digits + n) row.digits e) (ended-turns row st (st.zeros + z))

-- ---- the borders

pub borders-hold : EveryBorder borders
unfolding level_of added
borders-hold = ((refl, refl), ((refl, refl), ((refl, refl), ((refl, refl), ((refl, refl), tt)))))
