-- The line as it goes out: so many digits more, and a head more.
use mathlib.Core.Path.{◌≡◌, refl}
use mathlib.Core.List.{List, ◌++◌}
use Prim.Native.Nat.{ℕ, ◌+◌}
use native.Mathlib.Omega.{arith}
use lib.ListN.{length}
use Rattle.digits.specs.Digits.{written}
use Rattle.words.specs.declared.Writer.{Writer}
use Rattle.words.specs.Words.{out_from, Appended}
use Rattle.table.specs.declared.Row.{Row}
use Rattle.heads.specs.Sending.{Sent, Sending}
use Rattle.heads.proofs.Placing.{Headed}

module _ (row : Row) (earlier : ℕ) (notes buffer : List ℕ) where
  -- n digits more
  pub sending-more : (p p' n : ℕ) (l l' : List ℕ) (w r : Writer) (next next' ds : List ℕ) → Sending row earlier notes buffer p l w next → Appended l l' w r n ds
      → length l' ≡ length l → p' ≡ p + n → Sent row earlier notes buffer p' next' (out_from 0 l w ++ ds) → Sending row earlier notes buffer p' l' r next'
  sending-more p p' n l l' w r next next' ds s more kept e sent =
      record {
        fits = rw kept s.fits;
        ready = more.ready;
        place = omega (arith, more.place, s.place);
        sent = rw (more.out 0 (omega arith)) sent;
      }

  -- a head more
  pub head-sent : (p end word : ℕ) (l l' : List ℕ) (w r : Writer) (next next' : List ℕ) → Sending row earlier notes buffer p l w next
      → Appended l l' w r end (written end word) → length l' ≡ length l → Headed row earlier notes buffer p (out_from 0 l w) end word next'
      → Sending row earlier notes buffer (p + end) l' r next'
  head-sent p end word l l' w r next next' s more kept h = sending-more p (p + end) end l l' w r next next' (written end word) s more kept refl h.sent
