-- Each byte by its call. The places are numbers, so that each need is answered by itself: a search would look through all calls before.
use mathlib.Core.Path.{◌≡◌, refl}
use Prim.Native.Nat.{ℕ, ◌*◌, ◌<◌}
use native.Mathlib.Omega.{arith}
use lib.Dec.{lit<}
use Rattle.digits.specs.Digits.{bytes_of}
use Rattle.multiframe.specs.Steps.{spare_bytes}
use Rattle.multiframe.proofs.Lists.{and_then}
use Rattle.multiframe.proofs.spare_bytes.Goals as goal

within : (bytes p : ℕ) → bytes ≡ 512 → p < 4096 → p < 8 * bytes
within bytes p e h = omega arith

pub returns : goal.returns
unfolding spare_bytes bytes_of
returns c =
    and_then c.digits_at.ensures
    (and_then c.digits_at-2.ensures
    (and_then c.digits_at-3.ensures
    (and_then c.digits_at-4.ensures
    (and_then c.digits_at-5.ensures
    (and_then c.digits_at-6.ensures
    (and_then c.digits_at-7.ensures
    (and_then c.digits_at-8.ensures
    (and_then
    (rw (c.byte_of.ensures, c.digit_at-4.ensures.0, c.digit_at-3.ensures.0, c.digit_at-2.ensures.0, c.digit_at.ensures.0) refl)
    refl))))))))

pub digit_at-requires : goal.digit_at-requires
digit_at-requires c = within _ _ c.requires (lit< tt)

pub digit_at-requires-2 : goal.digit_at-requires-2
digit_at-requires-2 c = within _ _ c.requires (lit< tt)

pub digit_at-requires-3 : goal.digit_at-requires-3
digit_at-requires-3 c = within _ _ c.requires (lit< tt)

pub digit_at-requires-4 : goal.digit_at-requires-4
digit_at-requires-4 c = within _ _ c.requires (lit< tt)
