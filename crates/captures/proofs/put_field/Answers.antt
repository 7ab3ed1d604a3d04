-- `put_field` leaves the field behind the first p bytes (Putting). Its length has two bytes, so that the high one is no more than a byte.
use mathlib.Core.Path.{◌≡◌, refl, ◌∙◌}
use Prim.Native.Nat.{◌/◌, ◌%◌}
use native.Mathlib.Omega.{arith}
use lib.ListN.{length}
use Rattle.captures.proofs.Putting.{field_put}
use Rattle.captures.proofs.put_field.Goals as goal

pub returns : goal.returns
returns c =
    let a = c.args in
    let high : length a.body.now / 256 % 256 ≡ length a.body.now / 256 = omega (arith, c.requires.0) in
    (refl, field_put a.p a.tag a.body.now a.file.now c.requires.1 _ (c.copy_from_slice.ensures.after ∙ c.to_be_bytes.ensures ∙ rw high refl) _ c.copy_from_slice-2.ensures.after)
