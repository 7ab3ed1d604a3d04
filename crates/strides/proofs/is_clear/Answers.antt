-- `is_clear`: so many ones say that no window is the word (proofs/Missing.antt).
use mathlib.Core.Path.{◌≡◌, sym, ◌∙◌}
use Prim.Native.Nat.{◌%◌, ◌^◌, ◌-◌}
use borrow.Author.Tests.{eqb-true}
use lib.Bits.{bit_and, and_mask}
use Rattle.strides.proofs.Missing.{clear-is}
use Rattle.strides.proofs.is_clear.Goals as goal

pub returns : goal.returns
returns c t =
    let r = c.misses.result in
    let e : bit_and r c.args.ones ≡ c.args.ones = eqb-true _ _ t in
    let all : r % 2 ^ c.args.places ≡ 2 ^ c.args.places - 1 = sym (and_mask r c.args.places) ∙ (rw c.requires.4 at e) in
    clear-is c.args.places c.args.len c.args.word c.args.v r c.requires.2 c.requires.3 c.misses.ensures all
