-- The lengths of an accepted call.
use mathlib.Core.Path.{◌≡◌}
use mathlib.Core.Bool.{true, ◌&&◌}
use mathlib.Core.List.{List}
use Prim.Native.Nat.{ℕ}
use lib.Dec.{eqb}
use lib.ListN.{length}
use borrow.Author.Tests.{eqb-true}
use Rattle.multiframe.specs.Calls.{lengths_right}
use Rattle.digits.proofs.Tests.{and_both}

lengths-are : (m c s x : ℕ) → lengths_right m c s x ≡ true → (m ≡ 512) × (c ≡ 480) × (s ≡ 15) × (x ≡ 9)
lengths-are m c s x e =
    let one = and_both (eqb m 512) (eqb c 480 && (eqb s 15 && eqb x 9)) e in
    let two = and_both (eqb c 480) (eqb s 15 && eqb x 9) one.1 in
    let three = and_both (eqb s 15) (eqb x 9) two.1 in
    (eqb-true m 512 one.0, eqb-true c 480 two.0, eqb-true s 15 three.0, eqb-true x 9 three.1)

pub right-lengths : (multiframe channels signalling spare : List ℕ) → lengths_right (length multiframe) (length channels) (length signalling) (length spare) ≡ true
    → (length multiframe ≡ 512) × (length channels ≡ 480) × (length signalling ≡ 15) × (length spare ≡ 9)
right-lengths multiframe channels signalling spare e = lengths-are (length multiframe) (length channels) (length signalling) (length spare) e
