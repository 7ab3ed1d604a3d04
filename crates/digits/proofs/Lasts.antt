-- Laws of the last digits of a history, and of the history some digits ago, as one digit more comes.
use mathlib.Core.Path.{◌≡◌, ◌∙◌}
use mathlib.Core.List.{List, [], ◌∷◌, ◌++◌}
use Prim.Native.Nat.{ℕ, suc, ◌+◌, ◌-◌, ◌≤◌}
use native.Mathlib.Omega.{arith}
use lib.ListN.{length, drop, replicate, length-append, length-drop, length-replicate}
use lib.Seq.{drop-append-le, drop-append-add, drop-drop, take-append-le, take_all, get_or-drop}
use Rattle.digits.specs.Digits.{Binary}
use Rattle.digits.specs.Histories.{last_of, ago}

pub last-length : (k : ℕ) (ds : List ℕ) → k ≤ length ds → length (last_of k ds) ≡ k
last-length k ds h = omega (arith, length-drop (length ds - k) ds)

pub last-binary : (k : ℕ) (ds : List ℕ) → Binary ds → Binary (last_of k ds)
last-binary k ds bin i = rw (get_or-drop (length ds - k) ds i 0) (bin (length ds - k + i))

pub last_more : (k : ℕ) (ds : List ℕ) (d : ℕ) → k ≤ length ds → last_of (suc k) (ds ++ (d ∷ [])) ≡ last_of k ds ++ (d ∷ [])
last_more k ds d h =
    let e : length (ds ++ (d ∷ [])) - suc k ≡ length ds - k = omega (arith, length-append ds (d ∷ [])) in
    rw e (drop-append-le (length ds - k) ds (d ∷ []) (omega arith))

pub last_less : (k : ℕ) (ds : List ℕ) → suc k ≤ length ds → drop 1 (last_of (suc k) ds) ≡ last_of k ds
last_less k ds h =
    let e : length ds - suc k + 1 ≡ length ds - k = omega arith in
    drop-drop 1 (length ds - suc k) ds ∙ rw e

pub ago-none : (ds : List ℕ) → ago 0 ds ≡ ds
ago-none ds = take_all (length ds - 0) ds (omega arith)

pub ago-more : (k : ℕ) (ds : List ℕ) (d : ℕ) → ago (suc k) (ds ++ (d ∷ [])) ≡ ago k ds
ago-more k ds d =
    let e : length (ds ++ (d ∷ [])) - suc k ≡ length ds - k = omega (arith, length-append ds (d ∷ [])) in
    rw e (take-append-le (length ds - k) ds (d ∷ []) (omega arith))

-- where enough digits came, zeros before the first do not show
pub last-zeros : (k : ℕ) (ds : List ℕ) → k ≤ length ds → last_of k (replicate k 0 ++ ds) ≡ last_of k ds
last-zeros k ds h =
    let n : length (replicate {A = ℕ} k 0) ≡ k = length-replicate k 0 in
    let e : length (replicate k 0 ++ ds) - k ≡ length (replicate {A = ℕ} k 0) + (length ds - k) =
    omega (arith, length-append (replicate k 0) ds, n) in
    rw e (drop-append-add (replicate k 0) ds (length ds - k))
