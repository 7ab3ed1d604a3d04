-- The reader's walk over the fields of a file: what a field that stands says of the bytes, and that the bytes of a field stand.
use mathlib.Core.Path.{◌≡◌, refl, sym, ◌∙◌, ap, ap₂}
use mathlib.Core.Bool.{Bool, true, false, ◌&&◌, true≢false}
use mathlib.Core.List.{List, ◌∷◌, ◌++◌}
use Prim.Native.Nat.{ℕ, suc, ◌+◌, ◌/◌, ◌%◌, ◌≤◌}
use native.Mathlib.Omega.{arith}
use lib.Dec.{eqb, leb}
use lib.ListN.{length, get_or, take, drop, length-drop, take-append-drop}
use lib.Seq.{drop-cons, drop-drop, length-take-le}
use borrow.Author.Tests.{eq-eqb, le-leb, eqb-true, leb-true}
use Rattle.digits.specs.Digits.{Bytes}
use Rattle.captures.specs.Captures.{field_of, length_at, end_at, part_at, field_at, bytes_in}

both : (a b : Bool) → a && b ≡ true → (a ≡ true) × (b ≡ true)
both true b e = (refl, e)
both false b e = absurd (true≢false (sym e))

-- a field stands at byte p
pub record Stands (file : List ℕ) (p tag least most : ℕ) : Type 0 where
  pub tagged : get_or file p 0 ≡ tag
  pub enough : least ≤ length_at file p
  pub not_over : length_at file p ≤ most
  pub inside : end_at file p ≤ length file

module _ (file : List ℕ) (p tag least most : ℕ) where
  pub stands : field_at file p tag least most ≡ true → Stands file p tag least most
  unfolding field_at
  stands e =
      let one = both (eqb (get_or file p 0) tag) _ e in
      let two = both (leb least (length_at file p)) _ one.1 in
      let three = both (leb (length_at file p) most) (leb (end_at file p) (length file)) two.1 in
      record {
        tagged = eqb-true (get_or file p 0) tag one.0;
        enough = leb-true least (length_at file p) two.0;
        not_over = leb-true (length_at file p) most three.0;
        inside = leb-true (end_at file p) (length file) three.1;
      }

  pub stood : Stands file p tag least most → field_at file p tag least most ≡ true
  unfolding field_at
  stood s =
      rw (eq-eqb (get_or file p 0) tag s.tagged, le-leb least (length_at file p) s.enough, le-leb (length_at file p) most s.not_over, le-leb (end_at file p) (length file) s.inside) refl

  -- a field ends within the file
  pub within : field_at file p tag least most ≡ true → end_at file p ≤ length file
  within e = (stands e).inside

  -- the bytes of a field that stands, and what comes after it
  pub field_is : Bytes file → Stands file p tag least most → drop p file ≡ field_of tag (bytes_in file (part_at file p)) ++ drop (end_at file p) file
  field_is bytes s =
      let n = length_at file p in
      let body = take n (drop (p + 3) file) in
      let size : length body ≡ n = length-take-le n (drop (p + 3) file) (omega (arith, length-drop (p + 3) file, s.inside)) in
      let one : suc p ≡ p + 1 = omega arith in
      let two : suc (p + 1) ≡ p + 2 = omega arith in
      let three : suc (p + 2) ≡ p + 3 = omega arith in
      let high : get_or file (p + 1) 0 ≡ length body / 256 = omega (arith, size, bytes (p + 2)) in
      let low : get_or file (p + 2) 0 ≡ length body % 256 = omega (arith, size, bytes (p + 2)) in
      let rest : drop (p + 3) file ≡ body ++ drop (end_at file p) file
      = sym (take-append-drop n (drop (p + 3) file)) ∙ ap (λ (l : List ℕ). body ++ l) (drop-drop n (p + 3) file) in
      let a : drop p file ≡ get_or file p 0 ∷ drop (p + 1) file = drop-cons file p 0 (omega (arith, s.inside)) ∙ rw one refl in
      let b : drop (p + 1) file ≡ get_or file (p + 1) 0 ∷ drop (p + 2) file = drop-cons file (p + 1) 0 (omega (arith, s.inside)) ∙ rw two refl in
      let c : drop (p + 2) file ≡ get_or file (p + 2) 0 ∷ drop (p + 3) file = drop-cons file (p + 2) 0 (omega (arith, s.inside)) ∙ rw three refl in
      a ∙ ap₂ (λ (x : ℕ) (l : List ℕ). x ∷ l) s.tagged (b ∙ ap₂ (λ (x : ℕ) (l : List ℕ). x ∷ l) high (c ∙ ap₂ (λ (x : ℕ) (l : List ℕ). x ∷ l) low rest))
