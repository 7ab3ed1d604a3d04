-- Bytes put into a lent buffer, one field behind the other.
use mathlib.Core.Path.{◌≡◌, sym, ◌∙◌, ap, ap₂}
use mathlib.Core.Bool.{Bool, cond, true, false}
use mathlib.Core.List.{List, [], ◌∷◌, ◌++◌, append-nil, append_assoc}
use Prim.Native.Nat.{ℕ, ◌+◌, ◌-◌, ◌/◌, ◌%◌, ◌≤◌}
use native.Mathlib.Omega.{arith}
use lib.ListN.{length, take, drop, set, length-append}
use lib.Seq.{take_at, drop_at, length-take-le, sets-eq, drop-drop}
use borrow.Rule.Slice.PartMut.{put_mid, Post-is}
use Rattle.captures.specs.Captures.{field_of, file_of, put_at, filed}

module _ (p : ℕ) (xs old : List ℕ) (h : p + length xs ≤ length old) where
  -- the bytes up to the end of those put
  front : length (take p old ++ xs) ≡ p + length xs
  front = length-append (take p old) xs ∙ ap (λ (n : ℕ). n + length xs) (length-take-le p old (omega arith))

  regrouped : put_at p xs old ≡ (take p old ++ xs) ++ drop (p + length xs) old
  regrouped = sym (append_assoc (take p old) xs (drop (p + length xs) old))

  -- bytes put, and more behind them, are put at once
  pub put-behind : (ys : List ℕ) → put_at (p + length xs) ys (put_at p xs old) ≡ put_at p (xs ++ ys) old
  put-behind ys =
      let a : take (p + length xs) (put_at p xs old) ≡ take p old ++ xs
      = ap (λ (l : List ℕ). take (p + length xs) l) regrouped ∙ take_at (take p old ++ xs) (drop (p + length xs) old) (p + length xs) front in
      let b : drop (p + length xs) (put_at p xs old) ≡ drop (p + length xs) old
      = ap (λ (l : List ℕ). drop (p + length xs) l) regrouped ∙ drop_at (take p old ++ xs) (drop (p + length xs) old) (p + length xs) front in
      let n : p + length xs + length ys ≡ p + length (xs ++ ys) = omega (arith, length-append xs ys) in
      let c : drop (p + length xs + length ys) (put_at p xs old) ≡ drop (p + length (xs ++ ys)) old
      = sym (drop-drop (length ys) (p + length xs) (put_at p xs old))
      ∙ ap (λ (l : List ℕ). drop (length ys) l) b
      ∙ drop-drop (length ys) (p + length xs) old
      ∙ ap (λ (k : ℕ). drop k old) n in
      ap₂ (λ (l m : List ℕ). l ++ (ys ++ m)) a c
      ∙ append_assoc (take p old) xs (ys ++ drop (p + length (xs ++ ys)) old)
      ∙ ap (λ (l : List ℕ). take p old ++ l) (sym (append_assoc xs ys (drop (p + length (xs ++ ys)) old)))

-- what a field's tag, its length and its body leave: the tag is stored, then the others are copied into the parts that are lent for them
module _ (p tag : ℕ) (body old : List ℕ) (h : p + 3 + length body ≤ length old) where
  abbrev long : List ℕ
  long = length body / 256 ∷ length body % 256 ∷ []

  tag-put : set old p tag ≡ put_at p (tag ∷ []) old
  tag-put = sets-eq (tag ∷ []) old p (omega arith) ∙ append_assoc (take p old) (tag ∷ []) (drop (p + 1) old)

  module _ (sent : List ℕ) (led : sent ≡ long) where
    abbrev headed : List ℕ
    headed = put_mid (p + 1) (p + 3 - (p + 1)) (set old p tag) sent

    head-put : headed ≡ put_at p (tag ∷ long) old
    head-put =
        let three : p + 1 + 2 ≡ p + 3 = omega arith in
        rw (led, Post-is (p + 1) (p + 3) (set old p tag) (omega arith), tag-put) (rw three at (put-behind p (tag ∷ []) old (omega arith) long))

    module _ (part : List ℕ) (filled : part ≡ body) where
      pub field_put : put_mid (p + 3) (p + 3 + length body - (p + 3)) headed part ≡ put_at p (field_of tag body) old
      field_put =
          rw (filled, Post-is (p + 3) (p + 3 + length body) headed (omega arith), head-put)
          (put-behind p (tag ∷ long) old (omega arith) body)

-- ---- the fields of a file, one behind the other

-- what is put behind no bytes stands first
put_first : (xs old : List ℕ) → put_at 0 xs old ≡ filed xs old
put_first xs old =
    let e : 0 + length xs ≡ length xs = omega arith in
    ap (λ (n : ℕ). xs ++ drop n old) e

module _ (level : ℕ) (line label : List ℕ) where
  abbrev first_two : List ℕ
  first_two = field_of 1 (level ∷ []) ++ field_of 2 line

  pub file-length : (labelled : Bool) → length (file_of level line label labelled) ≡ 7 + length line + cond labelled (3 + length label) 0
  unfolding file_of
  file-length true = omega (arith, length-append line (field_of 3 label))
  file-length false = omega (arith, length-append {A = ℕ} line [])

  pub room_for : (labelled : Bool) (room : ℕ) → length (file_of level line label labelled) ≤ room → 7 + length line + cond labelled (3 + length label) 0 ≤ room
  room_for labelled room h = omega (arith, file-length labelled)

  module _ (old : List ℕ) (h : 7 + length line ≤ length old) (f₁ f₂ : List ℕ) (p₁ : ℕ) (e₁ : p₁ ≡ 4) (is₁ : f₁ ≡ put_at 0 (field_of 1 (level ∷ [])) old)
      (is₂ : f₂ ≡ put_at p₁ (field_of 2 line) f₁) where
    two-put : f₂ ≡ put_at 0 first_two old
    two-put = is₂ ∙ rw (e₁, is₁) (put-behind 0 (field_of 1 (level ∷ [])) old (omega arith) (field_of 2 line))

    pub unlabelled-put : f₂ ≡ filed (file_of level line label false) old
    unfolding file_of
    unlabelled-put = two-put ∙ put_first first_two old ∙ ap (λ (l : List ℕ). filed (field_of 1 (level ∷ []) ++ l) old) (sym (append-nil (field_of 2 line)))

    pub labelled-put : (p₂ : ℕ) → p₂ ≡ 7 + length line → (f₃ : List ℕ) → f₃ ≡ put_at p₂ (field_of 3 label) f₂ → f₃ ≡ filed (file_of level line label true) old
    unfolding file_of
    labelled-put p₂ e₂ f₃ is₃ =
        let at : p₂ ≡ 0 + length first_two = omega arith in
        is₃
        ∙ rw (at, two-put) (put-behind 0 first_two old (omega arith) (field_of 3 label))
        ∙ put_first (first_two ++ field_of 3 label) old
        ∙ ap (λ (l : List ℕ). filed l old) (append_assoc (field_of 1 (level ∷ [])) (field_of 2 line) (field_of 3 label))
