-- Two runs of frames one after the other: their notes, the digits that each tributary has in them, and what they make of a block, are those of the runs by themselves.
use mathlib.Core.Path.{◌≡◌, refl, sym, ◌∙◌, ap}
use mathlib.Core.Bool.{Bool, cond, true, false}
use mathlib.Core.List.{List, [], ◌∷◌, ◌++◌, map, append-nil, append_assoc}
use Prim.Native.Nat.{ℕ, zero, suc, ◌+◌, ◌*◌, ◌<◌}
use native.Mathlib.Omega.{arith}
use native.Mathlib.Nat.{add-zero, add-suc, add-mul}
use lib.ListN.{length, get_or, get_or-append}
use lib.Seq.{get_or-append-add}
use Rattle.digits.proofs.Laws.{map-append}
use Rattle.table.specs.declared.Row.{Row}
use Rattle.levels.specs.Table.{Shared}
use Rattle.levels.specs.declared.order.Action.{Action}
use Rattle.levels.specs.Places.{pos_of}
use Rattle.levels.specs.Order.{carries, places_of}
use Rattle.levels.proofs.Positions.{stands, pos-of-sum}
use Rattle.levels.proofs.Columns.{columns, frame-start}
use Rattle.promises.proofs.Order.{column-place, digits_same}
use Rattle.verdict_blocks.specs.Blocks.{Block, digit_of, digits_to, frame_to, start_of, frames_to}

-- ---- only a frame's digits count

module _ (pattern : ℕ) (lent : ℕ → ℕ) where
  pub digits-alike : (ds es : List ℕ) (p q : ℕ) (b : Block) (n : ℕ) → ((i : ℕ) → i < n → get_or ds (p + i) 0 ≡ get_or es (q + i) 0)
      → digits_to pattern lent ds p b n ≡ digits_to pattern lent es q b n
  unfolding digits_to
  digits-alike ds es p q b zero same = refl
  digits-alike ds es p q b (suc n) same =
      ap (λ (c : Block). digit_of pattern lent c (get_or ds (p + n) 0)) (digits-alike ds es p q b n (λ i h. same i (omega arith)))
      ∙ ap (digit_of pattern lent (digits_to pattern lent es q b n)) (same n (omega arith))

  pub frame-alike : (ds es : List ℕ) (p q n m : ℕ) (b : Block) → n ≡ m → ((i : ℕ) → i < n → get_or ds (p + i) 0 ≡ get_or es (q + i) 0)
      → frame_to pattern lent ds p n b ≡ frame_to pattern lent es q m b
  unfolding frame_to
  frame-alike ds es p q n m b e same = rw (digits-alike ds es p q b n same, e)

  pub start-alike : (c d : ℕ → ℕ) (F : ℕ) → ((f : ℕ) → f < F → c f ≡ d f) → start_of c F ≡ start_of d F
  unfolding start_of
  start-alike c d zero same = refl
  start-alike c d (suc F) same = rw (start-alike c d F (λ f h. same f (omega arith)), same F (omega arith))

  pub start-cat : (c d : ℕ → ℕ) (F G : ℕ) → ((g : ℕ) → g < G → d g ≡ c (F + g)) → start_of c (F + G) ≡ start_of c F + start_of d G
  unfolding start_of
  start-cat c d F zero same = rw (add-zero F, add-zero (start_of c F))
  start-cat c d F (suc G) same =
      let one = start-cat c d F G (λ g h. same g (omega arith)) in
      let two = same G (omega arith) in
      rw (add-suc F G) (omega (arith, one, two))

  pub frames-more : (ds : List ℕ) (c : ℕ → ℕ) (b : Block) (F : ℕ)
      → frames_to pattern lent ds c b (suc F) ≡ frame_to pattern lent ds (start_of c F) (c F) (frames_to pattern lent ds c b F)
  unfolding frames_to
  frames-more ds c b F = refl

  frames-none : (ds : List ℕ) (c : ℕ → ℕ) (b : Block) → frames_to pattern lent ds c b 0 ≡ b
  unfolding frames_to
  frames-none ds c b = refl

  start-more : (c : ℕ → ℕ) (F : ℕ) → start_of c (suc F) ≡ start_of c F + c F
  unfolding start_of
  start-more c F = refl

  -- frames with as many digits, and the same
  pub frames-alike : (ds es : List ℕ) (c d : ℕ → ℕ) (b : Block) (F : ℕ) → ((f : ℕ) → f < F → c f ≡ d f)
      → ((i : ℕ) → i < start_of c F → get_or ds i 0 ≡ get_or es i 0) → frames_to pattern lent ds c b F ≡ frames_to pattern lent es d b F
  frames-alike ds es c d b zero counts same = frames-none ds c b ∙ sym (frames-none es d b)
  frames-alike ds es c d b (suc F) counts same =
      let starts = start-alike c d F (λ f h. counts f (omega arith)) in
      frames-more ds c b F
      ∙ frame-alike ds es (start_of c F) (start_of d F) (c F) (d F) (frames_to pattern lent ds c b F) (counts F (omega arith))
      (λ i h. ap (λ (p : ℕ). get_or ds (p + i) 0) starts ∙ same (start_of d F + i) (omega (arith, starts, start-more c F)))
      ∙ ap (frame_to pattern lent es (start_of d F) (d F)) (frames-alike ds es c d b F (λ f h. counts f (omega arith)) (λ i h. same i (omega (arith, start-more c F))))
      ∙ sym (frames-more es d b F)

  -- the frames of one run, then those of another
  pub frames-cat : (ds es : List ℕ) (c d : ℕ → ℕ) (b : Block) (F G : ℕ) → ((g : ℕ) → g < G → d g ≡ c (F + g))
      → ((i : ℕ) → i < start_of d G → get_or ds (start_of c F + i) 0 ≡ get_or es i 0)
      → frames_to pattern lent ds c b (F + G) ≡ frames_to pattern lent es d (frames_to pattern lent ds c b F) G
  frames-cat ds es c d b F zero counts same = ap (frames_to pattern lent ds c b) (add-zero F) ∙ sym (frames-none es d (frames_to pattern lent ds c b F))
  frames-cat ds es c d b F (suc G) counts same =
      let starts : start_of c (F + G) ≡ start_of c F + start_of d G = start-cat c d F G (λ g h. counts g (omega arith)) in
      ap (frames_to pattern lent ds c b) (add-suc F G)
      ∙ frames-more ds c b (F + G)
      ∙ frame-alike ds es (start_of c (F + G)) (start_of d G) (c (F + G)) (d G) (frames_to pattern lent ds c b (F + G)) (sym (counts G (omega arith)))
      (λ i h. here (start_of c (F + G)) (start_of d G) starts i (same (start_of d G + i) (omega (arith, start-more d G, counts G (omega arith)))))
      ∙ ap (frame_to pattern lent es (start_of d G) (d G)) (frames-cat ds es c d b F G (λ g h. counts g (omega arith)) (λ i h. same i (omega (arith, start-more d G))))
      ∙ sym (frames-more es d (frames_to pattern lent ds c b F) G)
    where
      here : (x y : ℕ) → x ≡ start_of c F + y → (i : ℕ) → get_or ds (start_of c F + (y + i)) 0 ≡ get_or es (y + i) 0 → get_or ds (x + i) 0 ≡ get_or es (y + i) 0
      here x y e i it = let g : x + i ≡ start_of c F + (y + i) = omega (arith, e) in ap (λ (p : ℕ). get_or ds p 0) g ∙ it

-- ---- places of the second run

module _ (row : Row) (sh : Shared row) (F : ℕ) where
  later-sum : (p f s r : ℕ) → p ≡ f * row.digits + (s * row.set + r) → F * row.digits + p ≡ (F + f) * row.digits + (s * row.set + r)
  later-sum p f s r e = omega (arith, e, add-mul F f row.digits)

  -- a place so many frames on stands in the frame so many on, and is what it is
  module _ (p : ℕ) where
    later-at : pos_of row (F * row.digits + p) ≡ record { frame = F + (pos_of row p).frame; set = (pos_of row p).set; place = (pos_of row p).place }
    later-at =
        let at = stands row sh p in
        pos-of-sum row sh (F * row.digits + p) (F + (pos_of row p).frame) (pos_of row p).set (pos_of row p).place
        (later-sum p (pos_of row p).frame (pos_of row p).set (pos_of row p).place at.sum) at.set_in at.place_in

    later-carries : (acts : ℕ → Action) → carries row acts (F * row.digits + p) ≡ carries row (λ (f : ℕ). acts (F + f)) p
    unfolding carries
    later-carries acts = rw later-at refl

  abbrev X : ℕ
  X = F * columns row

  module _ (acts : ℕ → Action) (j : ℕ) (hj : j < 4) where
    abbrev later : ℕ → Action
    later f = acts (F + f)

    column-later : (x : ℕ) → 4 * (X + x) + j ≡ F * row.digits + (4 * x + j)
    column-later x = omega (arith, frame-start row sh j hj F)

    places-more : (acts : ℕ → Action) (x : ℕ) → places_of row acts j (suc x) ≡ places_of row acts j x ++ cond (carries row acts (4 * x + j)) ((4 * x + j) ∷ []) []
    unfolding places_of
    places-more acts x = refl

    pub taken_more : (ds : List ℕ) (acts : ℕ → Action) (x : ℕ)
        → map (λ (p : ℕ). get_or ds p 0) (places_of row acts j (suc x))
        ≡ map (λ (p : ℕ). get_or ds p 0) (places_of row acts j x) ++ cond (carries row acts (4 * x + j)) (get_or ds (4 * x + j) 0 ∷ []) []
    taken_more ds acts x =
        ap (map (λ (p : ℕ). get_or ds p 0)) (places-more acts x)
        ∙ map-append (λ (p : ℕ). get_or ds p 0) (places_of row acts j x) (cond (carries row acts (4 * x + j)) ((4 * x + j) ∷ []) [])
        ∙ ap (λ (l : List ℕ). map (λ (p : ℕ). get_or ds p 0) (places_of row acts j x) ++ l) (go (carries row acts (4 * x + j)))
      where
        go : (t : Bool) → map (λ (p : ℕ). get_or ds p 0) (cond t ((4 * x + j) ∷ []) []) ≡ cond t (get_or ds (4 * x + j) 0 ∷ []) []
        go true = refl
        go false = refl

    -- the digits of the columns of two runs: those of the first, then those of the second
    module _ (one two : List ℕ) (whole : length one ≡ F * row.digits) where
      abbrev both : List ℕ
      both = one ++ two

      abbrev at : List ℕ → (ℕ → Action) → ℕ → List ℕ
      at ds acts x = map (λ (p : ℕ). get_or ds p 0) (places_of row acts j x)

      digit-later : (x : ℕ) → get_or both (4 * (X + x) + j) 0 ≡ get_or two (4 * x + j) 0
      digit-later x =
          let e : 4 * (X + x) + j ≡ length one + (4 * x + j) = column-later x ∙ omega (arith, whole) in
          ap (λ (p : ℕ). get_or both p 0) e ∙ get_or-append-add one two (4 * x + j) 0

      carries-later : (x : ℕ) → carries row acts (4 * (X + x) + j) ≡ carries row later (4 * x + j)
      carries-later x = ap (carries row acts) (column-later x) ∙ later-carries (4 * x + j) acts

      first_run : at both acts X ≡ at one acts X
      first_run = digits_same row acts j both one X (λ y hy c. get_or-append one two 0 (4 * y + j) (omega (arith, whole, column-place row sh F j hj y hy)))

      no-columns : (l : List ℕ) → l ++ at two later 0 ≡ l
      unfolding places_of
      no-columns l = append-nil l

      pub columns-cat : (x : ℕ) → at both acts (X + x) ≡ at one acts X ++ at two later x
      columns-cat zero = ap (at both acts) (add-zero X) ∙ first_run ∙ sym (no-columns (at one acts X))
      columns-cat (suc x) =
          ap (at both acts) (add-suc X x)
          ∙ taken_more both acts (X + x)
          ∙ joined (at both acts (X + x)) (at one acts X) (at two later x) (carries row acts (4 * (X + x) + j)) (carries row later (4 * x + j)) (get_or both (4 * (X + x) + j) 0) (get_or two (4 * x + j) 0)
          (columns-cat x) (carries-later x) (digit-later x)
          ∙ ap (λ (l : List ℕ). at one acts X ++ l) (sym (taken_more two later x))
        where
          joined : (a b c : List ℕ) (s t : Bool) (d e : ℕ) → a ≡ b ++ c → s ≡ t → d ≡ e → a ++ cond s (d ∷ []) [] ≡ b ++ (c ++ cond t (e ∷ []) [])
          joined a b c s t d e h g k = rw (h, g, k) (append_assoc b c (cond t (e ∷ []) []))
