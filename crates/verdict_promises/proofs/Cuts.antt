-- A line cut between two frames: its notes are those of the two parts, and what a reading makes of a block is what the parts make of it one after the other.
use mathlib.Core.Path.{◌≡◌, refl, sym, ◌∙◌, ap}
use mathlib.Core.Bool.{Bool, cond, true, false}
use mathlib.Core.List.{List, ◌∷◌, ◌++◌, map}
use Prim.Native.Nat.{ℕ, zero, suc, ◌+◌, ◌*◌, ◌/◌, ◌≤◌, ◌<◌}
use native.Mathlib.Omega.{arith}
use native.Mathlib.Nat.{add-zero, add-suc, zero-add, add-mul, zero-mul, mul_left_comm}
use lib.Dec.{ltb}
use lib.ListN.{length, get_or, drop, length-append, length-map, get_or-append}
use lib.Seq.{get_or-append-add, get_or-drop}
use lib.Arith.{digits_div}
use borrow.Author.Tests.{ltb-true}
use Rattle.digits.specs.Digits.{digits_of, tab}
use Rattle.digits.proofs.Laws.{digits-length, digits_append, tab-length, tab-at, tab-of}
use Rattle.digits.proofs.Lists.{tab-cat}
use Rattle.table.specs.declared.Row.{Row}
use Rattle.levels.specs.Table.{Shared}
use Rattle.levels.specs.declared.order.Action.{Action}
use Rattle.levels.specs.Places.{noted_of}
use Rattle.levels.specs.Sizes.{frames_of}
use Rattle.levels.specs.Order.{stuffed, decisions, action_of, actions, before, places_of}
use Rattle.levels.specs.Vote.{vote_of, group_of}
use Rattle.levels.proofs.Columns.{columns}
use Rattle.levels.proofs.Inverse.{places-length}
use Rattle.reading.specs.Notes.{vote_at, service_at, note_of, notes_of}
use Rattle.extraction.specs.Quarters.{taken_to}
use Rattle.promises.proofs.Order.{places_same}
use Rattle.promises.proofs.Sent.{in_line, control-place}
use Rattle.verdict_blocks.specs.Blocks.{Block, start_of, frames_to}
use Rattle.verdict_blocks.specs.Readings.{majorities, read_by, carried_in, counts_by, ran_by}
use Rattle.verdict_blocks.proofs.Sizes.{counts-add}
use Rattle.verdict_promises.proofs.Frames.{start-alike, frames-alike, frames-cat, columns-cat}

-- ---- the notes of two runs

pub group-moved : (ds es : List ℕ) (p q set k : ℕ) → ((i : ℕ) → i < k → get_or ds (p + i * set) 0 ≡ get_or es (q + i * set) 0) → group_of ds p set k ≡ group_of es q set k
unfolding group_of
group-moved ds es p q set zero same = refl
group-moved ds es p q set (suc k) same = rw (group-moved ds es p q set k (λ i h. same i (omega arith)), same k (omega arith))

module _ (row : Row) (sh : Shared row) (F : ℕ) (one two : List ℕ) (whole : length one ≡ F * row.digits) where
  abbrev both : List ℕ
  both = one ++ two

  first-digit : (p : ℕ) → p < F * row.digits → get_or both p 0 ≡ get_or one p 0
  first-digit p h = get_or-append one two 0 p (omega (arith, whole))

  later-digit : (f x y z : ℕ) → x ≡ (F + f) * row.digits + z → y ≡ f * row.digits + z → get_or both x 0 ≡ get_or two y 0
  later-digit f x y z ex ey =
      let e : x ≡ length one + y = omega (arith, ex, ey, whole, add-mul F f row.digits) in
      ap (λ (p : ℕ). get_or both p 0) e ∙ get_or-append-add one two y 0

  module _ (f : ℕ) where
    first-vote : f < F → (j : ℕ) → j < 4 → vote_at row both f j ≡ vote_at row one f j
    unfolding vote_at
    first-vote hf j hj =
        ap vote_of
        (group-moved both one (f * row.digits + (row.set + j)) (f * row.digits + (row.set + j)) row.set row.control
        (λ i hi. first-digit (f * row.digits + (row.set + j) + i * row.set)
        (in_line row sh f (i + 1) j (f * row.digits + (row.set + j) + i * row.set) (control-place row sh f j i) (omega (arith, sh.group)) (omega (arith, sh.room)) F hf)))

    later-vote : (j : ℕ) → j < 4 → vote_at row both (F + f) j ≡ vote_at row two f j
    unfolding vote_at
    later-vote j hj =
        ap vote_of
        (group-moved both two ((F + f) * row.digits + (row.set + j)) (f * row.digits + (row.set + j)) row.set row.control
        (λ i hi. later-digit f ((F + f) * row.digits + (row.set + j) + i * row.set) (f * row.digits + (row.set + j) + i * row.set) (row.set + j + i * row.set) (omega arith) (omega arith)))

    first-service : f < F → (k : ℕ) → service_at row both f k ≡ service_at row one f k
    unfolding service_at
    first-service hf k = go (ltb k (noted_of row)) refl
      where
        go : (t : Bool) → ltb k (noted_of row) ≡ t → cond t (get_or both (f * row.digits + (row.alarm + k)) 0) 0 ≡ cond t (get_or one (f * row.digits + (row.alarm + k)) 0) 0
        go true e =
            let few : k < noted_of row = ltb-true k (noted_of row) e in
            first-digit (f * row.digits + (row.alarm + k))
            (in_line row sh f 0 (row.alarm + k) (f * row.digits + (row.alarm + k)) (omega (arith, zero-mul row.set)) (omega (arith, sh.later_set))
            (omega (arith, sh.national_next, sh.first_next, sh.room, few)) F hf)
        go false e = refl

    later-service : (k : ℕ) → service_at row both (F + f) k ≡ service_at row two f k
    unfolding service_at
    later-service k = ap (λ (d : ℕ). cond (ltb k (noted_of row)) d 0) (later-digit f ((F + f) * row.digits + (row.alarm + k)) (f * row.digits + (row.alarm + k)) (row.alarm + k) refl refl)

    pub first-note : f < F → note_of row both f ≡ note_of row one f
    unfolding note_of
    first-note hf =
        rw (
          first-vote hf 0 (omega arith),
          first-vote hf 1 (omega arith),
          first-vote hf 2 (omega arith),
          first-vote hf 3 (omega arith),
          first-service hf 0,
          first-service hf 1,
          first-service hf 2,
          first-service hf 3,
        )

    pub later-note : note_of row both (F + f) ≡ note_of row two f
    unfolding note_of
    later-note =
        rw (
          later-vote 0 (omega arith),
          later-vote 1 (omega arith),
          later-vote 2 (omega arith),
          later-vote 3 (omega arith),
          later-service 0,
          later-service 1,
          later-service 2,
          later-service 3,
        )

  pub notes-cat : (G : ℕ) → notes_of row both (F + G) ≡ notes_of row one F ++ notes_of row two G
  notes-cat G = tab-cat F G 0 (note_of row both) ∙ two-parts (tab F 0 (note_of row both)) (tab G (0 + F) (note_of row both)) first second
    where
      first : tab F 0 (note_of row both) ≡ tab F 0 (note_of row one)
      first = tab-of (tab F 0 (note_of row both)) F (note_of row one) (tab-length F 0 (note_of row both)) (λ i h. tab-at F 0 (note_of row both) i h ∙ ap (note_of row both) (zero-add i) ∙ first-note i h)

      second : tab G (0 + F) (note_of row both) ≡ tab G 0 (note_of row two)
      second =
          tab-of (tab G (0 + F) (note_of row both)) G (note_of row two) (tab-length G (0 + F) (note_of row both))
          (λ i h. tab-at G (0 + F) (note_of row both) i h ∙ ap (λ (n : ℕ). note_of row both (n + i)) (zero-add F) ∙ later-note i)

      two-parts : (a b : List ℕ) → a ≡ notes_of row one F → b ≡ notes_of row two G → a ++ b ≡ notes_of row one F ++ notes_of row two G
      two-parts a b e g = rw (e, g)

-- ---- lengths of runs

module _ (row : Row) (sh : Shared row) where
  half : columns row ≡ 2 * row.bytes
  half = omega (arith, sh.packed)

  pub in-columns : (n N : ℕ) → n ≡ N * row.bytes → 2 * n ≡ N * columns row
  in-columns n N e = ap (λ (k : ℕ). 2 * k) e ∙ mul_left_comm 2 N row.bytes ∙ ap (λ (k : ℕ). N * k) (sym half)

  some_bytes : 0 < row.bytes
  some_bytes = omega (arith, sh.packed, some-digits)
    where
      some-digits : 0 < row.digits
      some-digits = omega (arith, in_line row sh 0 0 0 0 (omega (arith, zero-mul row.digits, zero-mul row.set)) (omega (arith, sh.later_set)) (omega (arith, sh.room)) 1 (omega arith))

  pub frames-of : (n N : ℕ) → n ≡ N * row.bytes → frames_of row n ≡ N
  frames-of n N e = ap (λ (k : ℕ). k / row.bytes) e ∙ ap (λ (k : ℕ). k / row.bytes) (sym (add-zero (N * row.bytes))) ∙ digits_div N some_bytes

  module _ (F G : ℕ) (one two : List ℕ) (first : length one ≡ F * row.bytes) (second : length two ≡ G * row.bytes) where
    pub line-long : length (one ++ two) ≡ (F + G) * row.bytes
    line-long = length-append one two ∙ omega (arith, first, second, add-mul F G row.bytes)

    pub whole-digits : length (digits_of one) ≡ F * row.digits
    whole-digits = digits-length one ∙ ap (λ (k : ℕ). 8 * k) first ∙ mul_left_comm 8 F row.bytes ∙ ap (λ (k : ℕ). F * k) (sym sh.packed)

    -- the notes of the line are those of its parts
    pub majorities-cat : majorities row (one ++ two) ≡ majorities row one ++ majorities row two
    majorities-cat =
        rw (frames-of (length (one ++ two)) (F + G) line-long, frames-of (length one) F first, frames-of (length two) G second, digits_append one two)
        (notes-cat row sh F (digits_of one) (digits_of two) whole-digits G)

-- ---- how many digits a frame has

-- tributary j's bit of a list of votes
abbrev pub bit_at : List ℕ → ℕ → ℕ → Bool
bit_at votes j i = stuffed (get_or votes i 0) j

-- what a frame does by a list of votes, in terms of their bits
abbrev pub acts_of : Row → List ℕ → ℕ → ℕ → Action
acts_of row votes j f = actions row (get_or votes 0 0) (drop 1 votes) j f

pub acts-bits : (row : Row) (votes : List ℕ) (j f : ℕ) → acts_of row votes j f ≡ action_of row (bit_at votes j f) (bit_at votes j (suc f))
acts-bits row votes j f = ap (λ (t : Bool). action_of row (decisions (get_or votes 0 0 ∷ drop 1 votes) j f) t) (moved f) ∙ ap (λ (t : Bool). action_of row t (bit_at votes j (suc f))) (preceding f)
  where
    moved : (k : ℕ) → decisions (drop 1 votes) j k ≡ bit_at votes j (suc k)
    moved k = let e : 1 + k ≡ suc k = omega arith in ap (λ (n : ℕ). stuffed n j) (get_or-drop 1 votes k 0) ∙ ap (bit_at votes j) e

    preceding : (k : ℕ) → decisions (get_or votes 0 0 ∷ drop 1 votes) j k ≡ bit_at votes j k
    preceding zero = refl
    preceding (suc k) = moved k

module _ (row : Row) (sh : Shared row) (j : ℕ) (hj : j < 4) where
  -- the counts add up to the places that carry
  pub start-counts : (votes : List ℕ) (F : ℕ) → start_of (counts_by row votes j) F ≡ before row (acts_of row votes j) j (F * columns row)
  unfolding counts_by
  start-counts votes F = counts-add row sh j hj (acts_of row votes j) F

  -- and so many digits are read
  pub read_length : (votes line : List ℕ) (F : ℕ) → 2 * length line ≡ F * columns row → length (read_by row line votes j) ≡ start_of (counts_by row votes j) F
  unfolding read_by taken_to
  read_length votes line F columns-all =
      length-map (places_of row (acts_of row votes j) j (2 * length line)) (λ (p : ℕ). get_or (digits_of line) p 0)
      ∙ places-length row (acts_of row votes j) j (2 * length line)
      ∙ ap (before row (acts_of row votes j) j) columns-all
      ∙ sym (start-counts votes F)

  -- ---- a reading of two runs: by votes of which the first run's and the second run's have the same bits
  module _ (F G : ℕ) (one two : List ℕ) (first : length one ≡ F * row.bytes) (second : length two ≡ G * row.bytes) (votes v w : List ℕ)
      (begun : (i : ℕ) → i ≤ F → bit_at v j i ≡ bit_at votes j i) (gone : (i : ℕ) → i ≤ G → bit_at w j i ≡ bit_at votes j (F + i)) where
    abbrev line : List ℕ
    line = one ++ two

    acts-first : (f : ℕ) → f < F → acts_of row v j f ≡ acts_of row votes j f
    acts-first f h = acts-bits row v j f ∙ rw (begun f (omega arith), begun (suc f) (omega arith)) (sym (acts-bits row votes j f))

    acts-later : (f : ℕ) → f < G → acts_of row w j f ≡ acts_of row votes j (F + f)
    acts-later f h =
        acts-bits row w j f
        ∙ rw (gone f (omega arith), gone (suc f) (omega arith), add-suc F f) (sym (acts-bits row votes j (F + f)))

    abbrev read_one : List ℕ
    read_one = read_by row one v j

    abbrev read_two : List ℕ
    read_two = read_by row two w j

    -- the digits read of the line are those of its parts
    pub read-cat : read_by row line votes j ≡ read_one ++ read_two
    unfolding read_by taken_to
    read-cat =
        let ds = digits_of one in
        let es = digits_of two in
        let acts = acts_of row votes j in
        let all : 2 * length line ≡ F * columns row + G * columns row = in-columns row sh (length line) (F + G) (line-long row sh F G one two first second) ∙ add-mul F G (columns row) in
        let a : places_of row (acts_of row v j) j (F * columns row) ≡ places_of row acts j (F * columns row) = places_same row sh F j hj (acts_of row v j) acts acts-first (F * columns row) (omega arith) in
        let b : places_of row (acts_of row w j) j (G * columns row) ≡ places_of row (λ (f : ℕ). acts (F + f)) j (G * columns row) =
        places_same row sh G j hj (acts_of row w j) (λ (f : ℕ). acts (F + f)) acts-later (G * columns row) (omega arith) in
        rw (all, digits_append one two, in-columns row sh (length one) F first, in-columns row sh (length two) G second, a, b)
        (columns-cat row sh F acts j hj ds es (whole-digits row sh F G one two first second) (G * columns row))

    counts-first : (f : ℕ) → f < F → counts_by row v j f ≡ counts_by row votes j f
    unfolding counts_by
    counts-first f h = ap (carried_in row) (acts-first f h)

    counts-later : (f : ℕ) → f < G → counts_by row w j f ≡ counts_by row votes j (F + f)
    unfolding counts_by
    counts-later f h = ap (carried_in row) (acts-later f h)

    -- and what they make of a block
    pub ran-cat : (pattern : ℕ) (lent : ℕ → ℕ) (b : Block) → ran_by row pattern lent line votes j b ≡ ran_by row pattern lent two w j (ran_by row pattern lent one v j b)
    unfolding ran_by
    ran-cat pattern lent b =
        let starts : start_of (counts_by row votes j) F ≡ length read_one =
        sym (start-alike pattern lent (counts_by row v j) (counts_by row votes j) F counts-first) ∙ sym (read_length v one F (in-columns row sh (length one) F first)) in
        let cut =
        frames-cat pattern lent (read_by row line votes j) read_two (counts_by row votes j) (counts_by row w j) b F G counts-later
        (λ i h. ap (λ (p : ℕ). get_or (read_by row line votes j) (p + i) 0) starts ∙ ap (λ (ds : List ℕ). get_or ds (length read_one + i) 0) read-cat ∙ get_or-append-add read_one read_two i 0) in
        let same : frames_to pattern lent (read_by row line votes j) (counts_by row votes j) b F ≡ frames_to pattern lent read_one (counts_by row v j) b F =
        frames-alike pattern lent (read_by row line votes j) read_one (counts_by row votes j) (counts_by row v j) b F (λ f h. sym (counts-first f h))
        (λ i h. ap (λ (ds : List ℕ). get_or ds i 0) read-cat ∙ get_or-append read_one read_two 0 i (omega (arith, starts))) in
        rw (frames-of row sh (length line) (F + G) (line-long row sh F G one two first second), frames-of row sh (length one) F first, frames-of row sh (length two) G second)
        (cut ∙ ap (λ (c : Block). frames_to pattern lent read_two (counts_by row w j) c G) same)
