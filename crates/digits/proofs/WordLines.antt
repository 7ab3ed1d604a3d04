-- A search for words on a line. The line's words come n digits apart, and nothing else in it equals the word; the search keeps its last digits as a number. Once as
-- many digits of the line came as a word has, the window is the word exactly at the true place, whatever came before the line. So a search whose digits each
-- are a move of proofs/Deadline.antt holds the true place after as many digits of the line as were due, from any state, and as long as the line lasts.
use mathlib.Core.Path.{◌≡◌, sym, ◌∙◌}
use mathlib.Core.Bool.{cond}
use mathlib.Core.List.{List, [], ◌∷◌, ◌++◌, append-nil}
use Prim.Native.Nat.{ℕ, suc, ◌+◌, ◌*◌, ◌-◌, ◌%◌, ◌^◌, ◌≤◌, ◌<◌, min}
use native.Mathlib.Omega.{arith}
use native.Mathlib.Decide.{dec_lt}
use native.Mathlib.Nat.{mod_self, mod-lt, mod-eq_of_lt, add-mod_right, mod-add-mod}
use borrow.Author.Tests.{ltb-true, ltb-false}
use lib.Dec.{ltb}
use lib.ListN.{length, get_or, take, drop, length-drop}
use lib.Seq.{append_snoc, length-take-le, ext_get_or, get_or-take, get_or-drop}
use Rattle.digits.specs.Digits.{Binary, written}
use Rattle.digits.specs.Histories.{Came}
use Rattle.digits.specs.Runs.{heard}
use Rattle.digits.proofs.Tests.{cond-told}
use Rattle.digits.proofs.Lists.{binary-take}
use Rattle.digits.proofs.Written.{written-length}
use Rattle.digits.proofs.Runs.{heard-next, heard-kept}
use Rattle.digits.proofs.Deadline.{none-due, next, place_up, Search, Due}
use Rattle.digits.proofs.Histories.{Recent, recent-own, recent-more, is-came, came-is, came-append, append-came, last-take}

-- ---- the line: a word's first digit stands at place `begin` of its n digits, and the line's first digit at place o

module _ (n l begin rest o : ℕ) (ends : begin + l + rest ≡ n) (some : 0 < l) (word ds : List ℕ) (long : length word ≡ l)
    (words : (i j : ℕ) → i < length ds → j < l → (o + i) % n ≡ begin + j → get_or ds i 0 ≡ get_or word j 0)
    (no_others : (i : ℕ) → i + l ≤ length ds → take l (drop i ds) ≡ word → (o + i) % n ≡ begin) where
  -- the true place after k digits, 0 where the last of them is a word's last, is told by where a word begins
  place_of : (k : ℕ) → l ≤ k → (o + k + rest) % n ≡ ((o + (k - l)) % n + (n - begin)) % n
  place_of k h =
      let e : o + k + rest ≡ o + (k - l) + (n - begin) = omega arith in
      rw e (sym (mod-add-mod (o + (k - l)) n (n - begin)))

  begins : (y : ℕ) → y < n → (y + (n - begin)) % n ≡ 0 → y ≡ begin
  begins y h e =
      elim (dec_lt y begin) [
        | yes q ↦ absurd (under (sym (mod-eq_of_lt {n = y + (n - begin)} {m = n} (omega arith)) ∙ e))
        | no q ↦
            let f : y + (n - begin) ≡ y - begin + n = omega arith in
            omega (arith, sym (mod-eq_of_lt {n = y - begin} {m = n} (omega arith)) ∙ sym (add-mod_right (y - begin) n) ∙ (rw f at e))
      ]
    where
      under : y + (n - begin) ≡ 0 → ⊥
      under z = omega arith

  begun : (y : ℕ) → y ≡ begin → (y + (n - begin)) % n ≡ 0
  begun y e =
      let f : y + (n - begin) ≡ n = omega arith in
      rw f (mod_self n)

  -- at the true place the word has just come
  comes : (k : ℕ) → l ≤ k → k ≤ length ds → (o + k + rest) % n ≡ 0 → Came word (take k ds)
  comes k h w z =
      record {
        enough = omega (arith, length-take-le k ds w, long);
        last = rw long (last-take l k ds h w ∙ ext_get_or 0 (take l (drop (k - l) ds)) word (part_length ∙ sym long) each);
      }
    where
      part_length : length (take l (drop (k - l) ds)) ≡ l
      part_length = length-take-le l (drop (k - l) ds) (omega (arith, length-drop (k - l) ds))

      start : (o + (k - l)) % n ≡ begin
      start = begins ((o + (k - l)) % n) (mod-lt (o + (k - l)) (omega arith)) (sym (place_of k h) ∙ z)

      at : (i : ℕ) → i < l → (o + (k - l + i)) % n ≡ begin + i
      at i hi =
          let e : o + (k - l + i) ≡ o + (k - l) + i = omega arith in
          rw (e, ← mod-add-mod (o + (k - l)) n i, start) (mod-eq_of_lt {n = begin + i} {m = n} (omega arith))

      each : (i : ℕ) → i < length (take l (drop (k - l) ds)) → get_or (take l (drop (k - l) ds)) i 0 ≡ get_or word i 0
      each i hi =
          let lt : i < l = omega (arith, part_length) in
          rw (get_or-take l (drop (k - l) ds) i 0 lt, get_or-drop (k - l) ds i 0) (words (k - l + i) i (omega arith) lt (at i lt))

  -- and nowhere else
  only : (k : ℕ) → k ≤ length ds → Came word (take k ds) → (o + k + rest) % n ≡ 0
  only k w c =
      let h : l ≤ k = omega (arith, c.enough, long, length-take-le k ds w) in
      place_of k h ∙ begun ((o + (k - l)) % n) (no_others (k - l) (omega arith) (sym (last-take l k ds h w) ∙ (rw long at c.last)))

-- ---- the search: its window of l digits, and how many digits it has seen, stopping at l

module _ {S : Type 0} (step : S → ℕ → S) (l : ℕ) (some : 0 < l) (window seen : S → ℕ)
    (windows : (s : S) (d : ℕ) → window (step s d) ≡ (window s * 2 + d) % 2 ^ l)
    (sees : (s : S) (d : ℕ) → seen (step s d) ≡ cond (ltb (seen s) l) (seen s + 1) (seen s)) where
  recent-on : (es past : List ℕ) (s : S) → Binary es → Recent l (window s) past → Recent l (window (heard step s es)) (past ++ es)
  unfolding heard
  recent-on [] past s bin t = rw (append-nil past) t
  recent-on (d ∷ es) past s bin t =
      rw (append_snoc past d es) at
      (recent-on es (past ++ (d ∷ [])) (step s d) (λ i. bin (suc i)) (rw (windows s d) (recent-more l (window s) past d some (bin 0) t)))

  seen-on : (es : List ℕ) (s : S) (n : ℕ) → min n l ≤ seen s → min (n + length es) l ≤ seen (heard step s es)
  unfolding heard
  seen-on [] s n h = omega arith
  seen-on (d ∷ es) s n h =
      let e : suc n + length es ≡ n + suc (length es) = omega arith in
      rw e at (seen-on es (step s d) (suc n) (rw (sees s d) one))
    where
      one : min (suc n) l ≤ cond (ltb (seen s) l) (seen s + 1) (seen s)
      one = cond-told (λ (k : ℕ). min (suc n) l ≤ k) (ltb (seen s) l) (λ e. omega (arith, ltb-true (seen s) l e)) (λ e. omega (arith, ltb-false (seen s) l e))

  module _ (s : S) (ds : List ℕ) (bin : Binary ds) (k : ℕ) (within : k ≤ length ds) (enough : l ≤ k) where
    all_seen : l ≤ seen (heard step s (take k ds))
    all_seen = omega (arith, length-take-le k ds within, seen-on (take k ds) s 0 (omega arith))

    recent : Recent l (window (heard step s (take k ds))) (written l (window s) ++ take k ds)
    recent = recent-on (take k ds) (written l (window s)) s (binary-take k ds bin) (recent-own l (window s))

    -- the window is the word exactly if the word has just come
    window-came : (u : ℕ) → window (heard step s (take k ds)) ≡ u → Came (written l u) (take k ds)
    window-came u e =
        came-append (written l u) (written l (window s)) (take k ds) (omega (arith, written-length l u, length-take-le k ds within))
        (is-came l (window (heard step s (take k ds))) (written l (window s) ++ take k ds) recent u e)

    came-window : (u : ℕ) → window (heard step s (take k ds)) < 2 ^ l → u < 2 ^ l → Came (written l u) (take k ds) → window (heard step s (take k ds)) ≡ u
    came-window u fits fits' c =
        came-is l (window (heard step s (take k ds))) (written l (window s) ++ take k ds) recent u fits fits'
        (append-came (written l u) (written l (window s)) (take k ds) c)

-- ---- the search on the line: it is in a valid state, and needs so many words yet. E is what the line says of other digits, by their true place; each digit at
-- which the window is the word exactly at the true place is a move

module _ {S : Type 0} (step : S → ℕ → S) (n l begin rest hunt u : ℕ) (ends : begin + l + rest ≡ n) (some : 0 < l) (window seen place : S → ℕ) (needs : S → Search)
    (windows : (s : S) (d : ℕ) → window (step s d) ≡ (window s * 2 + d) % 2 ^ l)
    (sees : (s : S) (d : ℕ) → seen (step s d) ≡ cond (ltb (seen s) l) (seen s + 1) (seen s))
    (P : S → Type 0) (keeps : (s : S) → P s → (d : ℕ) → P (step s d)) (fits : (s : S) → P s → window s < 2 ^ l) (word_fits : u < 2 ^ l)
    (E : ℕ → ℕ → Type 0)
    (moves : (s : S) → P s → (d due t : ℕ) → t < n → l ≤ seen (step s d)
    → (window (step s d) ≡ u → next n t ≡ 0) → (next n t ≡ 0 → window (step s d) ≡ u) → E (next n t) d
    → Due n hunt due t (needs s) (place s) → Due n hunt (due - 1) (next n t) (needs (step s d)) (place (step s d)))
    (s : S) (v : P s) (o : ℕ) (ds : List ℕ) (bin : Binary ds)
    (words : (i j : ℕ) → i < length ds → j < l → (o + i) % n ≡ begin + j → get_or ds i 0 ≡ get_or (written l u) j 0)
    (no_others : (i : ℕ) → i + l ≤ length ds → take l (drop i ds) ≡ written l u → (o + i) % n ≡ begin)
    (others : (k : ℕ) → k < length ds → E ((o + suc k + rest) % n) (get_or ds k 0)) where
  abbrev after : ℕ → S
  after k = heard step s (take k ds)

  abbrev true-at : ℕ → ℕ
  true-at k = (o + k + rest) % n

  falls : (due k : ℕ) → l - 1 ≤ k → k < length ds → Due n hunt due (true-at k) (needs (after k)) (place (after k))
      → Due n hunt (due - 1) (true-at (suc k)) (needs (after (suc k))) (place (after (suc k)))
  falls due k h w x =
      let e : o + suc k + rest ≡ suc (o + k + rest) = omega arith in
      let up : true-at (suc k) ≡ next n (true-at k) = rw e (place_up n (o + k + rest) (omega arith)) in
      let on : after (suc k) ≡ step (after k) (get_or ds k 0) = heard-next step s ds k w in
      let long = written-length l u in
      let came = window-came step l some window seen windows sees s ds bin (suc k) (omega arith) (omega arith) u in
      let is = came-window step l some window seen windows sees s ds bin (suc k) (omega arith) (omega arith) u (fits (after (suc k)) (valid (suc k))) word_fits in
      rw (up, on)
      (moves (after k) (valid k) (get_or ds k 0) due (true-at k) (mod-lt (o + k + rest) (omega arith))
      (rw on at (all_seen step l some window seen windows sees s ds bin (suc k) (omega arith) (omega arith)))
      (λ q. sym up ∙ only n l begin rest o ends some (written l u) ds long words no_others (suc k) (omega arith) (came (rw on q)))
      (λ z. rw on at (is (comes n l begin rest o ends some (written l u) ds long words no_others (suc k) (omega arith) (omega arith) (up ∙ z))))
      (rw up at (others k w))
      x)
    where
      valid : (k : ℕ) → P (after k)
      valid k = heard-kept step P keeps (take k ds) s v

  -- of the first l - 1 digits nothing is claimed, since window and line together may make a false word. Where at most so many are due after them, none is later
  pub none_left : (due : ℕ) → Due n hunt due (true-at (l - 1)) (needs (after (l - 1))) (place (after (l - 1)))
      → (k : ℕ) → l - 1 + due ≤ k → k ≤ length ds → Due n hunt 0 (true-at k) (needs (after k)) (place (after k))
  none_left = none-due (λ (due k : ℕ). Due n hunt due (true-at k) (needs (after k)) (place (after k))) (l - 1) (length ds) falls
