-- Laws of windows: a window that is the last digits of a past stays so as digits come, it tells whether a word has just come, and what lies
-- before the last digits does not show in them.
use mathlib.Core.Path.{◌≡◌, refl, sym, ap, ◌∙◌}
use mathlib.Core.List.{List, [], ◌∷◌, ◌++◌}
use Prim.Native.Nat.{ℕ, suc, ◌+◌, ◌*◌, ◌-◌, ◌%◌, ◌^◌, ◌≤◌, ◌<◌}
use native.Mathlib.Omega.{arith}
use lib.ListN.{length, take, drop, length-append}
use lib.Seq.{drop-append-add, drop_at, length-take-le, take-add}
use Rattle.digits.specs.Digits.{written}
use Rattle.digits.specs.Histories.{last_of, Came}
use Rattle.digits.proofs.Written.{written-length, written-more, written-inj}
use Rattle.digits.proofs.Lasts.{last_less, last_more}

-- ---- the last digits

-- what came before the last k digits does not show in them
pub last-append : (k : ℕ) (xs ys : List ℕ) → k ≤ length ys → last_of k (xs ++ ys) ≡ last_of k ys
last-append k xs ys h =
    let e : length (xs ++ ys) - k ≡ length xs + (length ys - k) = omega (arith, length-append xs ys) in
    rw e (drop-append-add xs ys (length ys - k))

last-part : (j l : ℕ) (ds : List ℕ) → j + l ≤ length ds → last_of l (take (j + l) ds) ≡ take l (drop j ds)
last-part j l ds w =
    let e : length (take (j + l) ds) - l ≡ j = omega (arith, length-take-le (j + l) ds w) in
    rw (e, take-add j l ds) (drop_at (take j ds) (take l (drop j ds)) j (length-take-le j ds (omega arith)))

-- the last l of the first k
pub last-take : (l k : ℕ) (ds : List ℕ) → l ≤ k → k ≤ length ds → last_of l (take k ds) ≡ take l (drop (k - l) ds)
last-take l k ds h w =
    let e : k - l + l ≡ k = omega arith in
    rw e at (last-part (k - l) l ds (omega arith))

-- a word that came, whatever came before
pub came-append : (word xs ys : List ℕ) → length word ≤ length ys → Came word (xs ++ ys) → Came word ys
came-append word xs ys h c = record { enough = h; last = sym (last-append (length word) xs ys h) ∙ c.last }

pub append-came : (word xs ys : List ℕ) → Came word ys → Came word (xs ++ ys)
append-came word xs ys c =
    record { enough = omega (arith, length-append xs ys, c.enough); last = last-append (length word) xs ys c.enough ∙ c.last }

-- ---- the window

written-tail : (k w : ℕ) → drop 1 (written (suc k) w) ≡ written k w
unfolding written
written-tail k w = refl

-- a window of l digits whose digits are the last of this past
pub record Recent (l w : ℕ) (past : List ℕ) : Type 0 where
  pub long : l ≤ length past
  pub window : written l w ≡ last_of l past

-- every window has one: its own digits
pub recent-own : (l w : ℕ) → Recent l w (written l w)
recent-own l w =
    let e : length (written l w) - l ≡ 0 = omega (arith, written-length l w) in
    record { long = omega (arith, written-length l w); window = rw e }

-- one digit more
pub recent-more : (l w : ℕ) (past : List ℕ) (d : ℕ) → 0 < l → d < 2 → Recent l w past → Recent l ((w * 2 + d) % 2 ^ l) (past ++ (d ∷ []))
recent-more l w past d some h t =
    let k = l - 1 in
    let e : l ≡ suc k = omega arith in
    let enough : suc k ≤ length past = rw e at t.long in
    let short : k ≤ length past = omega arith in
    let all : written (suc k) w ≡ last_of (suc k) past = rw e at t.window in
    let tail : written k w ≡ last_of k past = sym (written-tail k w) ∙ ap (drop 1) all ∙ last_less k past enough in
    record {
      long = omega (arith, length-append past (d ∷ []), t.long);
      window = rw e (written-more k w d h ∙ ap (λ (xs : List ℕ). xs ++ (d ∷ [])) tail ∙ sym (last_more k past d short));
    }

-- the window is the word exactly if the word has just come
module _ (l w : ℕ) (past : List ℕ) (t : Recent l w past) (u : ℕ) where
  pub is-came : w ≡ u → Came (written l u) past
  is-came e = record { enough = omega (arith, written-length l u, t.long); last = rw (written-length l u) (sym t.window ∙ rw e) }

  pub came-is : w < 2 ^ l → u < 2 ^ l → Came (written l u) past → w ≡ u
  came-is hw hu c = written-inj l w u hw hu (t.window ∙ (rw (written-length l u) at c.last))
