-- Laws of columns: what the table spreads, that the number of a few columns has their digits, and columns after columns.
use mathlib.Core.Path.{◌≡◌, refl, sym, ap, ap₂, ◌∙◌}
use mathlib.Core.List.{List, [], ◌∷◌, ◌++◌, append_assoc, append-nil}
use Prim.Native.Nat.{ℕ, zero, suc, ◌+◌, ◌-◌, ◌*◌, ◌/◌, ◌%◌, ◌^◌, ◌≤◌, ◌<◌}
use native.Mathlib.Omega.{arith}
use native.Mathlib.Nat.{pow-suc, add-zero, add-suc, zero-add, suc-add}
use lib.ListN.{length, get_or}
use lib.Pow.{high, low, pow-add}
use Rattle.digits.specs.Digits.{Binary, window_at, written}
use Rattle.digits.proofs.Windows.{window-lt, window-first, window-last}
use Rattle.digits.proofs.Written.{written-cat}
use Rattle.words.specs.declared.Writer.{Writer}
use Rattle.words.specs.Words.{Ready, Appended}
use Rattle.words.proofs.Writing.{appended-none, appended-more}
use Rattle.weave.specs.declared.Next.{Next}
use Rattle.weave.specs.Weave.{spread_of, weave_of, moved_on, woven, Has}

pub spread-lt : (k x : ℕ) → 15 * spread_of k x < 16 ^ k
unfolding spread_of
spread-lt zero x = omega arith
spread-lt (suc k) x = rw (pow-suc 16 k) (omega (arith, spread-lt k (x / 2)))

sixteen : (n : ℕ) → 16 ^ n ≡ 2 ^ (4 * n)
sixteen zero = refl
sixteen (suc n) = let e : 4 * suc n ≡ 4 * n + 4 = omega arith in rw (e, pow-suc 16 n, sixteen n) (sym (pow-add 2 (4 * n) 4))

spread-zero : (k : ℕ) → spread_of k 0 ≡ 0
unfolding spread_of
spread-zero zero = refl
spread-zero (suc k) = rw (spread-zero k)

-- more digits than the number has say nothing more
spread-pad : (n m x : ℕ) → x < 2 ^ n → spread_of (n + m) x ≡ spread_of n x
unfolding spread_of
spread-pad zero m x h = let e : x ≡ 0 = omega arith in rw (zero-add m, e) (spread-zero m)
spread-pad (suc n) m x h = rw (suc-add n m, spread-pad n m (x / 2) (omega (arith, pow-suc 2 n)))

-- n columns from n digits of each tributary, as a number
abbrev columns : ℕ → ℕ → ℕ → ℕ → ℕ → ℕ
columns n a b c d = spread_of n a * 8 + spread_of n b * 4 + spread_of n c * 2 + spread_of n d

four-written : (x y z t : ℕ) → x < 2 → y < 2 → z < 2 → t < 2 → written 4 (x * 8 + y * 4 + z * 2 + t) ≡ x ∷ y ∷ z ∷ t ∷ []
unfolding written
four-written x y z t hx hy hz ht =
    ap₂ (λ (u : ℕ) (us : List ℕ). u ∷ us) (omega arith)
    (ap₂ (λ (u : ℕ) (us : List ℕ). u ∷ us) (omega arith)
    (ap₂ (λ (u : ℕ) (us : List ℕ). u ∷ us) (omega arith) (ap₂ (λ (u : ℕ) (us : List ℕ). u ∷ us) (omega arith) refl)))

-- one digit more of a tributary
spread-more : (ds : List ℕ) → Binary ds → (p n : ℕ) → spread_of (suc n) (window_at ds p (suc n)) ≡ spread_of n (window_at ds p n) * 16 + get_or ds (p + n) 0
unfolding spread_of window_at
spread-more ds bin p n = rw (high (window_at ds p n) 1 (bin (p + n)), low (window_at ds p n) 1 (bin (p + n)))

pad : (n x : ℕ) → n ≤ 8 → x < 2 ^ n → spread_of 8 x ≡ spread_of n x
pad n x h l =
    let e : 8 ≡ n + (8 - n) = omega arith in
    ap (λ (k : ℕ). spread_of k x) e ∙ spread-pad n (8 - n) x l

-- up to eight columns as a number have no more digits than their tributaries give them
pub weave-fits : (n x y z t : ℕ) → n ≤ 8 → x < 2 ^ n → y < 2 ^ n → z < 2 ^ n → t < 2 ^ n → weave_of x y z t < 2 ^ (4 * n)
unfolding weave_of
weave-fits n x y z t h hx hy hz ht =
    rw (pad n x h hx, pad n y h hy, pad n z h hz, pad n t h ht, ← sixteen n)
    (omega (arith, spread-lt n x, spread-lt n y, spread-lt n z, spread-lt n t))

-- columns after columns
pub woven-cat : (a b c d : List ℕ) (i : Next) (n m : ℕ) → woven (n + m) a b c d i ≡ woven n a b c d i ++ woven m a b c d (moved_on i n)
unfolding woven
woven-cat a b c d i n zero = rw (add-zero n) (sym (append-nil (woven n a b c d i)))
woven-cat a b c d i n (suc m) =
    let e : (p : ℕ) → p + (n + m) ≡ p + n + m = λ p. omega arith in
    rw (add-suc n m, woven-cat a b c d i n m, e i.a, e i.b, e i.c, e i.d) (append_assoc (woven n a b c d i) _ _)

module _ (a b c d : List ℕ) (ba : Binary a) (bb : Binary b) (bc : Binary c) (bd : Binary d) where
  columns-written : (i : Next) (n : ℕ)
      → written (4 * n) (columns n (window_at a i.a n) (window_at b i.b n) (window_at c i.c n) (window_at d i.d n)) ≡ woven n a b c d i
  unfolding woven written
  columns-written i zero = refl
  columns-written i (suc n) =
      let x = get_or a (i.a + n) 0 in
      let y = get_or b (i.b + n) 0 in
      let z = get_or c (i.c + n) 0 in
      let t = get_or d (i.d + n) 0 in
      let more : 4 * suc n ≡ 4 * n + 4 = omega arith in
      let before = columns n (window_at a i.a n) (window_at b i.b n) (window_at c i.c n) (window_at d i.d n) in
      let now : columns (suc n) (window_at a i.a (suc n)) (window_at b i.b (suc n)) (window_at c i.c (suc n)) (window_at d i.d (suc n))
      ≡ before * 2 ^ 4 + (x * 8 + y * 4 + z * 2 + t) =
      rw (spread-more a ba i.a n, spread-more b bb i.b n, spread-more c bc i.c n, spread-more d bd i.d n) (omega arith) in
      rw (more, now)
      (written-cat (4 * n) 4 before (x * 8 + y * 4 + z * 2 + t) (omega (arith, ba (i.a + n), bb (i.b + n), bc (i.c + n), bd (i.d + n)))
      ∙ rw (columns-written i n, four-written x y z t (ba (i.a + n)) (bb (i.b + n)) (bc (i.c + n)) (bd (i.d + n))))

  -- up to eight columns: fewer digits than the table takes are as well, since zeros before them spread to zeros
  pub few-written : (i : Next) (n : ℕ) → n ≤ 8
      → written (4 * n) (weave_of (window_at a i.a n) (window_at b i.b n) (window_at c i.c n) (window_at d i.d n)) ≡ woven n a b c d i
  unfolding weave_of
  few-written i n h =
      let lt : (ds : List ℕ) → Binary ds → (p : ℕ) → spread_of 8 (window_at ds p n) ≡ spread_of n (window_at ds p n) = λ ds bin p. pad n _ h (window-lt ds bin p n) in
      rw (lt a ba i.a, lt b bb i.b, lt c bc i.c, lt d bd i.d) (columns-written i n)

  -- the digits of n columns are read: the first h of them, and eight of them, k columns on
  module _ (i : Next) (n x y z t : ℕ) (ex : x ≡ window_at a i.a n) (ey : y ≡ window_at b i.b n) (ez : z ≡ window_at c i.c n)
      (et : t ≡ window_at d i.d n) where
    firsts : (ds : List ℕ) → Binary ds → (p h j v : ℕ) → h + j ≡ n → v ≡ window_at ds p n → v / 2 ^ j ≡ window_at ds p h
    firsts ds bin p h j v e ev = rw (ev, ← e) (window-first ds bin p h j)

    pub first-few : (h j : ℕ) → h + j ≡ n → (x / 2 ^ j < 2 ^ h) × (y / 2 ^ j < 2 ^ h) × (z / 2 ^ j < 2 ^ h) × (t / 2 ^ j < 2 ^ h)
    first-few h j e =
        rw (firsts a ba i.a h j x e ex, firsts b bb i.b h j y e ey, firsts c bc i.c h j z e ez, firsts d bd i.d h j t e et)
        (window-lt a ba i.a h, window-lt b bb i.b h, window-lt c bc i.c h, window-lt d bd i.d h)

    pub first-woven : (h j : ℕ) → h ≤ 8 → h + j ≡ n → written (4 * h) (weave_of (x / 2 ^ j) (y / 2 ^ j) (z / 2 ^ j) (t / 2 ^ j)) ≡ woven h a b c d i
    first-woven h j few e =
        rw (firsts a ba i.a h j x e ex, firsts b bb i.b h j y e ey, firsts c bc i.c h j z e ez, firsts d bd i.d h j t e et)
        (few-written i h few)

    eighth : (ds : List ℕ) → Binary ds → (p k j : ℕ) → k + 8 + j ≡ n → window_at ds p n / 2 ^ j % 2 ^ 8 ≡ window_at ds (p + k) 8
    eighth ds bin p k j e =
        ap (λ (m : ℕ). window_at ds p m / 2 ^ j % 2 ^ 8) (sym e) ∙ rw (window-first ds bin p (k + 8) j) (window-last ds bin p k 8)

    abbrev pub piece : ℕ → List ℕ
    piece j = written 32 (weave_of (x / 2 ^ j % 2 ^ 8) (y / 2 ^ j % 2 ^ 8) (z / 2 ^ j % 2 ^ 8) (t / 2 ^ j % 2 ^ 8))

    pub piece-woven : (k j : ℕ) → k + 8 + j ≡ n → piece j ≡ woven 8 a b c d (moved_on i k)
    piece-woven k j e =
        rw (ex, ey, ez, et, eighth a ba i.a k j e, eighth b bb i.b k j e, eighth c bc i.c k j e, eighth d bd i.d k j e)
        (few-written (moved_on i k) 8 (omega arith))

  -- four times eight columns are 32
  module _ (i : Next) (x y z t : ℕ) (ex : x ≡ window_at a i.a 32) (ey : y ≡ window_at b i.b 32) (ez : z ≡ window_at c i.c 32)
      (et : t ≡ window_at d i.d 32) where
    abbrev eight : ℕ → List ℕ
    eight = piece i 32 x y z t ex ey ez et

    woven-eight : (k j : ℕ) → k + 8 + j ≡ 32 → eight j ≡ woven 8 a b c d (moved_on i k)
    woven-eight = piece-woven i 32 x y z t ex ey ez et

    many-woven : eight 24 ++ eight 16 ++ eight 8 ++ eight 0 ≡ woven 32 a b c d i
    many-woven =
        rw (woven-eight 0 24 refl, woven-eight 8 16 refl, woven-eight 16 8 refl, woven-eight 24 0 refl, add-zero i.a, add-zero i.b, add-zero i.c, add-zero i.d)
        (sym (woven-cat a b c d i 24 8 ∙ rw (woven-cat a b c d i 16 8, woven-cat a b c d i 8 8)))

    pub many-appended : (l₀ l₁ l₂ l₃ l₄ : List ℕ) (w₀ w₁ w₂ w₃ w₄ : Writer) → Appended l₀ l₁ w₀ w₁ 32 (eight 24) → Appended l₁ l₂ w₁ w₂ 32 (eight 16)
        → Appended l₂ l₃ w₂ w₃ 32 (eight 8) → Appended l₃ l₄ w₃ w₄ 32 (eight 0) → Appended l₀ l₄ w₀ w₄ 128 (woven 32 a b c d i)
    many-appended l₀ l₁ l₂ l₃ l₄ w₀ w₁ w₂ w₃ w₄ one two three four =
        rw (← many-woven) (appended-more (appended-more (appended-more one two) three) four)

-- m columns after n columns
pub woven-more : (a b c d : List ℕ) (i j : Next) (n m all : ℕ) (l₀ l₁ l₂ : List ℕ) (w₀ w₁ w₂ : Writer) → Appended l₀ l₁ w₀ w₁ (4 * n) (woven n a b c d i)
    → j ≡ moved_on i n → Appended l₁ l₂ w₁ w₂ (4 * m) (woven m a b c d j) → all ≡ n + m → Appended l₀ l₂ w₀ w₂ (4 * all) (woven all a b c d i)
woven-more a b c d i j n m all l₀ l₁ l₂ w₀ w₁ w₂ one e two sum =
    let f : 4 * (n + m) ≡ 4 * n + 4 * m = omega arith in
    rw (sum, f, woven-cat a b c d i n m, ← e) (appended-more one two)

-- a run under way: k of its columns are put out
pub record Weaving (a b c d : List ℕ) (i : Next) (all : ℕ) (line₀ : List ℕ) (w₀ : Writer) (line : List ℕ) (w : Writer) (k : ℕ) : Type 0 where
  pub to : k ≤ all
  pub kept : length line ≡ length line₀
  pub done : Appended line₀ line w₀ w (4 * k) (woven k a b c d i)

module _ (a b c d : List ℕ) (i : Next) (all : ℕ) (line₀ : List ℕ) (w₀ : Writer) where
  pub weaving-start : Ready w₀.fill w₀.held → Weaving a b c d i all line₀ w₀ line₀ w₀ 0
  unfolding woven
  weaving-start r = record { to = omega arith; kept = refl; done = appended-none line₀ w₀ r }

  pub weaving-more : (line : List ℕ) (w : Writer) (k n : ℕ) (line' : List ℕ) (w' : Writer) (j : Next) → Weaving a b c d i all line₀ w₀ line w k → k + n ≤ all
      → length line' ≡ length line → j ≡ moved_on i k → Appended line line' w w' (4 * n) (woven n a b c d j)
      → Weaving a b c d i all line₀ w₀ line' w' (k + n)
  weaving-more line w k n line' w' j s h l e more =
      record { to = h; kept = l ∙ s.kept; done = woven-more a b c d i j k n (k + n) line₀ line line' w₀ w w' s.done e more refl }

-- the digits of n columns are read, and those before the last k₀ are sent: of these, eight at a time, k are still to come
pub record Eights (a b c d : List ℕ) (n x y z t k₀ : ℕ) (line₀ : List ℕ) (w₀ : Writer) (line : List ℕ) (w : Writer) (k : ℕ) : Type 0 where
  pub to : k ≤ k₀
  pub kept : length line ≡ length line₀
  pub done : (i : Next) → x ≡ window_at a i.a n → y ≡ window_at b i.b n → z ≡ window_at c i.c n → t ≡ window_at d i.d n
      → Appended line₀ line w₀ w (4 * (k₀ - k)) (woven (k₀ - k) a b c d (moved_on i (n - k₀)))

moved_twice : (i : Next) (m n all : ℕ) → all ≡ m + n → moved_on i all ≡ moved_on (moved_on i m) n
moved_twice i m n all e =
    let on : (p : ℕ) → p + all ≡ p + m + n = λ p. omega arith in
    rw (on i.a, on i.b, on i.c, on i.d)

module _ (a b c d : List ℕ) (n x y z t k₀ : ℕ) (line₀ : List ℕ) (w₀ : Writer) where
  pub eights-start : Ready w₀.fill w₀.held → Eights a b c d n x y z t k₀ line₀ w₀ line₀ w₀ k₀
  unfolding woven
  eights-start r =
      let none : k₀ - k₀ ≡ 0 = omega arith in
      record { to = omega arith; kept = refl; done = λ i ex ey ez et. rw none (appended-none line₀ w₀ r) }

  pub eights-more : Binary a → Binary b → Binary c → Binary d → (line line' : List ℕ) (w w' : Writer) (k rest : ℕ) → Eights a b c d n x y z t k₀ line₀ w₀ line w k → rest + 8 ≡ k → k₀ ≤ n
      → length line' ≡ length line
      → Appended line line' w w' 32
      (written 32 (weave_of (x / 2 ^ rest % 2 ^ 8) (y / 2 ^ rest % 2 ^ 8) (z / 2 ^ rest % 2 ^ 8) (t / 2 ^ rest % 2 ^ 8)))
      → Eights a b c d n x y z t k₀ line₀ w₀ line' w' rest
  eights-more ba bb bc bd line line' w w' k rest s one most l more =
      record {
        to = omega (arith, s.to);
        kept = l ∙ s.kept;
        done = λ i ex ey ez et.
            let here : n - k + 8 + rest ≡ n = omega (arith, one, s.to, most) in
            woven-more a b c d (moved_on i (n - k₀)) (moved_on i (n - k)) (k₀ - k) 8 (k₀ - rest) line₀ line line' w₀ w w'
            (s.done i ex ey ez et) (moved_twice i (n - k₀) (k₀ - k) (n - k) (omega (arith, s.to, most)))
            (rw (piece-woven a b c d ba bb bc bd i n x y z t ex ey ez et (n - k) rest here) at more) (omega (arith, one, s.to));
      }

  pub eights-all : (line : List ℕ) (w : Writer) (k : ℕ) → Eights a b c d n x y z t k₀ line₀ w₀ line w k → k ≡ 0
      → (i : Next) → x ≡ window_at a i.a n → y ≡ window_at b i.b n → z ≡ window_at c i.c n → t ≡ window_at d i.d n
      → Appended line₀ line w₀ w (4 * k₀) (woven k₀ a b c d (moved_on i (n - k₀)))
  eights-all line w k s e i ex ey ez et = let all : k₀ - k ≡ k₀ = omega (arith, e) in rw all at (s.done i ex ey ez et)

-- the quarters have fewer digits more where they have many, and from a place further on
pub has_on : (a b c d : List ℕ) (i : Next) (all k n : ℕ) (j : Next) → Has a b c d i all → k + n ≤ all → j ≡ moved_on i k → Has a b c d j n
has_on a b c d i all k n j h l e =
    rw e
    (record {
      in_a = omega (arith, h.in_a);
      in_b = omega (arith, h.in_b);
      in_c = omega (arith, h.in_c);
      in_d = omega (arith, h.in_d);
      small = (omega (arith, h.small), omega (arith, h.small), omega (arith, h.small), omega (arith, h.small));
    })
