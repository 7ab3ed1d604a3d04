-- Least: no path costs less than what the lanes have come to, and one costs it; with the lanes laid anew at the end of each frame.
use mathlib.Core.Path.{◌≡◌, refl, ◌∙◌, ap}
use mathlib.Core.List.{List}
use Prim.Native.Nat.{ℕ, zero, suc, ◌+◌, ◌-◌, ◌*◌, ◌/◌, ◌%◌, ◌^◌, ◌≤◌, ◌<◌}
use native.Mathlib.Omega.{arith}
use native.Mathlib.Decide.{dec_le, dec_lt, ℕ_discrete}
use native.Mathlib.Nat.{add-zero, add-suc}
use lib.Dec.{leb}
use lib.ListN.{get_or}
use borrow.Author.Tests.{le-leb, lt-leb}
use Rattle.digits.specs.Sums.{sum_to}
use Rattle.digits.proofs.Sums.{sum_same}
use Rattle.slips.specs.Slips.{wrong_price, step_price, apart, wrong_of, held_of, step_of, entered, fresh, least_to, least_of, best_of, laid_of}
use Rattle.slips.proofs.Sweeping.{least-le, least-found, entered-le, entered-found}
use Rattle.slips.proofs.Rooms.{held-at, fresh_at}
use Rattle.slips.proofs.Least.{step-at, gone_on}
use Rattle.verdict_blocks.specs.Blocks.{zero_at, fresh_low, start_of}
use Rattle.verdict_promises.specs.Paths.{wrongs_on, slips_on, cost_on, Near, Path, Cheapest}
use Rattle.verdict_promises.proofs.Best.{best-lane, best-least, laid-at, laid-le, laid-found, laid-least}

-- ---- arithmetic of prices

-- through a lane in between it is no shorter
pub triangle : (a b c : ℕ) → apart a c ≤ apart a b + apart b c
triangle a b c = omega arith

same-apart : (low k m : ℕ) → apart (low + k) (low + m) ≡ apart k m
same-apart low k m = omega arith

moved_apart : (low c k m : ℕ) → 8 ≤ low → apart (low + c - 8 + k) (low + m) ≡ apart (k + c) (m + 8)
moved_apart low c k m h = omega arith

-- a digit more: its lane m was come to at a price, it may be wrong there, and lane k is entered from it
step-price : (x y z w s a b : ℕ) → x ≤ y + wrong_price * w + step_price * a → y ≤ z + step_price * b → s ≡ z + wrong_price * w + step_price * b → x ≤ s + step_price * a
step-price x y z w s a b e f g = omega arith

step_same : (x y z w s a b : ℕ) → x ≡ y + wrong_price * w + step_price * a → y ≡ z + step_price * b → s ≡ z + wrong_price * w + step_price * b → x ≡ s + step_price * a
step_same x y z w s a b e f g = omega arith

parts : (w q a r : ℕ) → wrong_price * (w + q) + step_price * (a + r) ≡ wrong_price * w + step_price * a + wrong_price * q + step_price * r
parts w q a r = omega arith

between : (x y z a b c : ℕ) → x ≡ y + step_price * a → y ≡ z + step_price * b → x ≤ z + step_price * c → c ≤ a + b → x ≡ z + step_price * c
between x y z a b c e f g h = omega arith

laid-price : (x y z a b : ℕ) → x ≤ y + step_price * a → y ≤ z + step_price * b → b ≡ 0 → x ≤ z + step_price * a
laid-price x y z a b e f g = omega arith

-- ---- a run of frames as its lanes: frame f has `counts f` digits, its lane 0 the shift `low f`; its lanes after n of them are `lanes f n`
pub record Lanes (sent : ℕ → ℕ) (ds : List ℕ) (low counts : ℕ → ℕ) (F : ℕ) (lanes : ℕ → ℕ → List ℕ) : Type 0 where
  pub first_low : low 0 ≡ fresh_low
  pub first : lanes 0 0 ≡ fresh
  pub more : (f n : ℕ) → f < F → n < counts f → lanes f (suc n) ≡ step_of sent (start_of counts f + n + low f) (get_or ds (start_of counts f + n) 0) (lanes f n)
  pub next_low : (f : ℕ) → f < F → low (suc f) ≡ low f + best_of (lanes f (counts f)) - 8
  pub next : (f : ℕ) → f < F → lanes (suc f) 0 ≡ laid_of (lanes f (counts f)) (best_of (lanes f (counts f)))
  pub far : (f : ℕ) → f < F → 8 ≤ low f
  pub some : (f : ℕ) → 0 < f → f < F → 0 < counts f

module _ (sent : ℕ → ℕ) (ds : List ℕ) (low counts : ℕ → ℕ) (F : ℕ) (lanes : ℕ → ℕ → List ℕ) (runs : Lanes sent ds low counts F lanes) where
  abbrev start : ℕ → ℕ
  start f = start_of counts f

  start-next : (f : ℕ) → start (suc f) ≡ start f + counts f
  unfolding start_of
  start-next f = refl

  start_none : start 0 ≡ 0
  unfolding start_of
  start_none = refl

  -- a digit of an earlier frame comes before
  start-below : (f g m : ℕ) → g < f → m < counts g → start g + m < start f
  start-below zero g m h l = absurd (none g h)
    where
      none : (g : ℕ) → g < 0 → ⊥
      none g h = omega arith
  start-below (suc f) g m h l =
      elim (ℕ_discrete g f) [
        | yes e ↦ omega (arith, start-next f, ap (λ (x : ℕ). start_of counts x) e, ap counts e)
        | no e ↦ omega (arith, start-next f, start-below f g m (omega arith) l)
      ]

  abbrev digit : ℕ → ℕ
  digit i = get_or ds i 0

  -- the price of a path up to its first n digits
  abbrev pub price_on : (ℕ → ℕ) → ℕ → ℕ
  price_on path n = wrong_price * wrongs_on sent ds path n + step_price * slips_on path n

  price-more : (path : ℕ → ℕ) (n : ℕ) → price_on path (suc n) ≡ price_on path n + wrong_price * wrong_of sent (n + path (suc n)) (digit n) + step_price * apart (path (suc n)) (path n)
  unfolding wrongs_on slips_on sum_to
  price-more path n =
      parts (sum_to n (λ (i : ℕ). wrong_of sent (i + path (suc i)) (get_or ds i 0))) (wrong_of sent (n + path (suc n)) (digit n))
      (sum_to n (λ (i : ℕ). apart (path (suc i)) (path i))) (apart (path (suc n)) (path n))

  price-none : (path : ℕ → ℕ) → price_on path 0 ≡ 0
  unfolding wrongs_on slips_on sum_to
  price-none path = refl

  -- ---- no path is cheaper: no lane costs more than the path's price and the steps from where the path stands

  abbrev pub Below : ℕ → List ℕ → (ℕ → ℕ) → ℕ → Type 0
  Below l v path n = (k : ℕ) → k ≤ 16 → get_or v k 0 ≤ price_on path n + step_price * apart (l + k) (path n)

  -- lane m is the one in which the path holds the digit
  module _ (l : ℕ) (v : List ℕ) (path : ℕ → ℕ) (n m : ℕ) (hm : m ≤ 16) where
    step_in : path (suc n) ≡ l + m → Below l v path n → Below l (step_of sent (n + l) (digit n) v) path (suc n)
    step_in there below k hk =
        let number : n + path (suc n) ≡ n + l + m = omega (arith, there) in
        let one : get_or (step_of sent (n + l) (digit n) v) k 0 ≤ get_or v m 0 + wrong_price * wrong_of sent (n + path (suc n)) (digit n) + step_price * apart (l + k) (path (suc n)) =
        rw (number, there, same-apart l k m, step-at sent (n + l) (digit n) v k hk, ← held-at sent (n + l) (digit n) v m hm)
        (entered-le (held_of sent (n + l) (digit n) v) k m hm) in
        let two : get_or v m 0 ≤ price_on path n + step_price * apart (path (suc n)) (path n) = rw there (below m hm) in
        step-price _ (get_or v m 0) (price_on path n) (wrong_of sent (n + path (suc n)) (digit n)) (price_on path (suc n)) (apart (l + k) (path (suc n)))
        (apart (path (suc n)) (path n)) one two (price-more path n)

    laid_in : (c : ℕ) → 8 ≤ l → path n ≡ l + m → Below l v path n → Below (l + c - 8) (laid_of v c) path n
    laid_in c far there below k hk =
        let one : get_or (laid_of v c) k 0 ≤ get_or v m 0 + step_price * apart (l + c - 8 + k) (path n) =
        rw (there, moved_apart l c k m far, laid-at v c k hk) (laid-le v c k m hm) in
        let none : apart (l + m) (path n) ≡ 0 = omega (arith, there) in
        laid-price _ (get_or v m 0) (price_on path n) (apart (l + c - 8 + k) (path n)) (apart (l + m) (path n)) one (below m hm) none

  below_step : (l : ℕ) (v : List ℕ) (path : ℕ → ℕ) (n : ℕ) → Near l (path (suc n)) → Below l v path n → Below l (step_of sent (n + l) (digit n) v) path (suc n)
  below_step l v path n near = step_in l v path n (path (suc n) - l) (omega (arith, near.0, near.1)) (omega (arith, near.0))

  below-laid : (l c : ℕ) (v : List ℕ) (path : ℕ → ℕ) (n : ℕ) → 8 ≤ l → Near l (path n) → Below l v path n → Below (l + c - 8) (laid_of v c) path n
  below-laid l c v path n far near = laid_in l v path n (path n - l) (omega (arith, near.0, near.1)) c far (omega (arith, near.0))

  module _ (path : ℕ → ℕ) where
    -- the digits of a frame that a path passes
    abbrev NearIn : ℕ → ℕ → Type 0
    NearIn f n = (m : ℕ) → m < n → Near (low f) (path (suc (start f + m)))

    digits-below : (f : ℕ) → f < F → Below (low f) (lanes f 0) path (start f) → (n : ℕ) → n ≤ counts f → NearIn f n → Below (low f) (lanes f n) path (start f + n)
    digits-below f hf base zero hn near = rw (add-zero (start f)) base
    digits-below f hf base (suc n) hn near =
        rw (add-suc (start f) n, runs.more f n hf (omega arith))
        (below_step (low f) (lanes f n) path (start f + n) (near n (omega arith)) (digits-below f hf base n (omega arith) (λ m l. near m (omega arith))))

    -- where it holds the last digit of a frame
    near-end : path 0 ≡ zero_at → (f : ℕ) → f < F → NearIn f (counts f) → Near (low f) (path (start f + counts f))
    near-end begins f hf near =
        elim (ℕ_discrete (counts f) 0) [
          | yes none ↦ at-start f hf none
          | no some ↦ let e : start f + counts f ≡ suc (start f + (counts f - 1)) = omega (arith, some) in rw e (near (counts f - 1) (omega (arith, some)))
        ]
      where
        at-start : (f : ℕ) → f < F → counts f ≡ 0 → Near (low f) (path (start f + counts f))
        at-start zero hf none = rw (none, add-zero (start 0), start_none, begins, runs.first_low) (omega arith, omega arith)
        at-start (suc f) hf none = absurd (never (runs.some (suc f) (omega arith) hf))
          where
            never : 0 < counts (suc f) → ⊥
            never h = omega (arith, none)

    frames-below : path 0 ≡ zero_at → (f : ℕ) → f ≤ F → ((g m : ℕ) → g < f → m < counts g → Near (low g) (path (suc (start g + m))))
        → Below (low f) (lanes f 0) path (start f)
    frames-below begins zero hf near =
        λ k hk. rw (runs.first, start_none, price-none path, begins, runs.first_low, fresh_at k hk) (from_zero k hk)
      where
        from_zero : (k : ℕ) → k ≤ 16 → step_price * apart k 8 ≤ 0 + step_price * apart (fresh_low + k) zero_at
        from_zero k hk = omega arith
    frames-below begins (suc f) hf near =
        let here : NearIn f (counts f) = λ m l. near f m (omega arith) l in
        let before = frames-below begins f (omega arith) (λ g m h l. near g m (omega arith) l) in
        rw (runs.next f (omega arith), runs.next_low f (omega arith), start-next f)
        (below-laid (low f) (best_of (lanes f (counts f))) (lanes f (counts f)) path (start f + counts f) (runs.far f (omega arith)) (near-end begins f (omega arith) here)
        (digits-below f (omega arith) before (counts f) (omega arith) here))

  -- ---- and one has it: each lane was come to by a path

  -- a path through the whole frames before frame f and n digits of that one
  pub record Passed (f n : ℕ) (path : ℕ → ℕ) : Type 0 where
    pub begins : path 0 ≡ zero_at
    pub whole : (g m : ℕ) → g < f → m < counts g → Near (low g) (path (suc (start g + m)))
    pub part : (m : ℕ) → m < n → Near (low f) (path (suc (start f + m)))

  -- and it comes to lane k at that lane's price
  pub record Reached (f n k : ℕ) : Type 0 where
    pub path : ℕ → ℕ
    pub passed : Passed f n path
    pub price : get_or (lanes f n) k 0 ≡ price_on path (start f + n) + step_price * apart (low f + k) (path (start f + n))

  -- one shift more
  module _ (path : ℕ → ℕ) (n s : ℕ) where
    abbrev on : ℕ → ℕ
    on = gone_on path n s

    on-old : (i : ℕ) → i ≤ n → on i ≡ path i
    on-old i h = rw (le-leb i n h)

    on-new : on (suc n) ≡ s
    on-new = rw (lt-leb (suc n) n (omega arith))

    same-wrongs : wrongs_on sent ds on n ≡ wrongs_on sent ds path n
    unfolding wrongs_on
    same-wrongs =
        sum_same n (λ (i : ℕ). wrong_of sent (i + on (suc i)) (get_or ds i 0)) (λ (i : ℕ). wrong_of sent (i + path (suc i)) (get_or ds i 0))
        (λ i l. let e = on-old (suc i) (omega arith) in rw e)

    same-slips : slips_on on n ≡ slips_on path n
    unfolding slips_on
    same-slips =
        sum_same n (λ (i : ℕ). apart (on (suc i)) (on i)) (λ (i : ℕ). apart (path (suc i)) (path i))
        (λ i l. let e = on-old i (omega arith) in let g = on-old (suc i) (omega arith) in rw (e, g))

    on-price : price_on on (suc n) ≡ price_on path n + wrong_price * wrong_of sent (n + s) (digit n) + step_price * apart s (path n)
    on-price = price-more on n ∙ rw (same-wrongs, same-slips, on-new, on-old n (omega arith))

  digit-reached : (f n : ℕ) → f < F → n < counts f → ((k : ℕ) → k ≤ 16 → Reached f n k) → (k : ℕ) → k ≤ 16 → Reached f (suc n) k
  digit-reached f n hf hn all k hk = record { path = next; passed = went; price = costs }
    where
      N : ℕ
      N = start f + n

      u : List ℕ
      u = held_of sent (N + low f) (digit N) (lanes f n)

      m : ℕ
      m = (entered-found u k).at

      hm : m ≤ 16
      hm = (entered-found u k).within

      to : Reached f n m
      to = all m hm

      next : ℕ → ℕ
      next = gone_on to.path N (low f + m)

      old : (i : ℕ) → i ≤ N → next i ≡ to.path i
      old i h = on-old to.path N (low f + m) i h

      new : next (suc N) ≡ low f + m
      new = on-new to.path N (low f + m)

      went : Passed f (suc n) next
      went =
          record {
            begins = old 0 (omega arith) ∙ to.passed.begins;
            whole = λ g i hg hi. rw (old (suc (start g + i)) (omega (arith, start-below f g i hg hi))) (to.passed.whole g i hg hi);
            part =
                λ i hi.
                elim (dec_lt i n) [
                  | yes l ↦ rw (old (suc (start f + i)) (omega arith)) (to.passed.part i l)
                  | no l ↦ let e : i ≡ n = omega arith in rw (e, new) (omega arith, omega (arith, hm))
                ];
          }

      number : N + (low f + m) ≡ N + low f + m
      number = omega arith

      lane : get_or (lanes f (suc n)) k 0 ≡ get_or (lanes f n) m 0 + wrong_price * wrong_of sent (N + (low f + m)) (digit N) + step_price * apart (low f + k) (low f + m)
      lane =
          rw (runs.more f n hf hn, number, same-apart (low f) k m)
          (step-at sent (N + low f) (digit N) (lanes f n) k hk ∙ (entered-found u k).least ∙ rw (held-at sent (N + low f) (digit N) (lanes f n) m hm) refl)

      costs : get_or (lanes f (suc n)) k 0 ≡ price_on next (start f + suc n) + step_price * apart (low f + k) (next (start f + suc n))
      costs =
          rw (add-suc (start f) n, new)
          (step_same (get_or (lanes f (suc n)) k 0) (get_or (lanes f n) m 0) (price_on to.path N) (wrong_of sent (N + (low f + m)) (digit N)) (price_on next (suc N)) (apart (low f + k) (low f + m))
          (apart (low f + m) (to.path N)) lane to.price (on-price to.path N (low f + m)))

  digits-reached : (f : ℕ) → f < F → ((k : ℕ) → k ≤ 16 → Reached f 0 k) → (n : ℕ) → n ≤ counts f → (k : ℕ) → k ≤ 16 → Reached f n k
  digits-reached f hf base zero hn = base
  digits-reached f hf base (suc n) hn = digit-reached f n hf (omega arith) (digits-reached f hf base n (omega arith))

  -- a path through a whole frame is one to the next frame
  on-whole : (f : ℕ) (path : ℕ → ℕ) → Passed f (counts f) path → (g m : ℕ) → g < suc f → m < counts g → Near (low g) (path (suc (start g + m)))
  on-whole f path went g m hg hm =
      elim (ℕ_discrete g f) [
        | yes e ↦ go g f e m hm went
        | no e ↦ went.whole g m (omega arith) hm
      ]
    where
      go : (g f : ℕ) → g ≡ f → (m : ℕ) → m < counts g → Passed f (counts f) path → Near (low g) (path (suc (start g + m)))
      go g f e m hm went = rw e (went.part m (rw e at hm))

  abbrev best : ℕ → ℕ
  best f = best_of (lanes f (counts f))

  -- laid anew: lane k was come to from a lane m; and since no path is cheaper, by as many steps as lie between
  laid-reached : (f : ℕ) → f < F → ((k : ℕ) → k ≤ 16 → Reached f (counts f) k) → (k : ℕ) → k ≤ 16 → Reached (suc f) 0 k
  laid-reached f hf all k hk = record { path = path; passed = went; price = costs }
    where
      v : List ℕ
      v = lanes f (counts f)

      m : ℕ
      m = (laid-found v (best f) k).at

      to : Reached f (counts f) m
      to = all m (laid-found v (best f) k).within

      path : ℕ → ℕ
      path = to.path

      went : Passed (suc f) 0 path
      went = record { begins = to.passed.begins; whole = on-whole f path to.passed; part = λ i hi. absurd (none i hi) }
        where
          none : (i : ℕ) → i < 0 → ⊥
          none i hi = omega arith

      N : ℕ
      N = start f + counts f

      l : ℕ
      l = low f + best f - 8

      from : get_or (laid_of v (best f)) k 0 ≡ get_or v m 0 + step_price * apart (l + k) (low f + m)
      from = rw (moved_apart (low f) (best f) k m (runs.far f hf)) (laid-at v (best f) k hk ∙ (laid-found v (best f) k).is)

      below : get_or (laid_of v (best f)) k 0 ≤ price_on path N + step_price * apart (l + k) (path N)
      below =
          below-laid (low f) (best f) v path N (runs.far f hf) (near-end path to.passed.begins f hf to.passed.part)
          (digits-below path f hf (frames-below path to.passed.begins f (omega arith) to.passed.whole) (counts f) (omega arith) to.passed.part) k hk

      same : get_or (laid_of v (best f)) k 0 ≡ price_on path N + step_price * apart (l + k) (path N)
      same =
          between (get_or (laid_of v (best f)) k 0) (get_or v m 0) (price_on path N) (apart (l + k) (low f + m)) (apart (low f + m) (path N)) (apart (l + k) (path N)) from to.price below
          (triangle (l + k) (low f + m) (path N))

      costs : get_or (lanes (suc f) 0) k 0 ≡ price_on path (start (suc f) + 0) + step_price * apart (low (suc f) + k) (path (start (suc f) + 0))
      costs = rw (add-zero (start (suc f)), start-next f, runs.next f hf, runs.next_low f hf) same

  fresh-reached : (k : ℕ) → k ≤ 16 → Reached 0 0 k
  fresh-reached k hk =
      record {
        path = λ i. zero_at;
        passed = record { begins = refl; whole = λ g m hg hm. absurd (none g hg); part = λ m hm. absurd (none m hm) };
        price = rw (add-zero (start 0), start_none, price-none (λ (i : ℕ). zero_at), runs.first, runs.first_low, fresh_at k hk) (from_zero k hk);
      }
    where
      none : (i : ℕ) → i < 0 → ⊥
      none i hi = omega arith

      from_zero : (k : ℕ) → k ≤ 16 → step_price * apart k 8 ≡ 0 + step_price * apart (fresh_low + k) zero_at
      from_zero k hk = omega arith

  frames-reached : (f : ℕ) → f ≤ F → (k : ℕ) → k ≤ 16 → Reached f 0 k
  frames-reached zero hf = fresh-reached
  frames-reached (suc f) hf = laid-reached f (omega arith) (digits-reached f (omega arith) (frames-reached f (omega arith)) (counts f) (omega arith))

  -- ---- the least of all lanes is the price of the cheapest path

  path-whole : (path : ℕ → ℕ) → Path low counts F path → (f : ℕ) → f ≤ F → (g m : ℕ) → g < f → m < counts g → Near (low g) (path (suc (start g + m)))
  path-whole path is f hf g m hg hm = is.within g m (omega arith) hm

  pub least-below : (path : ℕ → ℕ) → Path low counts F path → least_of (lanes F 0) ≤ price_on path (start F)
  unfolding least_of
  least-below path is = go F (omega arith)
    where
      under : (v : List ℕ) (l n m : ℕ) → m ≤ 16 → path n ≡ l + m → Below l v path n → least_to 16 (λ (k : ℕ). get_or v k 0) ≤ price_on path n
      under v l n m hm there below =
          let none : apart (l + m) (path n) ≡ 0 = omega (arith, there) in
          omega (arith, least-le 16 (λ (k : ℕ). get_or v k 0) m hm, below m hm, none)

      go : (f : ℕ) → f ≤ F → least_to 16 (λ (k : ℕ). get_or (lanes f 0) k 0) ≤ price_on path (start f)
      go zero hf =
          under (lanes 0 0) (low 0) (start 0) 8 (omega arith) (rw start_none (is.begins ∙ rw runs.first_low refl))
          (frames-below path is.begins 0 hf (path-whole path is 0 hf))
      go (suc f) hf =
          let here : NearIn path f (counts f) = λ m l. is.within f m (omega arith) l in
          let near = near-end path is.begins f (omega arith) here in
          let v = lanes f (counts f) in
          let below = digits-below path f (omega arith) (frames-below path is.begins f (omega arith) (path-whole path is f (omega arith))) (counts f) (omega arith) here in
          let least = under v (low f) (start f + counts f) (path (start f + counts f) - low f) (omega (arith, near.0, near.1)) (omega (arith, near.0)) below in
          let same : least_of (laid_of v (best f)) ≡ least_of v = laid-least v in
          rw (runs.next f (omega arith), start-next f) (omega (arith, same, least))

  pub record Best : Type 0 where
    pub path : ℕ → ℕ
    pub is_path : Path low counts F path
    pub price : least_of (lanes F 0) ≡ price_on path (start F)

  pub least-reached : Best
  unfolding least_of
  least-reached =
      let f = least-found 16 (λ (k : ℕ). get_or (lanes F 0) k 0) in
      let to = frames-reached F (omega arith) f.at f.within in
      let is : Path low counts F to.path = record { begins = to.passed.begins; within = to.passed.whole } in
      let costs : get_or (lanes F 0) f.at 0 ≡ price_on to.path (start F) + step_price * apart (low F + f.at) (to.path (start F)) = rw (add-zero (start F)) at to.price in
      record { path = to.path; is_path = is; price = omega (arith, f.least, costs, least-below to.path is) }

  least-of : (v : List ℕ) (m : ℕ) → m ≤ 16 → least_of v ≤ get_or v m 0
  unfolding least_of
  least-of v m h = least-le 16 (λ (k : ℕ). get_or v k 0) m h

  -- as cost and slips: a number below 2^63 is a cost below 2^31, and a path has no more slips than a sixteenth of its cost
  as_number : (w s : ℕ) → wrong_price * w + step_price * s ≡ 2 ^ 32 * (w + 16 * s) + s
  as_number w s = omega arith

  by-cost : (w s x t number : ℕ) → number ≡ 2 ^ 32 * (w + 16 * s) + s → number ≤ 2 ^ 32 * (x + 16 * t) + t → number < 9223372036854775808 → w + 16 * s ≤ x + 16 * t
  by-cost w s x t number e l h =
      elim (dec_le (w + 16 * s) (x + 16 * t)) [
        | yes le ↦ le
        | no gt ↦ omega arith
      ]

  by-slips : (c s d t number : ℕ) → number ≡ 2 ^ 32 * c + s → number ≤ 2 ^ 32 * d + t → d ≡ c → s ≤ t
  by-slips c s d t number e l h = omega arith

  high_part : (w s number : ℕ) → number ≡ 2 ^ 32 * (w + 16 * s) + s → number < 9223372036854775808 → number / 4294967296 ≡ w + 16 * s
  high_part w s number e h = omega arith

  low_part : (w s number : ℕ) → number ≡ 2 ^ 32 * (w + 16 * s) + s → number < 9223372036854775808 → number % 4294967296 ≡ s
  low_part w s number e h = omega arith

  pub cheapest-run : least_of (lanes F 0) < 9223372036854775808 → Cheapest sent ds low counts F (least_of (lanes F 0))
  cheapest-run small =
      let b = least-reached in
      let n = start F in
      let number = least_of (lanes F 0) in
      let W = wrongs_on sent ds b.path n in
      let S = slips_on b.path n in
      let told : number ≡ 2 ^ 32 * (W + 16 * S) + S = b.price ∙ as_number W S in
      record {
        path = b.path;
        is_path = b.is_path;
        cost = λ other is. by-cost W S (wrongs_on sent ds other n) (slips_on other n) number told (other-number other is) small;
        slips = λ other is e. by-slips (W + 16 * S) S (cost_on sent ds other n) (slips_on other n) number told (other-number other is) e;
        cost_told = high_part W S number told small;
        slips_told = low_part W S number told small;
      }
    where
      other-number : (other : ℕ → ℕ) → Path low counts F other → least_of (lanes F 0) ≤ 2 ^ 32 * cost_on sent ds other (start F) + slips_on other (start F)
      other-number other is = rw (← as_number (wrongs_on sent ds other (start F)) (slips_on other (start F))) (least-below other is)

  -- ---- a path with few wrong digits and few slips stays in the lanes: they cannot have gone far from it

  -- a path is no further from shift 0 than it has slips
  far-slips : (path : ℕ → ℕ) → path 0 ≡ zero_at → (n : ℕ) → apart (path n) zero_at ≤ slips_on path n
  unfolding slips_on sum_to
  far-slips path begins zero = omega (arith, begins)
  far-slips path begins (suc n) = omega (arith, far-slips path begins n, triangle (path (suc n)) (path n) zero_at)

  slips-up : (path : ℕ → ℕ) (n m : ℕ) → slips_on path n ≤ slips_on path (n + m)
  unfolding slips_on sum_to
  slips-up path n zero = rw (add-zero n) (omega arith)
  slips-up path n (suc m) = rw (add-suc n m) (omega (arith, slips-up path n m))

  wrongs-up : (path : ℕ → ℕ) (n m : ℕ) → wrongs_on sent ds path n ≤ wrongs_on sent ds path (n + m)
  unfolding wrongs_on sum_to
  wrongs-up path n zero = rw (add-zero n) (omega arith)
  wrongs-up path n (suc m) = rw (add-suc n m) (omega (arith, wrongs-up path n m))

  -- a lane costs at least the steps that lie between it and shift 0
  lane-far : (f n k : ℕ) → Reached f n k → step_price * apart (low f + k) zero_at ≤ get_or (lanes f n) k 0
  lane-far f n k to =
      far (get_or (lanes f n) k 0) (wrongs_on sent ds to.path (start f + n)) (slips_on to.path (start f + n)) (apart (low f + k) (to.path (start f + n))) (apart (to.path (start f + n)) zero_at)
      (apart (low f + k) zero_at) to.price (far-slips to.path to.passed.begins (start f + n)) (triangle (low f + k) (to.path (start f + n)) zero_at)
    where
      far : (v w s a b c : ℕ) → v ≡ wrong_price * w + step_price * s + step_price * a → b ≤ s → c ≤ a + b → step_price * c ≤ v
      far v w s a b c x y z = omega arith

  module _ (path : ℕ → ℕ) (begins : path 0 ≡ zero_at) (e k : ℕ) (wrong : wrongs_on sent ds path (start F) ≤ e) (slipped : slips_on path (start F) ≤ k) (few : e + 32 * k ≤ 143) where
    start-to : (f : ℕ) → f ≤ F → (g : ℕ) → f + g ≡ F → start F ≡ start f + (start F - start f)
    start-to f hf g it = omega (arith, up f g, ap (λ (x : ℕ). start_of counts x) it)
      where
        up : (f g : ℕ) → start f ≤ start (f + g)
        up f zero = rw (add-zero f) (omega arith)
        up f (suc g) = rw (add-suc f g) (omega (arith, up f g, start-next (f + g)))

    -- the middle of a frame is no further from shift 0 than the path's cost allows
    middle-near : (f : ℕ) → f ≤ F → ((g m : ℕ) → g < f → m < counts g → Near (low g) (path (suc (start g + m)))) → 16 * apart (low f + 8) zero_at ≤ e + 16 * k
    middle-near zero hf whole = omega (arith, runs.first_low)
    middle-near (suc f) hf whole =
        let here : NearIn path f (counts f) = λ m l. whole f m (omega arith) l in
        let near = near-end path begins f (omega arith) here in
        let v = lanes f (counts f) in
        let n = start f + counts f in
        let m = path n - low f in
        let below = digits-below path f (omega arith) (frames-below path begins f (omega arith) (λ g i hg hi. whole g i (omega arith) hi)) (counts f) (omega arith) here m (omega (arith, near.0, near.1)) in
        let none : apart (low f + m) (path n) ≡ 0 = omega (arith, near.0) in
        let least : get_or v (best f) 0 ≤ get_or v m 0 = best-under v m (omega (arith, near.0, near.1)) in
        let far = lane-far f (counts f) (best f) (digits-reached f (omega arith) (frames-reached f (omega arith)) (counts f) (omega arith) (best f) (best-lane v)) in
        let to : start F ≡ n + (start F - n) = rw (start-next f) at (start-to (suc f) hf (F - suc f) (omega arith)) in
        let w : wrongs_on sent ds path n ≤ e = omega (arith, wrongs-up path n (start F - n), ap (wrongs_on sent ds path) to, wrong) in
        let s : slips_on path n ≤ k = omega (arith, slips-up path n (start F - n), ap (slips_on path) to, slipped) in
        let middle : low (suc f) + 8 ≡ low f + best f = omega (arith, runs.next_low f (omega arith), runs.far f (omega arith)) in
        rw middle
        (few-steps (apart (low f + best f) zero_at) (get_or v (best f) 0) (get_or v m 0) (wrongs_on sent ds path n) (slips_on path n) (apart (low f + m) (path n)) far least below none w s)
      where
        best-under : (v : List ℕ) (m : ℕ) → m ≤ 16 → get_or v (best_of v) 0 ≤ get_or v m 0
        best-under v m h = omega (arith, best-least v, least-of v m h)

        few-steps : (a x y w s z : ℕ) → step_price * a ≤ x → x ≤ y → y ≤ wrong_price * w + step_price * s + step_price * z → z ≡ 0 → w ≤ e → s ≤ k → 16 * a ≤ e + 16 * k
        few-steps a x y w s z h g l n hw hs = omega (arith, few)

    -- so every digit of the path is within 8 of the middle of its frame
    pub few-stays : (f : ℕ) → f ≤ F → (g m : ℕ) → g < f → m < counts g → Near (low g) (path (suc (start g + m)))
    few-stays zero hf g m hg hm = absurd (none g hg)
      where
        none : (g : ℕ) → g < 0 → ⊥
        none g h = omega arith
    few-stays (suc f) hf g m hg hm =
        elim (ℕ_discrete g f) [
          | yes it ↦
              let inside : start g + m < start F = start-below F g m (omega (arith, it)) hm in
              let i = suc (start g + m) in
              let s : slips_on path i ≤ k = slips-to i (omega arith) in
              let middle = middle-near g (omega (arith, it)) (λ h n hh hn. few-stays f (omega arith) h n (omega (arith, it)) hn) in
              near_by (low g) (path i) middle (omega (arith, far-slips path begins i, s)) (runs-far g (omega (arith, it)))
          | no it ↦ few-stays f (omega arith) g m (omega arith) hm
        ]
      where
        slips-to : (i : ℕ) → i ≤ start F → slips_on path i ≤ k
        slips-to i h =
            let to : start F ≡ i + (start F - i) = omega arith in
            omega (arith, slips-up path i (start F - i), ap (slips_on path) to, slipped)

        runs-far : (g : ℕ) → g < F → 8 ≤ low g
        runs-far g h = runs.far g h

        near_by : (l p : ℕ) → 16 * apart (l + 8) zero_at ≤ e + 16 * k → apart p zero_at ≤ k → 8 ≤ l → Near l p
        near_by l p h g far = (omega (arith, few), omega (arith, few))

    pub few-path : Path low counts F path
    few-path = record { begins = begins; within = few-stays F (omega arith) }
