-- Least, with a pattern: from where it was taken up no path costs less than what the lanes come to, and one costs it, beside the pattern that goes on for ever.
use mathlib.Core.Path.{◌≡◌, refl, sym, ◌∙◌, ap}
use mathlib.Core.Logic.{◌≢◌}
use mathlib.Core.Bool.{cond}
use mathlib.Core.List.{List}
use Prim.Native.Nat.{ℕ, zero, suc, ◌+◌, ◌-◌, ◌*◌, ◌/◌, ◌%◌, ◌^◌, ◌≤◌, ◌<◌}
use native.Mathlib.Omega.{arith}
use native.Mathlib.Decide.{ℕ_discrete}
use native.Mathlib.Nat.{add-zero, add-suc, zero-add}
use lib.Dec.{eqb, leb, ltb}
use lib.ListN.{length, get_or}
use borrow.Author.Tests.{eq-eqb, ne_eqb, le-leb, lt-ltb}
use Rattle.digits.specs.Digits.{tab}
use Rattle.digits.proofs.Laws.{tab-length, tab-at, tab-of}
use Rattle.slips.specs.Slips.{lent_from, wrong_of, held_at, held_of, step_of, least_of, best_of, laid_of, enter_of}
use Rattle.patterns.specs.Patterns.{window_after, pattern_digits}
use Rattle.patterns.proofs.Eights.{window-cat}
use Rattle.verdict_blocks.specs.Blocks.{Block, fresh_low, judged_by, taken_up, sent_to, digit_of, digits_to, laid_anew, frame_to, start_of, frames_to}
use Rattle.verdict_promises.specs.Paths.{Cheapest, goes_on, JustTaken, sent_from, low_from}
use Rattle.verdict_promises.proofs.Least.{Lanes, cheapest-run}

-- ---- windows

-- a digit that is lent
pub lent_at : (base : ℕ) (sent : List ℕ) (m i : ℕ) → m ≡ base + i → i < length sent → lent_from base sent m ≡ get_or sent i 0
unfolding lent_from
lent_at base sent m i e h =
    let back : m - base ≡ i = omega (arith, e) in
    rw (le-leb base m (omega (arith, e)), lt-ltb m (base + length sent) (omega (arith, e)), back) refl

-- a window moved along sends what the first one sends, as far as it goes
moved-sends : (pattern w0 a0 w a m : ℕ) → a0 ≤ a → w ≡ window_after pattern w0 (a - a0) → a ≤ m → m < a + 1024 → lent_from a (pattern_digits pattern w) m ≡ goes_on pattern w0 a0 m
unfolding pattern_digits goes_on
moved-sends pattern w0 a0 w a m after is low high =
    let g : ℕ → ℕ = λ (i : ℕ). window_after pattern w i / 2 ^ 22 % 2 in
    let there : window_after pattern w (m - a) ≡ window_after pattern w0 (m - a0) =
    ap (λ (x : ℕ). window_after pattern x (m - a)) is ∙ sym (window-cat pattern w0 (a - a0) (m - a)) ∙ ap (window_after pattern w0) (far a0 a m after low) in
    lent_at a (tab 1024 0 g) m (m - a) (omega arith) (omega (arith, tab-length 1024 0 g))
    ∙ tab-at 1024 0 g (m - a) (omega arith)
    ∙ ap g (zero-add (m - a))
    ∙ ap (λ (x : ℕ). x / 2 ^ 22 % 2) there
  where
    far : (a0 a m : ℕ) → a0 ≤ a → a ≤ m → a - a0 + (m - a) ≡ m - a0
    far a0 a m h l = omega arith

-- ---- one digit looks at seventeen numbers

step-alike : (s t : ℕ → ℕ) (x y d : ℕ) (v : List ℕ) → ((k : ℕ) → k ≤ 16 → wrong_of s (x + k) d ≡ wrong_of t (y + k) d) → step_of s x d v ≡ step_of t y d v
unfolding step_of held_of
step-alike s t x y d v same =
    ap enter_of
    (tab-of (tab 17 0 (held_at s x d v)) 17 (held_at t y d v) (tab-length 17 0 (held_at s x d v))
    (λ k h. tab-at 17 0 (held_at s x d v) k h ∙ rw (zero-add k, same k (omega arith)) refl))

-- the lanes that are taken up
pub just-taken : (pattern : ℕ) (b : Block) (d : ℕ) → JustTaken (taken_up pattern b d)
just-taken pattern b d = record { taken = refl; is_low = refl; is_fresh = refl; window_at = omega arith }

module _ (pattern : ℕ) (some : pattern ≢ 0) (lent : ℕ → ℕ) (ds : List ℕ) (counts : ℕ → ℕ) (b : Block) (t : JustTaken b) where
  abbrev r0 : ℕ
  r0 = b.standing.read

  abbrev w0 : ℕ
  w0 = b.standing.window

  abbrev a0 : ℕ
  a0 = b.standing.at

  abbrev sent : ℕ → ℕ
  sent = sent_from pattern b

  abbrev B : ℕ → Block
  B f = frames_to pattern lent ds counts b f

  abbrev D : ℕ → ℕ → Block
  D f n = digits_to pattern lent ds (start_of counts f) (B f) n

  abbrev low : ℕ → ℕ
  low f = low_from pattern lent ds counts b f

  -- after n digits more: lane 0 at this shift, and the window moved along to number `at`
  pub record Goes (n l a : ℕ) (c : Block) : Type 0 where
    pub taken : c.standing.taken ≡ 1
    pub is_read : c.standing.read ≡ r0 + n
    pub is_low : c.standing.low ≡ l
    pub is_at : c.standing.at ≡ a
    pub after : a0 ≤ a
    pub window : c.standing.window ≡ window_after pattern w0 (a - a0)

  judged : (c : Block) (d : ℕ) → c.standing.taken ≡ 1 → digit_of pattern lent c d ≡ judged_by (lent_from c.standing.at (pattern_digits pattern c.standing.window)) c d
  unfolding digit_of sent_to
  judged c d e = rw (e, ne_eqb pattern 0 some) refl

  digit-goes : (n l a : ℕ) (c : Block) (d : ℕ) → Goes n l a c → Goes (suc n) l a (digit_of pattern lent c d)
  unfolding judged_by
  digit-goes n l a c d g =
      rw (judged c d g.taken)
      (record { taken = g.taken; is_read = ap suc g.is_read ∙ sym (add-suc r0 n); is_low = g.is_low; is_at = g.is_at; after = g.after; window = g.window })

  digit-lanes : (n l a : ℕ) (c : Block) (d : ℕ) → Goes n l a c → a ≤ r0 + n + l → r0 + n + l + 16 < a + 1024 → (digit_of pattern lent c d).lanes ≡ step_of sent (n + l) d c.lanes
  unfolding judged_by wrong_of
  digit-lanes n l a c d g from to =
      ap (λ (x : Block). x.lanes) (judged c d g.taken)
      ∙ step-alike (lent_from c.standing.at (pattern_digits pattern c.standing.window)) sent (c.standing.read + c.standing.low) (n + l) d c.lanes
      (λ k h. ap (λ (x : ℕ). cond {A = ℕ} (eqb x d) 0 1) (number k h))
    where
      number : (k : ℕ) → k ≤ 16 → lent_from c.standing.at (pattern_digits pattern c.standing.window) (c.standing.read + c.standing.low + k) ≡ sent (n + l + k)
      number k h =
          let e : c.standing.read + c.standing.low + k ≡ r0 + (n + l + k) = omega (arith, g.is_read, g.is_low) in
          ap (lent_from c.standing.at (pattern_digits pattern c.standing.window)) e
          ∙ moved-sends pattern w0 a0 c.standing.window c.standing.at (r0 + (n + l + k)) (omega (arith, g.is_at, g.after)) (g.window ∙ ap (λ (x : ℕ). window_after pattern w0 (x - a0)) (sym g.is_at))
          (omega (arith, g.is_at, from)) (omega (arith, g.is_at, to))

  -- laid anew: the window goes along with the lanes
  laid-goes : (n l a : ℕ) (c : Block) → Goes n l a c → a ≤ r0 + n + (l + best_of c.lanes - 8) → Goes n (l + best_of c.lanes - 8) (r0 + n + (l + best_of c.lanes - 8)) (laid_anew pattern c)
  unfolding laid_anew
  laid-goes n l a c g from =
      rw (eq-eqb c.standing.taken 1 g.taken, ne_eqb pattern 0 some)
      (record {
        taken = g.taken;
        is_read = g.is_read;
        is_low = rw g.is_low refl;
        is_at = reaches c.standing.at c.standing.read c.standing.low (best_of c.lanes) g.is_at g.is_read g.is_low from;
        after = omega (arith, g.after, from);
        window = on c.standing.window c.standing.at c.standing.read c.standing.low (best_of c.lanes) g.window g.is_at g.is_read g.is_low from g.after;
      })
    where
      reaches : (at read low best : ℕ) → at ≡ a → read ≡ r0 + n → low ≡ l → a ≤ r0 + n + (l + best - 8) → at + (read + (low + best - 8) - at) ≡ r0 + n + (l + best - 8)
      reaches at read low best ea er el h = omega arith

      on : (w at read low best : ℕ) → w ≡ window_after pattern w0 (a - a0) → at ≡ a → read ≡ r0 + n → low ≡ l → a ≤ r0 + n + (l + best - 8) → a0 ≤ a
          → window_after pattern w (read + (low + best - 8) - at) ≡ window_after pattern w0 (r0 + n + (l + best - 8) - a0)
      on w at read low best ew ea er el h after =
          let e : a - a0 + (read + (low + best - 8) - at) ≡ r0 + n + (l + best - 8) - a0 = omega arith in
          ap (λ (x : ℕ). window_after pattern x (read + (low + best - 8) - at)) ew ∙ sym (window-cat pattern w0 (a - a0) (read + (low + best - 8) - at)) ∙ ap (window_after pattern w0) e

  laid-lanes : (n l a : ℕ) (c : Block) → Goes n l a c → (laid_anew pattern c).lanes ≡ laid_of c.lanes (best_of c.lanes)
  unfolding laid_anew
  laid-lanes n l a c g = rw (eq-eqb c.standing.taken 1 g.taken) refl

  digits-go : (p n l a : ℕ) (c : Block) → Goes n l a c → (m : ℕ) → Goes (n + m) l a (digits_to pattern lent ds p c m)
  unfolding digits_to
  digits-go p n l a c g zero = rw (add-zero n) g
  digits-go p n l a c g (suc m) = rw (add-suc n m) (digit-goes (n + m) l a (digits_to pattern lent ds p c m) (get_or ds (p + m) 0) (digits-go p n l a c g m))

  not-moved : w0 ≡ window_after pattern w0 (a0 - a0)
  unfolding window_after
  not-moved = let e : 0 ≡ a0 - a0 = omega arith in ap (window_after pattern w0) e

  -- at the start of a frame the window is no more than fifteen digits behind lane 0
  pub record Begins (f : ℕ) : Type 0 where
    pub at : ℕ
    pub goes : Goes (start_of counts f) (low f) at (B f)
    pub not_ahead : at ≤ r0 + start_of counts f + low f
    pub near : r0 + start_of counts f + low f ≤ at + 15

  module _ (F : ℕ) (few : F ≤ 144115188075855872) (short : (f : ℕ) → f < F → counts f ≤ 985) (long : (f : ℕ) → 0 < f → f < F → 8 ≤ counts f) where
    -- lane 0 never comes so low that shifts would go below 0, and before the first frame the window is well behind it
    pub record Low (f : ℕ) : Type 0 where
      pub begun : Begins f
      pub not_far : fresh_low ≤ low f + 8 * f
      pub behind : f ≡ 0 → begun.at + 8 ≤ r0 + start_of counts f + low f

    -- the window is not ahead of the lanes when they have been laid anew
    moves-on : (f : ℕ) (x : Low f) → f < F → (best : ℕ) → x.begun.at ≤ r0 + (start_of counts f + counts f) + (low f + best - 8)
    moves-on f x hf best =
        elim (ℕ_discrete f 0) [
          | yes z ↦ omega (arith, x.behind z, x.not_far)
          | no z ↦ omega (arith, x.begun.not_ahead, x.not_far, long f (positive f z) hf)
        ]
      where
        positive : (f : ℕ) → f ≢ 0 → 0 < f
        positive zero z = absurd (z refl)
        positive (suc f) z = omega arith

    ended : (f : ℕ) (x : Low f) → Goes (start_of counts f + counts f) (low f) x.begun.at (D f (counts f))
    ended f x = digits-go (start_of counts f) (start_of counts f) (low f) x.begun.at (B f) x.begun.goes (counts f)

    laid : (f : ℕ) (x : Low f) → f < F
        → Goes (start_of counts f + counts f) (low f + best_of (D f (counts f)).lanes - 8) (r0 + (start_of counts f + counts f) + (low f + best_of (D f (counts f)).lanes - 8)) (laid_anew pattern (D f (counts f)))
    laid f x hf = laid-goes (start_of counts f + counts f) (low f) x.begun.at (D f (counts f)) (ended f x) (moves-on f x hf (best_of (D f (counts f)).lanes))

    next_low : (f : ℕ) (x : Low f) → f < F → low (suc f) ≡ low f + best_of (D f (counts f)).lanes - 8
    unfolding frames_to frame_to
    next_low f x hf = (laid f x hf).is_low

    begins : (f : ℕ) → f ≤ F → Low f
    unfolding frames_to start_of frame_to
    begins zero hf =
        record {
          begun =
              record {
                at = a0;
                goes = record { taken = t.taken; is_read = sym (add-zero r0); is_low = refl; is_at = refl; after = omega arith; window = not-moved };
                not_ahead = omega (arith, t.window_at, t.is_low);
                near = omega (arith, t.window_at, t.is_low);
              };
          not_far = omega (arith, t.is_low);
          behind = λ z. omega (arith, t.window_at, t.is_low);
        }
    begins (suc f) hf =
        let x = begins f (omega arith) in
        let g = laid f x (omega arith) in
        let e = next_low f x (omega arith) in
        record {
          begun =
              record {
                at = r0 + (start_of counts f + counts f) + (low f + best_of (D f (counts f)).lanes - 8);
                goes = record { taken = g.taken; is_read = g.is_read; is_low = refl; is_at = g.is_at; after = g.after; window = g.window };
                not_ahead = omega (arith, e);
                near = omega (arith, e);
              };
          not_far = omega (arith, e, x.not_far);
          behind = λ z. absurd (never z);
        }
      where
        never : suc f ≡ 0 → ⊥
        never z = omega arith

    run-lanes : Lanes sent ds low counts F (λ (f n : ℕ). (D f n).lanes)
    unfolding frames_to digits_to frame_to start_of
    run-lanes =
        record {
          first_low = t.is_low;
          first = t.is_fresh;
          more =
              λ f n hf hn.
              let x = begins f (omega arith) in
              digit-lanes (start_of counts f + n) (low f) x.begun.at (D f n) (get_or ds (start_of counts f + n) 0) (digits-go (start_of counts f) (start_of counts f) (low f) x.begun.at (B f) x.begun.goes n)
              (omega (arith, x.begun.not_ahead)) (omega (arith, x.begun.near, short f hf));
          next_low = λ f hf. next_low f (begins f (omega arith)) hf;
          next = λ f hf. let x = begins f (omega arith) in laid-lanes (start_of counts f + counts f) (low f) x.begun.at (D f (counts f)) (ended f x);
          far = λ f hf. omega (arith, (begins f (omega arith)).not_far);
          some = λ f h hf. omega (arith, long f h hf);
        }

    -- the cheapest explanation from where the pattern was taken up
    pub cheapest-pattern : least_of (B F).lanes < 9223372036854775808 → Cheapest sent ds low counts F (least_of (B F).lanes)
    unfolding digits_to
    cheapest-pattern small = cheapest-run sent ds low counts F (λ (f n : ℕ). (D f n).lanes) run-lanes small
