-- The line as it goes out, set after set. The run behind a head is the columns that `woven` makes of the four quarters; the start, and the whole
-- line at the end.
use mathlib.Core.Path.{◌≡◌, refl, sym, ◌∙◌, ap}
use mathlib.Core.List.{List, [], ◌∷◌, ◌++◌, append-nil}
use Prim.Native.Nat.{ℕ, zero, suc, ◌+◌, ◌*◌, ◌-◌, ◌/◌, ◌%◌, ◌≤◌, ◌<◌}
use native.Mathlib.Omega.{arith}
use native.Mathlib.Nat.{zero-add, zero-mul, add-mul}
use lib.ListN.{length, get_or, take, drop}
use lib.Seq.{take_all}
use Rattle.digits.specs.Digits.{digits_of, bytes_of, tab, written, Bytes}
use Rattle.digits.proofs.Laws.{tab-of, bytes-of-digits}
use Rattle.digits.proofs.Lists.{tab-cat, tab-four, of_four}
use Rattle.words.specs.declared.Writer.{Writer}
use Rattle.words.specs.Words.{out_from, Appended, zeros_after, Finished}
use Rattle.weave.specs.Weave.{woven, Has}
use Rattle.table.specs.declared.Row.{Row}
use Rattle.levels.specs.Table.{Shared}
use Rattle.levels.specs.Places.{head_end}
use Rattle.levels.specs.Order.{actions, before, count_of}
use Rattle.levels.specs.Sizes.{quarter_of, Accepted}
use Rattle.levels.proofs.Buffers.{quarter-length}
use Rattle.levels.proofs.Columns.{wide, columns, frame-start}
use Rattle.levels.proofs.Counts.{count-of}
use Rattle.levels.proofs.Judged.{fits-quarter}
use Rattle.levels.proofs.Room.{line_whole, set-in-line, before-room}
use Rattle.levels.proofs.Runs.{Body, before-run, run-body, head-end-fours, head-end-in}
use Rattle.levels.proofs.Sentences.{set-start}
use Rattle.levels.specs.Line.{line_digit}
use Rattle.heads.specs.Columns.{tributary_of}
use Rattle.heads.specs.Sending.{Sent, Sending}
use Rattle.heads.proofs.Sending.{sending-more}
use Rattle.multiplex.specs.Running.{next_of, Ran, AllSent}

module _ (row : Row) (earlier : ℕ) (notes buffer : List ℕ) where
  abbrev line : ℕ → ℕ
  line = line_digit row earlier notes (tributary_of buffer)

  -- ---- a run

  module _ (x : ℕ) (next out : List ℕ) (was : Sent row earlier notes buffer (4 * x) next out) where
    abbrev index : ℕ → ℕ
    index j = get_or next j 0

    now : (j : ℕ) → j < 4 → index j ≡ before row (actions row earlier notes j) j x
    now j h = let e : (4 * x + 3 - j) / 4 ≡ x = omega arith in was.index j h ∙ rw e

    run-digit : (k : ℕ) → Body row x k → (c : ℕ) → c < k → (j : ℕ) → j < 4 → line (4 * (x + c) + j) ≡ get_or (tributary_of buffer j) (index j + c) 0
    unfolding line_digit
    run-digit k body c h j jh =
        let column : (4 * (x + c) + j) / 4 ≡ x + c = omega arith in
        let mine : (4 * (x + c) + j) % 4 ≡ j = omega arith in
        rw (body c h j jh, mine, column, before-run row (actions row earlier notes j) x c (λ d l. body d (omega arith)) j jh, now j jh)

    -- its digits are the woven columns
    run-woven : (k : ℕ) → Body row x k
        → woven k (tributary_of buffer 0) (tributary_of buffer 1) (tributary_of buffer 2) (tributary_of buffer 3) (next_of next) ≡ tab (4 * k) (4 * x) line
    unfolding woven tab
    run-woven zero body = refl
    run-woven (suc k) body =
        let more : 4 * suc k ≡ 4 * k + 4 = omega arith in
        let digit : (j : ℕ) → j < 4 → line (4 * x + 4 * k + j) ≡ get_or (tributary_of buffer j) (index j + k) 0 =
        λ j jh. let e : 4 * x + 4 * k + j ≡ 4 * (x + k) + j = omega arith in rw e (run-digit (suc k) body k (omega arith) j jh) in
        let rest = run-woven k (λ c h. body c (omega arith)) in
        rw (more, tab-cat (4 * k) 4 (4 * x) line, tab-four (4 * x + 4 * k) line, digit 0 (omega arith), digit 1 (omega arith), digit 2 (omega arith), digit 3 (omega arith), rest)

    pub sent-run : (k p : ℕ) → Body row x k → p ≡ 4 * x + 4 * k → (next' : List ℕ)
        → next' ≡ (index 0 + k) ∷ (index 1 + k) ∷ (index 2 + k) ∷ (index 3 + k) ∷ []
        → Sent row earlier notes buffer p next' (out ++ woven k (tributary_of buffer 0) (tributary_of buffer 1) (tributary_of buffer 2) (tributary_of buffer 3) (next_of next))
    sent-run k p body e next' e' =
        let moved : (j : ℕ) → j < 4 → get_or next' j 0 ≡ index j + k = of_four (λ (j : ℕ). get_or next' j 0 ≡ index j + k) (rw e') (rw e') (rw e') (rw e') in
        record {
          four = rw e' refl;
          index = λ j h.
              let column : (p + 3 - j) / 4 ≡ x + k = omega arith in
              moved j h ∙ rw (column, before-run row (actions row earlier notes j) x k body j h, now j h);
          digits = rw (was.digits, run-woven k body, e, tab-cat (4 * x) (4 * k) 0 line, zero-add (4 * x));
        }

-- ---- the quarters as they are lent

module _ (buffer : List ℕ) where
  pub part-is : (a e j : ℕ) → a ≡ j * (length buffer / 4) → e ≡ a + length buffer / 4 → take (e - a) (drop a buffer) ≡ quarter_of buffer j
  part-is a e j ea ee = let size : e - a ≡ length buffer / 4 = omega arith in rw (size, ea)

  module _ (p₀ p₁ p₂ p₃ : List ℕ) (q₀ : p₀ ≡ quarter_of buffer 0) (q₁ : p₁ ≡ quarter_of buffer 1) (q₂ : p₂ ≡ quarter_of buffer 2) (q₃ : p₃ ≡ quarter_of buffer 3)
      (next : List ℕ) (n : ℕ) where
    pub has_parts : Has (quarter_of buffer 0) (quarter_of buffer 1) (quarter_of buffer 2) (quarter_of buffer 3) (next_of next) n → Has p₀ p₁ p₂ p₃ (next_of next) n
    has_parts h = rw (q₀, q₁, q₂, q₃) h

    pub ran-parts : (old new : List ℕ) (w r : Writer) → Appended old new w r (4 * n) (woven n (digits_of p₀) (digits_of p₁) (digits_of p₂) (digits_of p₃) (next_of next))
        → Ran buffer next n old new w r ((get_or next 0 0 + n) ∷ (get_or next 1 0 + n) ∷ (get_or next 2 0 + n) ∷ (get_or next 3 0 + n) ∷ [])
    ran-parts old new w r more = record { columns = rw (q₀, q₁, q₂, q₃) at more; index = refl }

-- ---- the run of a set

module _ (row : Row) (earlier : ℕ) (notes buffer : List ℕ) (f s : ℕ) (hf : f < length notes) (hs : s < row.sets) (l : List ℕ) (w : Writer) (next : List ℕ)
    (was : Sending row earlier notes buffer (f * row.digits + (s * row.set + head_end row s)) l w next) (n : ℕ) (size : n ≡ (row.set - head_end row s) / 4) where
  abbrev shared : Shared row
  shared = was.fits.shared

  x : ℕ
  x = f * columns row + (s * wide row + head_end row s / 4)

  starts : f * row.digits + (s * row.set + head_end row s) ≡ 4 * x
  unfolding x
  starts = omega (arith, frame-start row shared 0 (omega arith) f, set-start row shared s, head-end-fours row shared s)

  body : Body row x n
  unfolding x
  body =
      let e : n ≡ wide row - head_end row s / 4 = omega (arith, shared.set_fours, head-end-fours row shared s, head-end-in row shared s) in
      rw e (run-body row shared f s hs)

  ends : f * row.digits + (s + 1) * row.set ≡ 4 * x + 4 * n
  ends = omega (arith, starts, add-mul s 1 row.set, shared.set_fours, head-end-fours row shared s, head-end-in row shared s)

  within : 4 * x + 4 * n ≤ 8 * length l
  within = omega (arith, ends, add-mul s 1 row.set, set-in-line row (length l) (length notes) (length buffer / 4) was.fits f s hf hs)

  -- the line has room for it
  pub run-in-line : 8 * w.at + (w.fill + 4 * n) ≤ 8 * length l
  run-in-line = omega (arith, was.place, starts, within)

  room : (j : ℕ) → j < 4 → (get_or next j 0 + n ≤ 8 * (length buffer / 4)) × (get_or next j 0 + n < 65536)
  room j jh =
      let e : (f * row.digits + (s * row.set + head_end row s) + 3 - j) / 4 ≡ x = omega (arith, starts) in
      let on : before row (actions row earlier notes j) j (x + n) ≡ get_or next j 0 + n =
      before-run row (actions row earlier notes j) x n body j jh ∙ rw (was.sent.index j jh, e) in
      rw on at (before-room row (length l) (length notes) (length buffer / 4) was.fits earlier notes j jh (x + n) (omega (arith, within)))

  -- and the quarters have digits for it
  pub run-has : Has (quarter_of buffer 0) (quarter_of buffer 1) (quarter_of buffer 2) (quarter_of buffer 3) (next_of next) n
  run-has =
      let a = room 0 (omega arith) in
      let b = room 1 (omega arith) in
      let c = room 2 (omega arith) in
      let d = room 3 (omega arith) in
      record {
        in_a = omega (arith, a.0, quarter-length buffer 0 (omega arith));
        in_b = omega (arith, b.0, quarter-length buffer 1 (omega arith));
        in_c = omega (arith, c.0, quarter-length buffer 2 (omega arith));
        in_d = omega (arith, d.0, quarter-length buffer 3 (omega arith));
        small = (omega (arith, a.1), omega (arith, b.1), omega (arith, c.1), omega (arith, d.1));
      }

  pub run-sent : (l' : List ℕ) (r : Writer) (next' : List ℕ) → Ran buffer next n l l' w r next' → length l' ≡ length l
      → Sending row earlier notes buffer (f * row.digits + (s + 1) * row.set) l' r next'
  run-sent l' r next' ran kept =
      let from = f * row.digits + (s * row.set + head_end row s) in
      let to = f * row.digits + (s + 1) * row.set in
      sending-more row earlier notes buffer from to (4 * n) l l' w r next next' _ was ran.columns kept (omega (arith, starts, ends))
      (sent-run row earlier notes buffer x next (out_from 0 l w) (rw starts at was.sent) n to body ends next' ran.index)

-- ---- frames

module _ (row : Row) (earlier : ℕ) (notes buffer : List ℕ) (f : ℕ) (l : List ℕ) (w : Writer) (next : List ℕ) where
  pub frame-last : Sending row earlier notes buffer (f * row.digits + row.sets * row.set) l w next → Sending row earlier notes buffer ((f + 1) * row.digits) l w next
  frame-last s =
      let e : (f + 1) * row.digits ≡ f * row.digits + row.sets * row.set = omega (arith, add-mul f 1 row.digits, s.fits.shared.whole) in
      rw e s

-- ---- the start and the end

module _ (row : Row) (sh : Shared row) (earlier : ℕ) (notes buffer old : List ℕ) (ok : Accepted row (length old) (length notes) (length buffer)) where
  pub sending-start : Sending row earlier notes buffer (0 * row.digits) old (record { at = 0; held = 0; fill = 0 }) (0 ∷ 0 ∷ 0 ∷ 0 ∷ [])
  unfolding out_from digits_of written tab before
  sending-start =
      rw (zero-mul row.digits)
      (record {
        fits = fits-quarter sh ok;
        ready = record { few = omega arith; fits = omega arith };
        place = refl;
        sent = record {
          four = refl;
          index = of_four (λ (j : ℕ). get_or (0 ∷ 0 ∷ 0 ∷ 0 ∷ []) j 0 ≡ before row (actions row earlier notes j) j ((0 + 3 - j) / 4)) refl refl refl refl;
          digits = refl;
        };
      })

  module _ (l l' : List ℕ) (w r : Writer) (next : List ℕ) (kept : length l ≡ length old) (all : Sending row earlier notes buffer (length notes * row.digits) l w next)
      (done : Finished l l' w r) (kept' : length l' ≡ length l) (bytes : Bytes l') where
    abbrev lines : ℕ → ℕ
    lines = line_digit row earlier notes (tributary_of buffer)

    whole : 8 * length l ≡ length notes * row.digits
    whole = line_whole row (length l) (length notes) (length buffer / 4) all.fits

    none_more : zeros_after w.fill ≡ 0
    none_more = omega (arith, whole, all.place)

    ended : r.at ≡ length l'
    ended = omega (arith, whole, all.place, done.appended.place, done.none_held, none_more)

    digits-out : digits_of l' ≡ tab (8 * length old) 0 lines
    unfolding out_from written
    digits-out =
        let out : out_from 0 l' r ≡ out_from 0 l w ++ [] = rw none_more at (done.appended.out 0 (omega arith)) in
        let mine : out_from 0 l' r ≡ digits_of l' =
        rw (done.none_held, take_all r.at l' (omega (arith, ended))) (append-nil (digits_of l')) in
        let e : length notes * row.digits ≡ 8 * length old = omega (arith, whole, kept) in
        sym mine ∙ out ∙ append-nil (out_from 0 l w) ∙ all.sent.digits ∙ rw e

    pub all-sent : AllSent row earlier notes buffer old next l'
    unfolding tab
    all-sent =
        record {
          counted = tab-of next 4 (λ (k : ℕ). count_of row (actions row earlier notes k) (length notes)) all.sent.four counted;
          line = sym (bytes-of-digits l' bytes) ∙ rw (kept', kept) (ap (λ (ds : List ℕ). bytes_of (length old) ds) digits-out);
        }
      where
        counted : (j : ℕ) → j < 4 → get_or next j 0 ≡ count_of row (actions row earlier notes j) (length notes)
        counted j h =
            let column : (length notes * row.digits + 3 - j) / 4 ≡ 2 * length l = omega (arith, whole) in
            all.sent.index j h ∙ rw column (count-of row sh j h (actions row earlier notes j) (length notes) (length l) all.fits.whole)
