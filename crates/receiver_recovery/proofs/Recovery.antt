-- Request 8: from any valid state, on a line of correct frames, the receiver is aligned at the true place after at most 8 N digits, and stays so while the
-- line lasts, in whatever pieces its digits come. Told digit by digit by the deadline of proofs/Deadline.antt.
use Rattle.std.specs.Prelude.{Some}
use mathlib.Core.Path.{◌≡◌, refl, sym, ◌∙◌}
use mathlib.Core.Bool.{Bool, true, false, true≢false}
use mathlib.Core.List.{List, ◌++◌}
use Prim.Native.Nat.{ℕ, ◌+◌, ◌-◌, ◌*◌, ◌%◌, ◌^◌, ◌≤◌, ◌<◌}
use native.Mathlib.Omega.{arith}
use native.Mathlib.Nat.{mod-lt}
use borrow.Author.Tests.{eqb-true, eqb-false, eq-eqb, le-leb}
use lib.ListN.{length, get_or, take, length-append, length-take}
use lib.Seq.{take-append_seam}
use Rattle.digits.specs.Runs.{Piece, AllLent, digits_in_all, left_by, calls_for_all}
use Rattle.digits.proofs.Lists.{binary-take}
use Rattle.digits.proofs.Deadline.{next}
use Rattle.digits.proofs.WordLines.{none_left}
use Rattle.table.specs.declared.Row.{Row}
use Rattle.table.specs.Table.{level_of}
use Rattle.levels.specs.Table.{Shared}
use Rattle.levels.proofs.Rows.{shared-row}
use Rattle.modes.specs.declared.Mode.{Mode}
use Rattle.modes.specs.declared.Mode.TheVariants.{Hunting, OneFound, TwoFound, Aligned}
use Rattle.receiver.specs.declared.State.{State}
use Rattle.modes.specs.Modes.{hunting, window_of, seen_of, good, asks}
use Rattle.receiver.specs.Feed.{core_of, fresh_state, after_of, ValidState}
use Rattle.modes.specs.Modes.{Valid}
use Rattle.pieces.proofs.Holding.{word-within}
use Rattle.receiver_promises.specs.History.{heard, since}
use Rattle.receiver_promises.specs.Calls.{call_of}
use Rattle.receiver_promises.specs.Line.{in_frame}
use Rattle.receiver_promises.proofs.Pieces.{after-valid, heard-valid}
use Rattle.receiver_promises.proofs.Calls.{as-the-stream}
use Rattle.receiver_promises.proofs.Alarms.{some-digits}
use Rattle.receiver_promises.proofs.Alignment.{after_on, after_turn, asked-at, asks-held, up_one}
use Rattle.receiver_promises.proofs.Traces.{Traced, traced-fresh, traced, step-window, step-seen}
use Rattle.receiver_recovery.specs.Line.{word_of, CorrectLine, frame_end, true_place, AlignedAfter}
use Rattle.receiver_recovery.proofs.Deadline.{needs, DueAt, due-any, settled, due-up, due-turn}

-- ---- one digit of the line

after-window : (row : Row) (s : State) (d : ℕ) → (after_of row s d).window ≡ (s.window * 2 + d) % 2 ^ row.len
unfolding after_of window_of
after-window row s d = step-window row (core_of s) d

after-seen : (row : Row) (s : State) (d : ℕ) → (after_of row s d).seen ≡ seen_of row s.seen
unfolding after_of
after-seen row s d = step-seen row (core_of s) d

-- hunting, a word is asked for at every digit
asks-hunting : (row : Row) (n : ℕ) (mode : Mode) (p : ℕ) → hunting mode ≡ true → row.len ≤ n → asks row n mode p ≡ true
unfolding asks
asks-hunting row n mode p h came = rw h (le-leb row.len n came)

module _ (row : Row) (s : State) (v : Valid row (core_of s)) (d due t : ℕ) (ht : t < row.digits) (came : row.len ≤ (after_of row s d).seen)
    (only-word : (after_of row s d).window ≡ row.word → next row.digits t ≡ 0) (true-word : next row.digits t ≡ 0 → (after_of row s d).window ≡ row.word) where
  abbrev asked : Bool
  asked = asks row (seen_of row s.seen) s.mode s.place

  held : (b : Bool) → hunting s.mode ≡ b → asked ≡ false → hunting s.mode ≡ false
  held true q e = absurd (true≢false (sym (asks-hunting row (seen_of row s.seen) s.mode s.place q (rw (after-seen row s d) at came)) ∙ e))
  held false q e = q

  due-step : DueAt row due t s.mode s.place → DueAt row (due - 1) (next row.digits t) (after_of row s d).mode (after_of row s d).place
  unfolding good
  due-step h = by-asked asked refl
    where
      by-asked : (b : Bool) → asked ≡ b → DueAt row (due - 1) (next row.digits t) (after_of row s d).mode (after_of row s d).place
      by-asked true e =
          rw ((after_turn row s d e).0, (after_turn row s d e).1)
          (due-turn row t s.place ht v.place due s.mode (good row (after_of row s d).window) v.missed (asked-at row (seen_of row s.seen) s.mode s.place e)
          (λ g. only-word (eqb-true (after_of row s d).window row.word g)) (λ z. eq-eqb (after_of row s d).window row.word (true-word z)) h)
      by-asked false e =
          let q = held (hunting s.mode) refl e in
          let below : (s.place + 1 ≡ row.digits → ⊥) = eqb-false (s.place + 1) row.digits (sym (asks-held row (seen_of row s.seen) s.mode s.place q) ∙ e) in
          rw ((after_on row s d e).0, (after_on row s d e).1, up_one s.mode s.place q)
          (due-up row t s.place ht v.place due s.mode q v.missed (under below) h)
        where
          under : (s.place + 1 ≡ row.digits → ⊥) → s.place + 1 < row.digits
          under q = omega (arith, v.place)

-- ---- along the line: where after L - 1 digits at most `due` more are due, it is aligned at the true place after them

module _ (row : Row) (sh : Shared row) (s : State) (v : Valid row (core_of s)) (o : ℕ) (ds : List ℕ) (line : CorrectLine row o ds) where
  abbrev after : ℕ → State
  after k = heard row s (take k ds)

  aligned-by : (due : ℕ) → DueAt row due (true_place row o (row.len - 1)) (after (row.len - 1)).mode (after (row.len - 1)).place
      → (k : ℕ) → row.len - 1 + due ≤ k → k ≤ length ds → AlignedAfter row o k (after k)
  unfolding true_place seen_of
  aligned-by due start k enough h = record { mode = end.0; place = end.1 }
    where
      words : (i j : ℕ) → i < length ds → j < row.len → in_frame row o i ≡ 0 + j → get_or ds i 0 ≡ get_or (word_of row) j 0
      words i j h lt e =
          let index : in_frame row o i ≡ j = omega arith in
          line.framed.words i h (rw index lt) ∙ rw index

      end : ((after k).mode ≡ Aligned 0) × ((after k).place ≡ true_place row o k)
      end =
          let v' = heard-valid row sh (take k ds) s v in
          settled row (true_place row o k) (after k).place (mod-lt (o + k + frame_end row) (some-digits row sh)) v'.place (after k).mode v'.missed
          (none_left (after_of row) row.digits row.len 0 (frame_end row) (3 * row.digits) row.word (omega (arith, word-within row sh)) (omega (arith, sh.word_some))
          (λ (s : State). s.window) (λ (s : State). s.seen) (λ (s : State). s.place) (λ (s : State). needs row s.mode) (after-window row) (after-seen row)
          (λ (s : State). Valid row (core_of s)) (after-valid row sh) (λ s v. v.window) sh.word_fits (λ _ _. Unit {0}) (λ s v d due t ht came a b _. due-step row s v d due t ht came a b)
          s v o ds line.binary words line.no_others (λ _ _. tt) due start k enough h)

  -- ---- request 8: from any valid state, after at most 8 N digits of such a line the receiver is aligned at the true place, and stays so while the line lasts

  -- sharper: after 7 N + L - 2 digits
  pub recovers-sooner : (k : ℕ) → 7 * row.digits + row.len ≤ k + 2 → k ≤ length ds → AlignedAfter row o k (heard row s (take k ds))
  recovers-sooner k enough h =
      let first = after (row.len - 1) in
      aligned-by (7 * row.digits - 1) (due-any row (true_place row o (row.len - 1)) first.mode first.place (some-digits row sh)) k
      (omega (arith, some-digits row sh, sh.word_some)) h

  pub recovers : (k : ℕ) → 8 * row.digits ≤ k → k ≤ length ds → AlignedAfter row o k (heard row s (take k ds))
  recovers k enough h = recovers-sooner k (omega (arith, word-within row sh)) h

-- from reset three words are enough: after at most 3 N + L - 1 digits. Before the L-th it hunts
pub found-from-fresh : (row : Row) → Shared row → (level o : ℕ) (ds : List ℕ) → CorrectLine row o ds
    → (k : ℕ) → 3 * row.digits + row.len ≤ k + 1 → k ≤ length ds → AlignedAfter row o k (since row level (take k ds))
found-from-fresh row sh level o ds line k enough h =
    aligned-by row sh (fresh_state level) (traced-fresh row sh level).valid o ds line (3 * row.digits) (still first.mode first.place t.valid.came) k
    (omega (arith, sh.word_some)) h
  where
    first : State
    first = since row level (take (row.len - 1) ds)

    t : Traced row (take (row.len - 1) ds) first
    t = traced row sh level (take (row.len - 1) ds) (binary-take (row.len - 1) ds line.binary)

    short : row.len ≤ first.seen → ⊥
    short q = omega (arith, t.seen, length-take (row.len - 1) ds, sh.word_some)

    still : (mode : Mode) (p : ℕ) → (hunting mode ≡ false → row.len ≤ first.seen) → DueAt row (3 * row.digits) (true_place row o (row.len - 1)) mode p
    still Hunting p came = omega arith
    still OneFound p came = absurd (short (came refl))
    still TwoFound p came = absurd (short (came refl))
    still (Aligned m) p came = absurd (short (came refl))

-- the line alone decides: whatever two states it came upon, mode and place are then the same
pub forgets : (row : Row) → Shared row → (s t : State) → Valid row (core_of s) → Valid row (core_of t) → (o : ℕ) (ds : List ℕ) → CorrectLine row o ds
    → (k : ℕ) → 8 * row.digits ≤ k → k ≤ length ds
    → ((heard row s (take k ds)).mode ≡ (heard row t (take k ds)).mode) × ((heard row s (take k ds)).place ≡ (heard row t (take k ds)).place)
forgets row sh s t v w o ds line k enough h =
    let one = recovers row sh s v o ds line k enough h in
    let other = recovers row sh t w o ds line k enough h in
    (one.mode ∙ sym other.mode, one.place ∙ sym other.place)

-- ---- the same of the public call, whatever pieces the line's digits come in: after the calls for these pieces, each with its rest after a frame, whatever
-- digits of the line are still to come
pub calls-recover : (row : Row) (s : State) → level_of s.level ≡ Some row → ValidState row s → (ps : List Piece) → AllLent ps → (rest : List ℕ)
    → (o : ℕ) → CorrectLine row o (digits_in_all ps ++ rest) → 8 * row.digits ≤ length (digits_in_all ps)
    → AlignedAfter row o (length (digits_in_all ps)) (left_by call_of s (calls_for_all call_of s ps))
calls-recover row s known v ps lent rest o line enough =
    let ds = digits_in_all ps in
    let k = length ds in
    rw (as-the-stream row s known v ps lent).0
    (rw (take-append_seam ds rest) at
    (recovers row (shared-row s.level row known) s v.0 o (ds ++ rest) line k enough (omega (arith, length-append ds rest))))
