-- A framed signal, of ones too, is no alarm indication: N digits in a row of a line of correct frames are never few, wherever they begin, because the
-- word alone has more zeros than the limit.
use Rattle.std.specs.Prelude.{Some}
use mathlib.Core.Path.{◌≡◌, refl, sym, ap, ◌∙◌}
use mathlib.Core.Bool.{false}
use mathlib.Core.List.{List}
use Prim.Native.Nat.{ℕ, ◌+◌, ◌-◌, ◌*◌, ◌≤◌, ◌<◌}
use native.Mathlib.Omega.{arith}
use native.Mathlib.Decide.{dec_lt}
use native.Mathlib.Nat.{mod-lt, mod-eq_of_lt, mod-add-mod, mod_self}
use borrow.Author.Tests.{lt-leb}
use lib.ListN.{length, get_or, take, drop, length-drop, take-append-drop}
use lib.Seq.{take-add, drop-drop, take_all, length-take-le, ext_get_or, get_or-take, get_or-drop}
use Rattle.digits.specs.Digits.{zeros_in, written}
use Rattle.digits.proofs.ZeroLaws.{zeros-append}
use Rattle.table.specs.declared.Row.{Row}
use Rattle.table.specs.Table.{level_of}
use Rattle.levels.specs.Table.{Shared}
use Rattle.levels.proofs.Rows.{shared-row}
use Rattle.receiver.specs.declared.State.{State}
use Rattle.pieces.specs.declared.alarm.Stretch.{Stretch}
use Rattle.pieces.specs.Alarm.{Counting}
use Rattle.receiver_promises.specs.Stretches.{EverywhereFew}
use Rattle.receiver.specs.Feed.{fresh_state}
use Rattle.receiver_promises.specs.History.{heard, since}
use Rattle.receiver_promises.specs.Line.{in_frame, Framed}
use Rattle.digits.proofs.Written.{written-length}
use Rattle.pieces.proofs.Holding.{word-within}
use Rattle.receiver_promises.proofs.Pieces.{heard-stretch}
use Rattle.receiver_promises.proofs.Alarms.{some-digits, stays, heard-settles}

zeros-cut : (a b : ℕ) (xs : List ℕ) → zeros_in (take (a + b) xs) ≡ zeros_in (take a xs) + zeros_in (take b (drop a xs))
zeros-cut a b xs = rw (take-add a b xs) (zeros-append (take a xs) (take b (drop a xs)))

module _ (row : Row) (sh : Shared row) (o : ℕ) (ds : List ℕ) (line : Framed row o ds) where
  abbrev word : List ℕ
  word = written row.len row.word

  some : 0 < row.digits
  some = some-digits row sh

  -- digits of the line that are digits of a word
  word-part : (a q n : ℕ) → in_frame row o a ≡ q → q + n ≤ row.len → a + n ≤ length ds → take n (drop a ds) ≡ take n (drop q word)
  word-part a q n e fits room = ext_get_or 0 (take n (drop a ds)) (take n (drop q word)) (left ∙ sym right) each
    where
      left : length (take n (drop a ds)) ≡ n
      left = length-take-le n (drop a ds) (omega (arith, length-drop a ds))

      right : length (take n (drop q word)) ≡ n
      right = length-take-le n (drop q word) (omega (arith, length-drop q word, written-length row.len row.word))

      at : (i : ℕ) → i < n → in_frame row o (a + i) ≡ q + i
      at i h =
          let assoc : o + (a + i) ≡ o + a + i = omega arith in
          let small : q + i < row.digits = omega (arith, word-within row sh) in
          rw (assoc, ← mod-add-mod (o + a) row.digits i, e) (mod-eq_of_lt small)

      each : (i : ℕ) → i < length (take n (drop a ds)) → get_or (take n (drop a ds)) i 0 ≡ get_or (take n (drop q word)) i 0
      each i h =
          let lt : i < n = omega (arith, left) in
          let in-word : q + i < row.len = omega arith in
          rw (get_or-take n (drop a ds) i 0 lt, get_or-drop a ds i 0, get_or-take n (drop q word) i 0 lt, get_or-drop q word i 0)
          (line.words (a + i) (omega arith) (rw (at i lt) in-word) ∙ rw (at i lt))

  -- the next frame begins N - r digits on
  next-frame : (i : ℕ) → in_frame row o (i + (row.digits - in_frame row o i)) ≡ 0
  next-frame i =
      let r = in_frame row o i in
      let lt : r < row.digits = mod-lt (o + i) some in
      let assoc : o + (i + (row.digits - r)) ≡ o + i + (row.digits - r) = omega arith in
      let whole : r + (row.digits - r) ≡ row.digits = omega arith in
      rw (assoc, ← mod-add-mod (o + i) row.digits (row.digits - r), whole) (mod_self row.digits)

  pub framed-zeros : (i : ℕ) → i + row.digits ≤ length ds → zeros_in word ≤ zeros_in (take row.digits (drop i ds))
  framed-zeros i room = elim (dec_lt r row.len) [ yes h ↦ split h | no h ↦ inside (omega arith) ]
    where
      r : ℕ
      r = in_frame row o i

      lt : r < row.digits
      lt = mod-lt (o + i) some

      word-length : length word ≡ row.len
      word-length = written-length row.len row.word

      -- the word is cut: its end stands first and its begin last
      split : r < row.len → zeros_in word ≤ zeros_in (take row.digits (drop i ds))
      split h =
          let b = row.len - r in
          let m = row.digits - row.len in
          let sum : row.digits ≡ b + (m + r) = omega (arith, word-within row sh) in
          let first : take b (drop i ds) ≡ drop r word =
          word-part i r b refl (omega arith) (omega (arith, word-within row sh)) ∙ take_all b (drop r word) (omega (arith, length-drop r word, word-length)) in
          let there : i + b + m ≡ i + (row.digits - r) = omega (arith, word-within row sh) in
          let last : take r (drop m (drop b (drop i ds))) ≡ take r word =
          rw (drop-drop b i ds, drop-drop m (i + b) ds, there) (word-part (i + (row.digits - r)) 0 r (next-frame i) (omega arith) (omega (arith, lt))) in
          let whole : zeros_in word ≡ zeros_in (take r word) + zeros_in (drop r word) = rw (take-append-drop r word) at (zeros-append (take r word) (drop r word)) in
          let one = zeros-cut b (m + r) (drop i ds) in
          let two = zeros-cut m r (drop b (drop i ds)) in
          let all : zeros_in (take row.digits (drop i ds)) ≡ zeros_in (take (b + (m + r)) (drop i ds)) = ap (λ (n : ℕ). zeros_in (take n (drop i ds))) sum in
          omega (arith, ap zeros_in first, ap zeros_in last)

      -- the word stands inside
      inside : row.len ≤ r → zeros_in word ≤ zeros_in (take row.digits (drop i ds))
      inside h =
          let a = row.digits - r in
          let sum : row.digits ≡ a + (row.len + (r - row.len)) = omega (arith, lt) in
          let part : take row.len (drop a (drop i ds)) ≡ word =
          rw (drop-drop a i ds) (word-part (i + a) 0 row.len (next-frame i) (omega arith) (omega (arith, lt))) ∙ take_all row.len word (omega (arith, word-length)) in
          let one = zeros-cut a (row.len + (r - row.len)) (drop i ds) in
          let two = zeros-cut row.len (r - row.len) (drop a (drop i ds)) in
          let all : zeros_in (take row.digits (drop i ds)) ≡ zeros_in (take (a + (row.len + (r - row.len))) (drop i ds)) = ap (λ (n : ℕ). zeros_in (take n (drop i ds))) sum in
          omega (arith, ap zeros_in part)

-- ---- so frames are never few

module _ (level : ℕ) (row : Row) (known : level_of level ≡ Some row) (o : ℕ) (ds : List ℕ) (line : Framed row o ds) where
  pub never-few : EverywhereFew row false ds
  never-few i room =
      lt-leb (zeros_in (take row.digits (drop i ds))) row.limit
      (omega (arith, (shared-row level row known).limit_word, framed-zeros row (shared-row level row known) o ds line i room))

  -- from reset they raise no alarm, at no digit
  pub framed-silent : (since row level ds).stretch.alarm ≡ false
  framed-silent =
      ap (λ (st : Stretch). st.alarm) (heard-stretch row ds (fresh_state level))
      ∙ stays row (some-digits row (shared-row level row known)) false (length ds) ds (omega arith) never-few

  -- and from any state they end it after at most 3 N digits
  pub framed-ends : (s : State) → Counting row s.stretch → 3 * row.digits ≤ length ds → (heard row s ds).stretch.alarm ≡ false
  framed-ends s c room = heard-settles level row known s c false ds never-few room
