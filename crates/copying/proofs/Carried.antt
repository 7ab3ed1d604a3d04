-- Laws of digits that are carried: a window's digits, those of a part of a slice, a copy's beginning and its end.
use mathlib.Core.Path.{◌≡◌, refl, sym, ap, ◌∙◌}
use mathlib.Core.Bool.{Bool, true, false}
use mathlib.Core.List.{List, ◌++◌, append_assoc, append-nil}
use Prim.Native.Nat.{ℕ, zero, suc, ◌+◌, ◌-◌, ◌*◌, ◌/◌, ◌%◌, ◌^◌, ◌≤◌, ◌<◌}
use native.Mathlib.Omega.{arith}
use native.Mathlib.Numerals.{add-one}
use borrow.Author.Tests.{leb-true, leb-false, le-leb, lt-leb}
use lib.Dec.{leb}
use lib.ListN.{length, get_or, take, drop, replicate, length-drop, take-append-drop}
use lib.Seq.{take_all, take-suc, get_or-drop, drop-drop, take-add, sets, sets-eq, length-take-le}
use Rattle.digits.specs.Digits.{digits_of, Binary, Bytes, window_at, written}
use Rattle.digits.proofs.Laws.{digits-length, digits-binary, digits_append, digits-take, digits-drop, bytes-of-digits}
use Rattle.digits.proofs.Written.{written-cat, written_one}
use Rattle.words.specs.declared.Writer.{Writer}
use Rattle.words.specs.Words.{out_from, Appended, zeros_after, Finished}
use Rattle.words.proofs.Writing.{appended-more}
use Rattle.copying.specs.Copying.{digits_from, has_digits, put_into, copies, CopyMet, Begun}

-- the bytes in which so many digits end
pub same_test : (first count bytes : ℕ)
    → leb (first / 8 + count / 8 + (first % 8 + count % 8 + 7) / 8) bytes ≡ leb (first + count) (8 * bytes)
same_test first count bytes = both (leb (first + count) (8 * bytes)) refl
  where
    end : ℕ
    end = first / 8 + count / 8 + (first % 8 + count % 8 + 7) / 8

    both : (t : Bool) → leb (first + count) (8 * bytes) ≡ t → leb end bytes ≡ leb (first + count) (8 * bytes)
    both true e = le-leb end bytes (omega (arith, leb-true (first + count) (8 * bytes) e)) ∙ sym e
    both false e = lt-leb end bytes (omega (arith, leb-false (first + count) (8 * bytes) e)) ∙ sym e

-- a window, written, is the digits that it was read from
pub window-written : (ds : List ℕ) → Binary ds → (p n : ℕ) → p + n ≤ length ds → written n (window_at ds p n) ≡ take n (drop p ds)
unfolding window_at written
window-written ds bin p zero h = refl
window-written ds bin p (suc n) h =
    let d = get_or ds (p + n) 0 in
    let one : d % 2 ≡ d = omega (arith, bin (p + n)) in
    let cat : written (suc n) (window_at ds p n * 2 + d) ≡ written n (window_at ds p n) ++ written 1 d =
    rw (add-one n) at (written-cat n 1 (window_at ds p n) d (bin (p + n))) in
    rw (cat, written_one d, one, window-written ds bin p n (omega arith), ← get_or-drop p ds n 0)
    (sym (take-suc (drop p ds) n 0 (omega (arith, length-drop p ds))))

-- the digits of a slice from a byte on
pub part-from : (from : List ℕ) (byte end p n : ℕ) → end ≡ length from → digits_from (take (end - byte) (drop byte from)) p n ≡ digits_from from (8 * byte + p) n
part-from from byte end p n e =
    rw (take_all (end - byte) (drop byte from) (omega (arith, length-drop byte from)), digits-drop byte from, drop-drop p (8 * byte) (digits_of from))

-- so many, and then more
pub more-from : (from : List ℕ) (first n m : ℕ) → digits_from from first (n + m) ≡ digits_from from first n ++ digits_from from (first + n) m
more-from from first n m = take-add n m (drop first (digits_of from)) ∙ rw (drop-drop n first (digits_of from))

pub from-length : (from : List ℕ) (first n : ℕ) → first + n ≤ 8 * length from → length (digits_from from first n) ≡ n
from-length from first n h =
    length-take-le n (drop first (digits_of from)) (omega (arith, length-drop first (digits_of from), digits-length from))

-- a word read out of a part of a slice
pub word_read : (from : List ℕ) (byte end p n r : ℕ) → end ≡ length from → 8 * byte + p + n ≤ 8 * length from
    → r ≡ window_at (digits_of (take (end - byte) (drop byte from))) p n
    → written n r ≡ digits_from from (8 * byte + p) n
word_read from byte end p n r e h q =
    let part = take (end - byte) (drop byte from) in
    let long = take_all (end - byte) (drop byte from) (omega (arith, length-drop byte from)) in
    rw q
    (window-written (digits_of part) (digits-binary part) p n (rw long (omega (arith, digits-length (drop byte from), length-drop byte from)))
    ∙ part-from from byte end p n e)

-- a writer begins: the whole bytes before it, and the digits that it holds
pub begun : (to : List ℕ) (at held : ℕ) → held < 2 ^ (at % 8) → written (at % 8) held ≡ digits_from to (8 * (at / 8) + 0) (at % 8)
    → Begun to at (record { at = at / 8; held = held; fill = at % 8 })
unfolding out_from
begun to at held fits same =
    let whole : 8 * (at / 8) + at % 8 ≡ at = omega arith in
    let here : 8 * (at / 8) + 0 ≡ 8 * (at / 8) = omega arith in
    record {
      ready = record { few = omega arith; fits = fits };
      place = whole;
      out =
          rw (digits-take (at / 8) to, same, here)
          (sym (take-add (8 * (at / 8)) (at % 8) (digits_of to)) ∙ rw whole);
    }

-- the digits put out, and those that stay behind them
pub closed : {old mid new : List ℕ} {w r q : Writer} {n : ℕ} (last : ℕ) → Appended old mid w r n (written n last) → Finished mid new r q → (w.fill + n) % 8 ≡ 0
    → written n last ≡ digits_from old (8 * w.at + w.fill) n
    → digits_of new ≡ out_from 0 old w ++ drop (8 * w.at + w.fill) (digits_of old)
unfolding out_from written
closed {old} {mid} {new} {w} {r} {q} {n} last one two even same =
    let none : zeros_after r.fill ≡ 0 = omega (arith, one.place) in
    let all : Appended old new w q (n + zeros_after r.fill) (written n last ++ replicate (zeros_after r.fill) 0) = appended-more one two.appended in
    let here = 8 * w.at + w.fill in
    let end : 8 * q.at ≡ here + n = omega (arith, all.place, two.none_held, none) in
    let out : digits_of (take q.at new) ≡ out_from 0 old w ++ written n last =
    sym (append-nil (digits_of (take q.at new)))
    ∙ rw (two.none_held, none) at (all.out 0 (omega arith))
    ∙ ap (λ (es : List ℕ). out_from 0 old w ++ es) (append-nil (written n last)) in
    sym (ap digits_of (take-append-drop q.at new))
    ∙ digits_append (take q.at new) (drop q.at new)
    ∙ rw (out, all.back, digits-drop q.at old, end, same)
    (append_assoc (out_from 0 old w) (digits_from old here n) (drop (here + n) (digits_of old))
    ∙ rw (← drop-drop n here (digits_of old), take-append-drop n (drop here (digits_of old))))

-- the whole: before it, the digits copied, behind it
pub copied : {to mid new : List ℕ} {w r : Writer} {at count : ℕ} (from : List ℕ) (first : ℕ) → Begun to at w
    → Appended to mid w r count (digits_from from first count)
    → digits_of new ≡ out_from 0 mid r ++ drop (8 * r.at + r.fill) (digits_of mid)
    → Bytes new → length new ≡ length to → at + count ≤ 8 * length to → first + count ≤ 8 * length from
    → new ≡ put_into to at (digits_from from first count)
unfolding put_into
copied {to} {mid} {new} {w} {r} {at} {count} from first b a e bytes long room there =
    sym (bytes-of-digits new bytes)
    ∙ rw (long, all)
  where
    ds : List ℕ
    ds = digits_from from first count

    n : length ds ≡ count
    n = from-length from first count there

    end : 8 * r.at + r.fill ≡ at + length ds
    end = omega (arith, a.place, b.place, n)

    behind : drop (8 * r.at + r.fill) (digits_of mid) ≡ drop (at + length ds) (digits_of to)
    behind =
        sym (drop-drop r.fill (8 * r.at) (digits_of mid))
        ∙ ap (drop r.fill) (sym (digits-drop r.at mid) ∙ ap digits_of a.back ∙ digits-drop r.at to)
        ∙ drop-drop r.fill (8 * r.at) (digits_of to)
        ∙ ap (λ (k : ℕ). drop k (digits_of to)) end

    all : digits_of new ≡ sets (digits_of to) at ds
    all =
        e
        ∙ rw (a.out 0 (omega arith), b.out, behind) (sym (sets-eq ds (digits_of to) at (omega (arith, n, digits-length to))))

-- ---- the statement, by the two tests

module _ (to : List ℕ) (at : ℕ) (from : List ℕ) (first count : ℕ) where
  pub none-there : leb (at + count) (8 * length to) ≡ false → CopyMet to at from first count 7 to
  unfolding copies has_digits
  none-there e = record { refusal = rw e refl; copied = rw e refl }

  pub none_here : leb (at + count) (8 * length to) ≡ true → leb (first + count) (8 * length from) ≡ false → CopyMet to at from first count 7 to
  unfolding copies has_digits
  none_here e f = record { refusal = rw (e, f) refl; copied = rw (e, f) refl }

  pub all_there : (left : List ℕ) → leb (at + count) (8 * length to) ≡ true → leb (first + count) (8 * length from) ≡ true
      → left ≡ put_into to at (digits_from from first count) → CopyMet to at from first count 0 left
  unfolding copies has_digits
  all_there left e f same = record { refusal = rw (e, f) refl; copied = rw (e, f) same }
