-- Laws of digits put one after another: their digits, their bytes, and whole bytes at a time.
use mathlib.Core.Path.{◌≡◌, refl, sym, ap, ap₂, ◌∙◌}
use mathlib.Core.List.{List, [], ◌∷◌, ◌++◌}
use Prim.Native.Nat.{ℕ, zero, suc, ◌+◌, ◌-◌, ◌*◌, ◌/◌, ◌%◌, ◌≤◌, ◌<◌, min}
use native.Mathlib.Omega.{arith}
use native.Mathlib.Nat.{add-zero, mod-eq_of_lt}
use lib.ListN.{length, get_or, set, take, drop, length-set}
use lib.Seq.{sets, sets-eq}
use Rattle.digits.specs.Digits.{digits_of, eight, Bytes, Binary, between, window_at, written}
use Rattle.digits.proofs.Laws.{digits-length, digits-binary, digits-of-bytes, bytes-of-digits, bytes-length, bytes-are-bytes, digits_append, digits-take, digits-drop, digits-inj}
use Rattle.digits.proofs.Windows.{window-lt}
use Rattle.digits.proofs.Written.{written-more, byte-written}
use Rattle.digits.proofs.ZeroLaws.{between_none, between-one, between_join, between-length}
use Rattle.words.specs.Words.{four}
use Rattle.words.proofs.Writing.{four-written}
use Rattle.strides.specs.Copies.{put, puts}

pub puts-append : (f : List ℕ) (p : ℕ) (xs ys : List ℕ) → puts f p (xs ++ ys) ≡ puts (puts f p xs) (p + length xs) ys
unfolding puts
puts-append f p [] ys = rw (add-zero p)
puts-append f p (x ∷ xs) ys = puts-append (put f p x) (suc p) xs ys ∙ ap (λ (q : ℕ). puts (puts f p (x ∷ xs)) q ys) e
  where
    e : suc p + length xs ≡ p + suc (length xs)
    e = omega arith

-- ---- the digits of what is put

set-binary : (ds : List ℕ) (p d : ℕ) → Binary ds → d < 2 → Binary (set ds p d)
set-binary [] p d b h i = b i
set-binary (x ∷ xs) zero d b h zero = h
set-binary (x ∷ xs) zero d b h (suc i) = b (suc i)
set-binary (x ∷ xs) (suc p) d b h zero = b zero
set-binary (x ∷ xs) (suc p) d b h (suc i) = set-binary xs p d (λ j. b (suc j)) h i

-- what `put_digit` leaves
pub put_is : (f f' : List ℕ) (p d : ℕ) → digits_of f' ≡ set (digits_of f) p d → Bytes f' → f' ≡ put f p d
unfolding put
put_is f f' p d e bytes =
    let l : length f' ≡ length f =
    omega (arith, digits-length f', digits-length f, length-set (digits_of f) p d, ap length e) in
    sym (bytes-of-digits f' bytes) ∙ rw (l, e)

put-length : (f : List ℕ) (p d : ℕ) → length (put f p d) ≡ length f
unfolding put
put-length f p d = bytes-length (length f) (set (digits_of f) p d)

put-digits : (f : List ℕ) (p d : ℕ) → d < 2 → digits_of (put f p d) ≡ set (digits_of f) p d
unfolding put
put-digits f p d h =
    digits-of-bytes (length f) (set (digits_of f) p d) (set-binary (digits_of f) p d (digits-binary f) h)
    (length-set (digits_of f) p d ∙ digits-length f)

pub puts-length : (ds f : List ℕ) (p : ℕ) → length (puts f p ds) ≡ length f
unfolding puts
puts-length [] f p = refl
puts-length (d ∷ ds) f p = puts-length ds (put f p d) (suc p) ∙ put-length f p d

puts-digits : (ds f : List ℕ) (p : ℕ) → Binary ds → digits_of (puts f p ds) ≡ sets (digits_of f) p ds
unfolding puts
puts-digits [] f p b = refl
puts-digits (d ∷ ds) f p b =
    puts-digits ds (put f p d) (suc p) (λ i. b (suc i)) ∙ ap (λ (xs : List ℕ). sets xs (suc p) ds) (put-digits f p d (b zero))

put-bytes : (f : List ℕ) (p d : ℕ) → d < 2 → Bytes (put f p d)
unfolding put
put-bytes f p d h = bytes-are-bytes (length f) (set (digits_of f) p d) (set-binary (digits_of f) p d (digits-binary f) h)

puts-bytes : (ds f : List ℕ) (p : ℕ) → Binary ds → Bytes f → Bytes (puts f p ds)
unfolding puts
puts-bytes [] f p b bytes = bytes
puts-bytes (d ∷ ds) f p b bytes = puts-bytes ds (put f p d) (suc p) (λ i. b (suc i)) (put-bytes f p d (b zero))

-- ---- whole bytes

set-bytes : (f : List ℕ) (p d : ℕ) → Bytes f → d < 256 → Bytes (set f p d)
set-bytes [] p d b h i = b i
set-bytes (x ∷ xs) zero d b h zero = h
set-bytes (x ∷ xs) zero d b h (suc i) = b (suc i)
set-bytes (x ∷ xs) (suc p) d b h zero = b zero
set-bytes (x ∷ xs) (suc p) d b h (suc i) = set-bytes xs p d (λ j. b (suc j)) h i

sets-bytes : (vs f : List ℕ) (p : ℕ) → Bytes f → Bytes vs → Bytes (sets f p vs)
sets-bytes [] f p b h = b
sets-bytes (v ∷ vs) f p b h = sets-bytes vs (set f p v) (suc p) (set-bytes f p v b (h zero)) (λ i. h (suc i))

bytes-puts : (f vs : List ℕ) (at : ℕ) → Bytes f → Bytes vs → at + length vs ≤ length f → sets f at vs ≡ puts f (8 * at) (digits_of vs)
bytes-puts f vs at bytes are room =
    digits-inj (sets f at vs) (puts f (8 * at) (digits_of vs)) (sets-bytes vs f at bytes are) (puts-bytes (digits_of vs) f (8 * at) (digits-binary vs) bytes)
    (ap digits_of (sets-eq vs f at room)
    ∙ digits_append (take at f ++ vs) (drop (at + length vs) f)
    ∙ ap₂ (λ (xs ys : List ℕ). xs ++ ys) (digits_append (take at f) vs ∙ ap (λ (xs : List ℕ). xs ++ digits_of vs) (digits-take at f))
    (digits-drop (at + length vs) f ∙ ap (λ (n : ℕ). drop n (digits_of f)) e)
    ∙ sym (puts-digits (digits_of vs) f (8 * at) (digits-binary vs)
    ∙ sets-eq (digits_of vs) (digits_of f) (8 * at) (omega (arith, digits-length f, digits-length vs))))
  where
    e : 8 * (at + length vs) ≡ 8 * at + length (digits_of vs)
    e = omega (arith, digits-length vs)

-- ---- the digits of a slice, as a number and again as digits

pub window-written : (bs : List ℕ) (p k : ℕ) → p + k ≤ 8 * length bs → written k (window_at (digits_of bs) p k) ≡ between bs p (p + k)
unfolding window_at written
window-written bs p zero h = sym (rw (add-zero p) (between_none bs p))
window-written bs p (suc k) h =
    let e : p + suc k ≡ p + k + 1 = omega arith in
    let ds = digits_of bs in
    ap (written (suc k)) (sym (mod-eq_of_lt (window-lt ds (digits-binary bs) p (suc k))))
    ∙ written-more k (window_at ds p k) (get_or ds (p + k) 0) (digits-binary bs (p + k))
    ∙ rw e (ap₂ (λ (xs ys : List ℕ). xs ++ ys) (window-written bs p k (omega arith)) (sym (between-one bs (p + k) (omega arith)))
    ∙ sym (between_join bs p (p + k) (p + k + 1) (omega arith) (omega arith)))

-- ---- the loops

module _ (bs f : List ℕ) (to first : ℕ) where
  pub puts_none : f ≡ puts f to (between bs first first)
  unfolding puts
  puts_none = rw (between_none bs first)

  pub puts-start : (q : ℕ) → q ≡ first → f ≡ puts f to (between bs first q)
  puts-start q e = rw e puts_none

  pub puts-join : (q r to' : ℕ) (g h : List ℕ) → first ≤ q → q ≤ r → r ≤ 8 * length bs → to' ≡ to + (q - first)
      → g ≡ puts f to (between bs first q) → h ≡ puts g to' (between bs q r) → h ≡ puts f to (between bs first r)
  puts-join q r to' g h from on room et eg eh =
      let n : to + length (between bs first q) ≡ to' = omega (arith, between-length bs first q (omega arith)) in
      eh ∙ rw eg (ap (λ (k : ℕ). puts (puts f to (between bs first q)) k (between bs q r)) (sym n))
      ∙ sym (puts-append f to (between bs first q) (between bs q r)) ∙ ap (puts f to) (sym (between_join bs first q r from on))

  pub puts_one : (q d to' : ℕ) (g h : List ℕ) → first ≤ q → q + 1 ≤ 8 * length bs → to' ≡ to + (q - first) → d ≡ get_or (digits_of bs) q 0
      → g ≡ puts f to (between bs first q) → h ≡ put g to' d → h ≡ puts f to (between bs first (q + 1))
  unfolding puts
  puts_one q d to' g h from room et ed eg eh = puts-join q (q + 1) to' g h from (omega arith) room et eg (eh ∙ rw (between-one bs q (omega arith), ← ed))

-- bytes stored whose digits come next
pub puts-stored : (bs f g h vs : List ℕ) (to first q r at : ℕ) → Bytes g → Bytes vs → at + length vs ≤ length g → first ≤ q → q ≤ r → r ≤ 8 * length bs
    → 8 * at ≡ to + (q - first) → g ≡ puts f to (between bs first q) → digits_of vs ≡ between bs q r → h ≡ sets g at vs
    → Bytes h × (h ≡ puts f to (between bs first r))
puts-stored bs f g h vs to first q r at bytes are room from on within place eg ev eh =
    let put_on : h ≡ puts g (8 * at) (digits_of vs) = eh ∙ bytes-puts g vs at bytes are room in (
      rw put_on (puts-bytes (digits_of vs) g (8 * at) (digits-binary vs) bytes),
      puts-join bs f to first q r (8 * at) g h from on within place eg (put_on ∙ ap (puts g (8 * at)) ev),
    )

four_bytes : (w : ℕ) → Bytes (four w)
four_bytes w zero = omega arith
four_bytes w (suc zero) = omega arith
four_bytes w (suc (suc zero)) = omega arith
four_bytes w (suc (suc (suc zero))) = omega arith
four_bytes w (suc (suc (suc (suc i)))) = omega arith

-- a turn of 32 digits
pub puts_word : (bs f g h : List ℕ) (at first k w : ℕ) → Bytes g → at + 4 * k + 4 ≤ length g → first + 32 * (k + 1) ≤ 8 * length bs
    → g ≡ puts f (8 * at) (between bs first (first + 32 * k)) → w ≡ window_at (digits_of bs) (first + 32 * k) 32 → h ≡ sets g (at + 4 * k) (four w)
    → Bytes h × (h ≡ puts f (8 * at) (between bs first (first + 32 * (k + 1))))
puts_word bs f g h at first k w bytes room within eg ew eh =
    let on : first + 32 * (k + 1) ≡ first + 32 * k + 32 = omega arith in
    rw on
    (puts-stored bs f g h (four w) (8 * at) first (first + 32 * k) (first + 32 * k + 32) (at + 4 * k) bytes (four_bytes w) room (omega arith) (omega arith) (omega arith)
    (omega arith) eg (four-written w ∙ ap (written 32) ew ∙ window-written bs (first + 32 * k) 32 (omega arith)) eh)

one_byte : (w : ℕ) → w < 256 → Bytes (w ∷ [])
one_byte w h zero = h
one_byte w h (suc i) = omega arith

eight-written : (w : ℕ) → w < 256 → digits_of (w ∷ []) ≡ written 8 w
unfolding digits_of
eight-written w h = let e : w % 256 ≡ w = mod-eq_of_lt h in sym (byte-written w ∙ ap eight e)

-- a turn of eight
pub puts-byte : (bs f g h : List ℕ) (at first k w : ℕ) → Bytes g → at + k < length g → first + 8 * (k + 1) ≤ 8 * length bs
    → g ≡ puts f (8 * at) (between bs first (first + 8 * k)) → w ≡ window_at (digits_of bs) (first + 8 * k) 8 → w < 256 → h ≡ set g (at + k) w
    → Bytes h × (h ≡ puts f (8 * at) (between bs first (first + 8 * (k + 1))))
puts-byte bs f g h at first k w bytes room within eg ew fits eh =
    let on : first + 8 * (k + 1) ≡ first + 8 * k + 8 = omega arith in
    rw on
    (puts-stored bs f g h (w ∷ []) (8 * at) first (first + 8 * k) (first + 8 * k + 8) (at + k) bytes (one_byte w fits) (omega arith) (omega arith) (omega arith) (omega arith)
    (omega arith) eg (eight-written w fits ∙ ap (written 8) ew ∙ window-written bs (first + 8 * k) 8 (omega arith)) eh)

-- three parts
pub puts-three : (bs f g h r : List ℕ) (to first q q' end to' to'' : ℕ) → first ≤ q → q ≤ q' → q' ≤ end → end ≤ 8 * length bs
    → to' ≡ to + (q - first) → to'' ≡ to + (q' - first) → g ≡ puts f to (between bs first q) → h ≡ puts g to' (between bs q q')
    → r ≡ puts h to'' (between bs q' end) → r ≡ puts f to (between bs first end)
puts-three bs f g h r to first q q' end to' to'' from on past within e e' eg eh er =
    let two = puts-join bs f to first q q' to' g h from on (omega arith) e eg eh in
    puts-join bs f to first q' end to'' h r (omega arith) past within e' two er

-- up to an end that is the end
pub puts_whole : (bs f g : List ℕ) (to first q end : ℕ) → g ≡ puts f to (between bs first q) → q ≡ end → g ≡ puts f to (between bs first end)
puts_whole bs f g to first q end eg e = rw (← e) eg

-- where the digits up to the end of a byte are put and more are left, the next byte is begun
pub byte_next : (to first end n : ℕ) → n ≡ min ((8 - to % 8) % 8) (end - first) → first + n < end → 8 * ((to + 7) / 8) ≡ to + (first + n - first)
byte_next to first end n e h = place n (omega arith)
  where
    place : (n : ℕ) → n ≡ (8 - to % 8) % 8 → 8 * ((to + 7) / 8) ≡ to + (first + n - first)
    place n q = omega arith
