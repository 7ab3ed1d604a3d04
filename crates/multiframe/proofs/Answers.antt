-- Building and taking apart together: taking apart what was built gives it back, and building from what was taken apart gives the multiframe
-- back wherever its fixed digits are right; a channel depends on its own places only. And the statements of the two calls guard them:
-- they leave no second answer, they are what the calls ensure, and the calls ask nothing of their callers.
use mathlib.Core.Path.{◌≡◌, refl, sym, ◌∙◌, ap}
use mathlib.Core.Bool.{Bool, cond, true, false}
use mathlib.Core.List.{List}
use Prim.Native.Nat.{ℕ, ◌+◌, ◌*◌, ◌/◌, ◌%◌, ◌≤◌, ◌<◌}
use native.Mathlib.Omega.{arith}
use native.Mathlib.Decide.{dec_lt}
use lib.Dec.{eqb}
use lib.ListN.{length, get_or, take, drop, length-take, length-drop, get_or-eq_default}
use lib.Seq.{ext_get_or, get_or-take, get_or-drop, length-take-le}
use contract.Lifetimes.{Lfts}
use denote.Triple.Clauses.{AtExit}
use borrow.Fn.World.{ArgsD, ResD}
use borrow.Author.Tests.{eq-eqb}
use Rattle.digits.specs.Digits.{digits_of, Bytes}
use Rattle.digits.proofs.Laws.{digits-inj, digits-length, part-digit, bytes-by-place}
use Rattle.multiframe.specs.declared.Kind.TheVariants.{Channel}
use Rattle.multiframe.specs.Multiframe.{channel_from, digit_for, multiframe_of}
use Rattle.multiframe.specs.Calls.{Built, refusal_in, numbers_of, lengths_right, first_silent, built_of, BuildMet, Taken, ApartMet}
use Rattle.multiframe.specs.Trips.{FixedRight, channel_bytes, SameAt}
use Rattle.multiframe.proofs.Lengths.{right-lengths}
use Rattle.multiframe.proofs.Told.{Told, fixed, spare, signalled, channelled, told, signalling-there}
use Rattle.multiframe.proofs.Spares.{table, table-there}
use Rattle.multiframe.proofs.Places.{made-digit, spare-meant, channel_place, channel-stands, signalling_place, channel-taken, signalling-taken, spare-taken}
use Rattle.multiframe.specs.contracts.build as build
use Rattle.multiframe.proofs.build.Reads as build-reads
use Rattle.multiframe.specs.contracts.apart as apart
use Rattle.multiframe.proofs.apart.Reads as apart-reads

-- bytes with the same digits are the same
same_bytes : (xs ys : List ℕ) (n : ℕ) → Bytes xs → Bytes ys → length xs ≡ n → length ys ≡ n
    → ((i : ℕ) → i < 8 * n → get_or (digits_of xs) i 0 ≡ get_or (digits_of ys) i 0) → xs ≡ ys
same_bytes xs ys n bx by lx ly e =
    digits-inj xs ys bx by
    (ext_get_or 0 (digits_of xs) (digits_of ys) (omega (arith, digits-length xs, digits-length ys)) (λ i h. e i (omega (arith, digits-length xs))))

-- ---- what is known of an accepted call

right-true : (t : Bool) → ◌≡◌ {A = ℕ} (cond t 0 2) 0 → t ≡ true
right-true true e = refl
right-true false e = absurd (two e)
  where
    two : ◌≡◌ {A = ℕ} 2 0 → ⊥
    two e = omega arith

module _ (old c s x : List ℕ) (a : Built) (left : List ℕ) (met : BuildMet old c s x a left) (z : a.refusal ≡ 0) where
  unrefused : (built_of (length old) (length c) s (length x)).refusal ≡ 0
  unrefused = sym (ap (λ (b : Built). b.refusal) met.0) ∙ z

  accepted-built : left ≡ multiframe_of c s x
  accepted-built = met.1 ∙ rw (eq-eqb (built_of (length old) (length c) s (length x)).refusal 0 unrefused) refl

  accepted-lengths : (length old ≡ 512) × (length c ≡ 480) × (length s ≡ 15) × (length x ≡ 9)
  accepted-lengths = right-lengths old c s x (go (lengths_right (length old) (length c) (length s) (length x)) (eqb (first_silent s) 0) unrefused)
    where
      go : (t u : Bool) → (cond {A = Built} t (record { refusal = cond u 0 11; channel = first_silent s }) (record { refusal = 2; channel = 0 })).refusal ≡ 0 → t ≡ true
      go true u e = refl
      go false u e = absurd (two e)
        where
          two : ◌≡◌ {A = ℕ} 2 0 → ⊥
          two e = omega arith

apart-length : (m oc os ox : List ℕ) (r : ℕ) (c s x : List ℕ) → ApartMet m oc os ox r c s x → r ≡ 0 → length m ≡ 512
apart-length m oc os ox r c s x met z = (right-lengths m oc os ox (right-true (lengths_right (length m) (length oc) (length os) (length ox)) (sym met.answer ∙ z))).0

-- ---- what is taken apart is one

module _ (m c s x c' s' x' : List ℕ) (t : Taken m c s x) (u : Taken m c' s' x') where
  one-taking : (c ≡ c') × (s ≡ s') × (x ≡ x')
  one-taking = (
    same_bytes c c' 480 t.bytes.0 u.bytes.0 t.lengths.0 u.lengths.0 (λ i h. channel-taken m c s x t i h ∙ sym (channel-taken m c' s' x' u i h)),
    same_bytes s s' 15 t.bytes.1 u.bytes.1 t.lengths.1 u.lengths.1 (λ i h. signalling-taken m c s x t i h ∙ sym (signalling-taken m c' s' x' u i h)),
    same_bytes x x' 9 t.bytes.2 u.bytes.2 t.lengths.2 u.lengths.2 each,
  )
    where
      each : (i : ℕ) → i < 72 → get_or (digits_of x) i 0 ≡ get_or (digits_of x') i 0
      each i h =
          elim (dec_lt i 68) [
            | yes l ↦ spare-taken m c s x t i l ∙ sym (spare-taken m c' s' x' u i l)
            | no l ↦ t.rest i (omega arith) h ∙ sym (u.rest i (omega arith) h)
          ]

-- ---- apart after build

-- the digits of what was built
module _ (c s x : List ℕ) where
  built-channel : (i : ℕ) → i < 3840 → get_or (digits_of (multiframe_of c s x)) (channel_place i) 0 ≡ get_or (digits_of c) i 0
  built-channel i h =
      let w = channel-stands i h in
      made-digit c s x (channel_place i) w.below ∙ rw (w.kind, w.number) refl

  built-signalling : (i : ℕ) → i < 120 → get_or (digits_of (multiframe_of c s x)) (signalling_place i) 0 ≡ get_or (digits_of s) i 0
  built-signalling i h =
      let w = signalling-there i h in
      made-digit c s x (signalling_place i) (omega arith) ∙ rw (w.kind, w.number) refl

  built-spare : (i : ℕ) → i < 68 → get_or (digits_of (multiframe_of c s x)) (get_or table i 0) 0 ≡ get_or (digits_of x) i 0
  built-spare i h =
      let w = table-there i h in
      made-digit c s x (get_or table i 0) w.below ∙ spare-meant c s x (get_or table i 0) i w.spare w.number

-- an accepted build, taken apart: channels and signalling are given back whole, and of the spare bytes the 68 digits, with zeros after them
pub apart-after-build : (old c s x : List ℕ) (a : Built) (m : List ℕ) → Bytes c → Bytes s → BuildMet old c s x a m → a.refusal ≡ 0
    → (oc os ox : List ℕ) (r : ℕ) (c' s' x' : List ℕ) → ApartMet m oc os ox r c' s' x' → r ≡ 0
    → (c' ≡ c) × (s' ≡ s) × ((i : ℕ) → i < 68 → get_or (digits_of x') i 0 ≡ get_or (digits_of x) i 0) × ((i : ℕ) → 68 ≤ i → i < 72 → get_or (digits_of x') i 0 ≡ 0)
apart-after-build old c s x a m bc bs met z oc os ox r c' s' x' apart rz =
    let right = accepted-lengths old c s x a m met z in
    let is : m ≡ multiframe_of c s x = accepted-built old c s x a m met z in
    let t : Taken (multiframe_of c s x) c' s' x' = rw is at (apart.taken rz) in (
      same_bytes c' c 480 t.bytes.0 bc t.lengths.0 right.1 (λ i h. channel-taken (multiframe_of c s x) c' s' x' t i h ∙ built-channel c s x i h),
      same_bytes s' s 15 t.bytes.1 bs t.lengths.1 right.2 (λ i h. signalling-taken (multiframe_of c s x) c' s' x' t i h ∙ built-signalling c s x i h),
      (λ i h. spare-taken (multiframe_of c s x) c' s' x' t i h ∙ built-spare c s x i h),
      t.rest,
    )

-- where the last four digits of the spare bytes were zero, they are given back whole too
pub spare-given-back : (x x' : List ℕ) → Bytes x → Bytes x' → length x ≡ 9 → length x' ≡ 9 → ((i : ℕ) → i < 68 → get_or (digits_of x') i 0 ≡ get_or (digits_of x) i 0)
    → ((i : ℕ) → 68 ≤ i → i < 72 → get_or (digits_of x') i 0 ≡ 0) → ((i : ℕ) → 68 ≤ i → i < 72 → get_or (digits_of x) i 0 ≡ 0) → x' ≡ x
spare-given-back x x' b b' l l' first rest zeros = same_bytes x' x 9 b' b l' l each
  where
    each : (i : ℕ) → i < 72 → get_or (digits_of x') i 0 ≡ get_or (digits_of x) i 0
    each i h =
        elim (dec_lt i 68) [
          | yes k ↦ first i k
          | no k ↦ rest i (omega arith) h ∙ sym (zeros i (omega arith) h)
        ]

-- ---- build after apart

pub build-after-apart : (m oc os ox : List ℕ) (r : ℕ) (c s x : List ℕ) → Bytes m → FixedRight m → ApartMet m oc os ox r c s x → r ≡ 0
    → (old : List ℕ) (a : Built) (left : List ℕ) → BuildMet old c s x a left → a.refusal ≡ 0 → left ≡ m
unfolding multiframe_of
build-after-apart m oc os ox r c s x b right apart rz old a left met z =
    let t = apart.taken rz in
    let l : length m ≡ 512 = apart-length m oc os ox r c s x apart rz in
    accepted-built old c s x a left met z ∙ sym (remade t l)
  where
    digit : Taken m c s x → (p : ℕ) → p < 4096 → Told p → get_or (digits_of m) p 0 ≡ digit_for c s x p
    digit t p h (fixed v e w) = right p v h e ∙ rw e refl
    digit t p h (spare k e w) = sym (t.each p h (rw e refl))
    digit t p h (signalled k f e g q n) = sym (t.each p h (rw e refl))
    digit t p h (channelled g e) = sym (t.each p h (rw e refl))

    remade : Taken m c s x → length m ≡ 512 → m ≡ multiframe_of c s x
    remade t l = bytes-by-place m (digit_for c s x) b (λ p h. digit t p (omega arith) (told p (omega arith))) ∙ rw l refl

-- ---- a channel depends on its own places only

part_bytes : (bs : List ℕ) (a : ℕ) → Bytes bs → Bytes (take 16 (drop a bs))
part_bytes bs a b i =
    elim (dec_lt i 16) [
      | yes h ↦ rw (get_or-take 16 (drop a bs) i 0 h, get_or-drop a bs i 0) (b (a + i))
      | no h ↦
          let past : get_or (take 16 (drop a bs)) i 0 ≡ 0 = get_or-eq_default (take 16 (drop a bs)) 0 (omega (arith, length-take 16 (drop a bs))) in
          rw past (omega arith)
    ]

part_length : (bs : List ℕ) (a : ℕ) → a + 16 ≤ length bs → length (take 16 (drop a bs)) ≡ 16
part_length bs a h = length-take-le 16 (drop a bs) (omega (arith, length-drop a bs))

pub channel-on-its-own : (k : ℕ) → 1 ≤ k → k ≤ 30 → (m m' c s x c' s' x' : List ℕ) → Taken m c s x → Taken m' c' s' x' → SameAt k m m' → channel_bytes c k ≡ channel_bytes c' k
channel-on-its-own k lo hi m m' c s x c' s' x' t u same =
    same_bytes (channel_bytes c k) (channel_bytes c' k) 16 (part_bytes c (channel_from k) t.bytes.0) (part_bytes c' (channel_from k) u.bytes.0)
    (part_length c (channel_from k) (omega (arith, t.lengths.0))) (part_length c' (channel_from k) (omega (arith, u.lengths.0)))
    (λ i h. part-digit (channel_from k) 16 c i h ∙ each i h ∙ sym (part-digit (channel_from k) 16 c' i h))
  where
    each : (i : ℕ) → i < 128 → get_or (digits_of c) (8 * channel_from k + i) 0 ≡ get_or (digits_of c') (8 * channel_from k + i) 0
    each i h =
        let j = 8 * channel_from k + i in
        let w = channel-stands j (omega arith) in
        let n : j / 128 + 1 ≡ k = omega arith in
        channel-taken m c s x t j (omega arith)
        ∙ same (channel_place j) w.below (w.kind ∙ ap Channel n)
        ∙ sym (channel-taken m' c' s' x' u j (omega arith))

-- and the digits at those places are made of that channel's bytes only
pub places-of-its-own : (k : ℕ) → (c s x c' s' x' : List ℕ) → channel_bytes c k ≡ channel_bytes c' k → SameAt k (multiframe_of c s x) (multiframe_of c' s' x')
places-of-its-own k c s x c' s' x' same p h e =
    let one : get_or (digits_of (multiframe_of c s x)) p 0 ≡ get_or (digits_of (channel_bytes c k)) (8 * (p / 256) + p % 8) 0 = own c s x in
    let other : get_or (digits_of (multiframe_of c' s' x')) p 0 ≡ get_or (digits_of (channel_bytes c' k)) (8 * (p / 256) + p % 8) 0 = own c' s' x' in
    one ∙ ap (λ (b : List ℕ). get_or (digits_of b) (8 * (p / 256) + p % 8) 0) same ∙ sym other
  where
    at : 8 * (channel_from k + p / 256) + p % 8 ≡ 8 * channel_from k + (8 * (p / 256) + p % 8)
    at = omega arith

    own : (c s x : List ℕ) → get_or (digits_of (multiframe_of c s x)) p 0 ≡ get_or (digits_of (channel_bytes c k)) (8 * (p / 256) + p % 8) 0
    own c s x = made-digit c s x p h ∙ rw (e, at) (sym (part-digit (channel_from k) 16 c (8 * (p / 256) + p % 8) (omega arith)))

-- ---- the statements leave no second answer

pub build-one-answer : (multiframe channels signalling spares : List ℕ) (a b : Built) (l m : List ℕ)
    → BuildMet multiframe channels signalling spares a l → BuildMet multiframe channels signalling spares b m → (a ≡ b) × (l ≡ m)
build-one-answer multiframe channels signalling spares a b l m x y = (x.0 ∙ sym y.0, x.1 ∙ sym y.1)

pub apart-one-answer : (multiframe channels signalling spares : List ℕ) (r r' : ℕ) (c s x c' s' x' : List ℕ) → ApartMet multiframe channels signalling spares r c s x
    → ApartMet multiframe channels signalling spares r' c' s' x' → (r ≡ r') × (c ≡ c') × (s ≡ s') × (x ≡ x')
apart-one-answer multiframe channels signalling spares r r' c s x c' s' x' one other =
    go (lengths_right (length multiframe) (length channels) (length signalling) (length spares)) one.answer other.answer
  where
    go : (t : Bool) → r ≡ cond t 0 2 → r' ≡ cond t 0 2 → (r ≡ r') × (c ≡ c') × (s ≡ s') × (x ≡ x')
    go true e f =
        let w = one-taking multiframe c s x c' s' x' (one.taken e) (other.taken f) in
        (e ∙ sym f, w.0, w.1, w.2)
    go false e f =
        let k = one.kept e in
        let l = other.kept f in
        (e ∙ sym f, k.0 ∙ sym l.0, k.1 ∙ sym l.1, k.2 ∙ sym l.2)

-- ---- what the calls ensure is their statements

pub build-met : (κs : Lfts 4) (a : ArgsD build.signature κs) (r : ResD build.signature κs) (e : AtExit build.ended κs) → build-reads.Learnt κs a r e
    → BuildMet a.0.now a.1.0.now a.1.1.0.now a.1.1.1.0.now (numbers_of r) e.0.now
build-met κs a r e met = met

pub apart-met : (κs : Lfts 4) (a : ArgsD apart.signature κs) (r : ResD apart.signature κs) (e : AtExit apart.ended κs) → apart-reads.Learnt κs a r e
    → ApartMet a.0.now a.1.0.now a.1.1.0.now a.1.1.1.0.now (refusal_in r) e.1.0.now e.1.1.0.now e.1.1.1.0.now
apart-met κs a r e met = met

-- ---- and they ask nothing of their callers

pub build-asks-nothing : (κs : Lfts 4) (a : ArgsD build.signature κs) → build-reads.Asked κs a
build-asks-nothing κs a = tt

pub apart-asks-nothing : (κs : Lfts 4) (a : ArgsD apart.signature κs) → apart-reads.Asked κs a
apart-asks-nothing κs a = tt
