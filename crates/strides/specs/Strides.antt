-- Many digits at a time: the window that they leave, and where a word ends among them. A word is its number of digits and its number, the last
-- digit worth 1.
use Rattle.std.specs.Prelude.{◌≡◌, cond, false, List, ℕ, zero, suc, ◌+◌, ◌*◌, ◌-◌, ◌/◌, ◌%◌, ◌^◌, ◌≤◌, ◌<◌, eqb, get_or}
use Rattle.digits.specs.Digits.{window_at}

-- the last len digits, one more: the newest is worth 1
unfoldable pub window_on : ℕ → ℕ → ℕ → ℕ
window_on len w d = (w * 2 + d) % 2 ^ len

-- the window after k digits from place p on
unfoldable pub window_from : ℕ → List ℕ → ℕ → ℕ → ℕ → ℕ
window_from len ds p w zero = w
window_from len ds p w (suc k) = window_on len (window_from len ds p w k) (get_or ds (p + k) 0)

-- what is asked of a word: 7 to 12 digits, the mask that keeps as many, and a number that they can be
pub record Word (len mask word : ℕ) : Type 0 where
  pub least : 7 ≤ len
  pub most : len ≤ 12
  pub masked : mask ≡ 2 ^ len - 1
  pub fits : word < 2 ^ len

-- 0 exactly if the l digits of v that end i digits before its last one are the last l digits of the word
unfoldable pub miss_at : ℕ → ℕ → ℕ → ℕ → ℕ
miss_at l word v i = cond (eqb (v / 2 ^ i % 2 ^ l) (word % 2 ^ l)) 0 1

-- the digits of r tell where in the 64 digits of v the last l digits of the word do not end
pub record Misses (l word v r : ℕ) : Type 0 where
  pub tells : (i : ℕ) → i + l ≤ 64 → r / 2 ^ i % 2 ≡ miss_at l word v i

-- none of so many windows that end in the last digits of v is the word
abbrev pub Clear : ℕ → ℕ → ℕ → ℕ → Type 0
Clear places len word v = (i : ℕ) → i < places → eqb (v / 2 ^ i % 2 ^ len) word ≡ false

-- what is asked of a turn: whole bytes, at most 56 digits, before which there is room for a word's beginning among 64
pub record Turn (len word places ones : ℕ) : Type 0 where
  pub least : 7 ≤ len
  pub most : len ≤ 12
  pub fits : word < 2 ^ len
  pub bytes : places % 8 ≡ 0
  pub some : 48 ≤ places
  pub room : places + len ≤ 64
  pub masked : ones ≡ 2 ^ places - 1

-- the word ends at none of the digits from one place to another
abbrev pub Unmet : ℕ → ℕ → List ℕ → ℕ → ℕ → Type 0
Unmet len word ds from at = (e : ℕ) → from ≤ e → e < at → eqb (window_at ds (e + 1 - len) len) word ≡ false

-- from place p with window w, of the digits before end, it went to place at with window w', and no window on the way was the word
pub record Passed (len word : ℕ) (ds : List ℕ) (end p w at w' : ℕ) : Type 0 where
  pub from : p ≤ at
  pub before : at < end
  pub window : w' ≡ window_from len ds p w (at - p)
  pub missed : (k : ℕ) → k < at - p → eqb (window_from len ds p w (suc k)) word ≡ false
