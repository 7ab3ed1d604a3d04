-- Packed digits: what a slice of bytes means as a list of digits, and which bytes a list of digits makes.
-- Document 01, "Digits and bytes": eight to a byte, first digit in the most significant bit.
-- Statements on a line, a quarter or a frame go through `digits_of`; only the plain engine, which shares nothing but the level table, has a notion of its own.
use Rattle.std.specs.Prelude.{ℕ, zero, suc, ◌+◌, ◌-◌, ◌*◌, ◌/◌, ◌%◌, ◌^◌, ◌<◌, Bool, cond, not, List, [], ◌∷◌, ◌++◌, eqb, get_or, take, drop}

-- the eight digits of a byte, first digit in the most significant bit
abbrev pub eight : ℕ → List ℕ
eight b = b / 128 % 2 ∷ b / 64 % 2 ∷ b / 32 % 2 ∷ b / 16 % 2 ∷ b / 8 % 2 ∷ b / 4 % 2 ∷ b / 2 % 2 ∷ b % 2 ∷ []

-- the digits of these bytes
unfoldable pub digits_of : List ℕ → List ℕ
digits_of [] = []
digits_of (b ∷ bs) = eight b ++ digits_of bs

-- the byte whose eight digits are the first eight of the list
abbrev pub byte_of : List ℕ → ℕ
byte_of ds =
    128 * get_or ds 0 0
    + 64 * get_or ds 1 0
    + 32 * get_or ds 2 0
    + 16 * get_or ds 3 0
    + 8 * get_or ds 4 0
    + 4 * get_or ds 5 0
    + 2 * get_or ds 6 0
    + get_or ds 7 0

-- the first n bytes that these digits make
unfoldable pub bytes_of : ℕ → List ℕ → List ℕ
bytes_of zero ds = []
bytes_of (suc n) ds = byte_of ds ∷ bytes_of n (drop 8 ds)

-- the list of n digits whose first is f p, whose second is f (p + 1), and so on
unfoldable pub tab : ℕ → ℕ → (ℕ → ℕ) → List ℕ
tab zero p f = []
tab (suc n) p f = f p ∷ tab n (suc p) f

-- every element is a byte; every element is a digit
abbrev pub Bytes : List ℕ → Type 0
Bytes bs = (i : ℕ) → get_or bs i 0 < 256

abbrev pub Binary : List ℕ → Type 0
Binary ds = (i : ℕ) → get_or ds i 0 < 2

-- the byte b with d as the digit that is worth 2 to the k: the digits above it, d, the digits below it
unfoldable pub with_digit : ℕ → ℕ → ℕ → ℕ
with_digit b k d = (b / 2 ^ k / 2 * 2 + d) * 2 ^ k + b % 2 ^ k

-- the number w written with k digits, first digit first
unfoldable pub written : ℕ → ℕ → List ℕ
written zero w = []
written (suc k) w = w / 2 ^ k % 2 ∷ written k w

-- in how many places two lists differ
unfoldable pub differing : List ℕ → List ℕ → ℕ
differing [] es = 0
differing (d ∷ ds) [] = 0
differing (d ∷ ds) (e ∷ es) = cond (eqb d e) 0 1 + differing ds es

-- the digits of these bytes from a first one on and before an end
abbrev pub between : List ℕ → ℕ → ℕ → List ℕ
between bs first end = take (end - first) (drop first (digits_of bs))

-- how many of these digits are 0
unfoldable pub zeros_in : List ℕ → ℕ
zeros_in [] = 0
zeros_in (d ∷ ds) = 1 - d + zeros_in ds

-- the k digits from place p on as a number, the newest digit worth 1
unfoldable pub window_at : List ℕ → ℕ → ℕ → ℕ
window_at ds p zero = 0
window_at ds p (suc k) = window_at ds p k * 2 + get_or ds (p + k) 0

-- a number that stands for yes or no: 0 is no
abbrev pub is_yes : ℕ → Bool
is_yes n = not (eqb n 0)
