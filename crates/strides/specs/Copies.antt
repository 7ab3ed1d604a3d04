-- Digits put among those of a slice.
use Rattle.std.specs.Prelude.{List, [], ◌∷◌, ℕ, suc, length, set}
use Rattle.digits.specs.Digits.{digits_of, bytes_of}

-- digit d put at place p
unfoldable pub put : List ℕ → ℕ → ℕ → List ℕ
put f p d = bytes_of (length f) (set (digits_of f) p d)

-- digits put one after another, from place p on
unfoldable pub puts : List ℕ → ℕ → List ℕ → List ℕ
puts f p [] = f
puts f p (d ∷ ds) = puts (put f p d) (suc p) ds
