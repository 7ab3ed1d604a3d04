-- Where no more digits differ than are listed, each of them is listed: what `complete` of specs/Promises.antt says of the last one too.
use Rattle.std.specs.Prelude.{◌≡◌, Bool, true, List, ℕ, ◌<◌}
use Rattle.table.specs.declared.Row.{Row}
use Rattle.differing.specs.Promises.{entry_of}

-- every place before n at which the test is true is an entry of the list
abbrev pub EachListed : Row → (ℕ → Bool) → ℕ → ℕ → List ℕ → Type 0
EachListed row test n listed places = (p : ℕ) → p < n → test p ≡ true → (i : ℕ) × ((i < listed) × (entry_of row places i ≡ p))
