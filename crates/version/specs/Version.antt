-- The version of the library: the whole statement of the call that answers it.
use Rattle.std.specs.Prelude.{◌≡◌, ℕ, ◌+◌, ◌*◌}

abbrev pub major : ℕ
major = 0

abbrev pub minor : ℕ
minor = 2

abbrev pub patch : ℕ
patch = 0

abbrev pub VersionMet : ℕ → Type 0
VersionMet returned = returned ≡ major * 1000000 + minor * 1000 + patch
