-- The alarm at the end of a stretch, a second time: document 02, request 4, sentence by sentence, where specs/Alarm.antt has one table of cases.
-- proofs/Turns.antt shows that the two are one.
use Rattle.std.specs.Prelude.{◌≡◌, true, false, List, [], ◌∷◌, ℕ, ◌+◌, ◌≤◌, ◌<◌}
use Rattle.table.specs.declared.Row.{Row}
use Rattle.table.specs.Table.{level_of}
use Rattle.levels.specs.Sizes.{on_level}
use Rattle.pieces.specs.declared.alarm.Stretch.{Stretch}
use Rattle.pieces.specs.Alarm.{added}

-- a stretch ends with so many zeros: what is known before it, and after
pub record Turns (row : Row) (before : Stretch) (zeros : ℕ) (after : Stretch) : Type 0 where
  -- "Alarm indication begins when two stretches in a row have each at most four zeros (five at level 4)": then, and at no other stretch
  pub begins : before.alarm ≡ false → before.few ≡ true → zeros ≤ row.limit → after.alarm ≡ true
  pub begins_only : before.alarm ≡ false → after.alarm ≡ true → (before.few ≡ true) × (zeros ≤ row.limit)
  -- "and ends when two in a row have each more": then, and at no other
  pub ends : before.alarm ≡ true → before.few ≡ false → row.limit < zeros → after.alarm ≡ false
  pub ends_only : before.alarm ≡ true → after.alarm ≡ false → (before.few ≡ false) × (row.limit < zeros)
  -- "whether the stretch before had few": of the next stretch it is this one
  pub few : zeros ≤ row.limit → after.few ≡ true
  pub more : row.limit < zeros → after.few ≡ false
  -- the next stretch has no digit yet
  pub anew : (after.digits ≡ 0) × (after.zeros ≡ 0)

-- A worked stretch at each level's border: after one with few, where no alarm stands, a stretch of N digits with so many zeros begins it, and with one zero
-- more it does not.
pub record Border : Type 0 where
  pub level : ℕ
  pub digits : ℕ
  pub zeros : ℕ

abbrev pub after_few : Stretch
after_few = record { digits = 0; zeros = 0; few = true; alarm = false }

abbrev pub Held : Border → Type 0
Held b =
    on_level (level_of b.level)
    (λ (row : Row).
    ((added row after_few b.digits b.zeros).alarm ≡ true) × ((added row after_few b.digits (b.zeros + 1)).alarm ≡ false))
    ⊥

abbrev pub EveryBorder : List Border → Type 0
EveryBorder [] = Unit {0}
EveryBorder (b ∷ bs) = Held b × EveryBorder bs

-- "at most four zeros (five at level 4)", "two zeros at 12, four at 14"
abbrev pub borders : List Border
borders =
    record { level = 2; digits = 848; zeros = 4 }
    ∷ record { level = 3; digits = 1536; zeros = 4 }
    ∷ record { level = 4; digits = 2928; zeros = 5 }
    ∷ record { level = 12; digits = 1056; zeros = 2 }
    ∷ record { level = 14; digits = 2176; zeros = 4 }
    ∷ []
