-- A piece that is not refused is valid, small and within its slice.
use mathlib.Core.Path.{sym, ◌∙◌}
use Rattle.finder_2048.proofs.Validity.{accepted-if}
use Rattle.finder_2048.proofs.feed.Goals as goal

pub take_piece-requires : goal.take_piece-requires
take_piece-requires c = let a = accepted-if _ _ _ _ (sym c.refusal_of-refusal.ensures ∙ c.if-refusal-ne0.false) in (a.valid, a.small, a.within)
