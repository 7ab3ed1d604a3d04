-- `said_by`: what the frame's votes and service digits say.
use mathlib.Core.Path.{◌∙◌}
use Rattle.plain.proofs.Votes.{voted-start, note-by, minorities-by}
use Rattle.plain.proofs.reading.said_by.Goals as goal

pub hear_frame-wrong-requires : goal.hear_frame-wrong-requires
hear_frame-wrong-requires c = (c.requires.0, c.requires.1, voted-start _ _ _)

pub returns : goal.returns
returns c =
    let h = c.hear_frame-wrong.ensures in (
      rw (c.decisions-decided.ensures.0, c.services.ensures.0) (note-by _ _ _ _ h.2),
      h.0,
      h.1,
      c.minorities-dissent.ensures ∙ minorities-by _ _ _ _ h.2,
    )
