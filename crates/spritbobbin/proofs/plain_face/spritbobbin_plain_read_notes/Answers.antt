-- The C call is the call behind it.
use mathlib.Core.Path.{◌∙◌, ap}
use Rattle.engine.specs.Engine.{NotesRead}
use Rattle.spritbobbin.specs.PlainFace.{notes_read_answer}
use Rattle.spritbobbin.proofs.plain_face.spritbobbin_plain_read_notes.Goals as goal

pub returns : goal.returns
returns c =
    let e = c.read_notes-read.ensures in
    (c.errors_numbers-refusal.ensures.0 ∙ ap (λ (a : NotesRead). a.refusal) e.answered, e.written, c.errors_numbers-refusal.ensures.1 ∙ ap notes_read_answer e.answered)
