-- `number_of` is `number_of`: each return rewrites with the tests that lead to it. What a test that is passed says is said once, for the returns behind it.
use mathlib.Core.Path.{◌≡◌, refl, sym, ◌∙◌}
use mathlib.Core.Bool.{false}
use borrow.Author.Tests.{ne_eqb}
use Rattle.std.proofs.lemmas.Result.{err_from_is_err_and}
use Rattle.refusal.proofs.Numbers.{number-some}
use Rattle.levels.specs.Sizes.{frames_refusal}
use Rattle.levels.proofs.Judged.{framed}
use Rattle.swap.specs.Swap.{bad_tributary, bad_room, number_of}
use Rattle.swap.proofs.number_of.Goals as goal

pub returns-then-bad_tributary : goal.returns-then-bad_tributary
unfolding number_of
returns-then-bad_tributary c = rw (sym c.bad_tributary.ensures ∙ c.if-bad_tributary.true)

pub returns-in_err-frames_refusal : goal.returns-in_err-frames_refusal
unfolding number_of
returns-in_err-frames_refusal c =
    let p = err_from_is_err_and c.from_residual.result c.from_residual.ensures.1 in
    let tributary-passed : bad_tributary c.args.tributary ≡ false = sym c.bad_tributary.ensures ∙ c.if-bad_tributary.false in
    let no = c.in_err-frames_refusal in
    rw (p.1, p.2, tributary-passed, sym no.ensures, ne_eqb _ 0 (number-some no.field-0.0)) refl

pub bad_room-requires : goal.bad_room-requires
bad_room-requires c =
    let frames-passed : let a = c.args in frames_refusal a.row a.line a.notes ≡ 0 = sym c.in_ok-frames_refusal.ensures in
    (c.requires, (framed _ _ _ (frames-passed)).few)

pub returns-then-bad_room : goal.returns-then-bad_room
unfolding number_of
returns-then-bad_room c =
    let tributary-passed : bad_tributary c.args.tributary ≡ false = sym c.bad_tributary.ensures ∙ c.if-bad_tributary.false in
    let frames-passed : let a = c.args in frames_refusal a.row a.line a.notes ≡ 0 = sym c.in_ok-frames_refusal.ensures in
    rw (tributary-passed, frames-passed, sym c.bad_room.ensures ∙ c.if-bad_room.true)

pub returns-then-bad_earlier : goal.returns-then-bad_earlier
unfolding number_of
returns-then-bad_earlier c =
    let tributary-passed : bad_tributary c.args.tributary ≡ false = sym c.bad_tributary.ensures ∙ c.if-bad_tributary.false in
    let frames-passed : let a = c.args in frames_refusal a.row a.line a.notes ≡ 0 = sym c.in_ok-frames_refusal.ensures in
    let room-passed : let a = c.args in bad_room a.row a.line a.buffer ≡ false = sym c.bad_room.ensures ∙ c.if-bad_room.false in
    rw (tributary-passed, frames-passed, room-passed, sym c.bad_earlier.ensures ∙ c.if-bad_earlier.true)

pub returns : goal.returns
unfolding number_of
returns c =
    let tributary-passed : bad_tributary c.args.tributary ≡ false = sym c.bad_tributary.ensures ∙ c.if-bad_tributary.false in
    let frames-passed : let a = c.args in frames_refusal a.row a.line a.notes ≡ 0 = sym c.in_ok-frames_refusal.ensures in
    let room-passed : let a = c.args in bad_room a.row a.line a.buffer ≡ false = sym c.bad_room.ensures ∙ c.if-bad_room.false in
    rw (tributary-passed, frames-passed, room-passed, sym c.bad_earlier.ensures ∙ c.if-bad_earlier.false)
