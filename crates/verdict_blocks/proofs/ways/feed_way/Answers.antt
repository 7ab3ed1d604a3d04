-- `feed_way`: the extraction's quarters are the tributaries' readings.
use mathlib.Core.Path.{◌≡◌, ◌∙◌, ap}
use Prim.Native.Nat.{ℕ, ◌+◌, ◌*◌, ◌/◌, ◌≤◌, ◌<◌}
use lib.ListN.{length, get_or}
use native.Mathlib.Omega.{arith}
use Rattle.digits.specs.Digits.{digits_of}
use Rattle.levels.specs.Sizes.{quarter_of}
use Rattle.levels.specs.Order.{actions}
use Rattle.slips.specs.Slips.{lent_from}
use Rattle.extraction.specs.Quarters.{taken_to}
use Rattle.extraction.proofs.Handed.{quarters-length}
use Rattle.verdict_blocks.specs.Blocks.{Block, frames_to}
use Rattle.verdict_blocks.specs.Readings.{carried_in, ran_on}
use Rattle.verdict_blocks.specs.Keeping.{block_at}
use Rattle.verdict_blocks.proofs.Waying.{quarter-reads, frames-same}
use Rattle.verdict_blocks.proofs.Several.{several-same}
use Rattle.verdict_blocks.proofs.ways.feed_way.Goals as goal

pub extract_all-counts-requires : goal.extract_all-counts-requires
extract_all-counts-requires c = (c.requires.2.shared, c.requires.2.accepted)

pub feed_four-requires : goal.feed_four-requires
feed_four-requires c =
    let a = c.args in
    let p = c.requires in
    let q = length a.room.now / 4 in
    let long : length c.extract_all-counts.new.buffer ≡ 4 * q =
    ap length c.extract_all-counts.ensures.1 ∙ quarters-length a.row a.earlier a.notes.now a.line.now q in
    let whole : length a.notes.now * a.row.room ≤ 8 * q = rw p.2.accepted.framed.noted p.2.accepted.room in
    let enough : length a.notes.now * a.row.room ≤ 8 * (length c.extract_all-counts.new.buffer / 4) = omega (arith, long, whole) in
    (p.0, p.1, p.2.shared, omega (arith, p.2.accepted.framed.few, p.2.accepted.framed.noted), enough, p.2.known, p.3, p.2.small, p.2.pattern_room, c.extract_all-counts.ensures.0)

pub shape_of-state : goal.shape_of-state
shape_of-state c = c.feed_four.auto.state

pub shape_of-room : goal.shape_of-room
shape_of-room c = c.extract_all-counts.auto.buffer

pub shape_of-scratch : goal.shape_of-scratch
shape_of-scratch c = c.feed_four.auto.scratch

pub returns : goal.returns
unfolding ran_on
returns c =
    let a = c.args in
    let p = c.requires in
    let ok = p.2.accepted in
    let F = length a.notes.now in
    let q = length a.room.now / 4 in
    let whole : length a.line.now ≡ F * a.row.bytes = rw ok.framed.noted ok.framed.frames in
    let enough : F * a.row.room ≤ 8 * q = rw ok.framed.noted ok.room in
    let lent : ℕ → ℕ → ℕ = λ (j : ℕ). lent_from a.base (digits_of (quarter_of a.sent.now j)) in
    let counts : ℕ → ℕ → ℕ = λ (j f : ℕ). carried_in a.row (actions a.row a.earlier a.notes.now j f) in
    let b : ℕ → Block = λ (j : ℕ). block_at a.state.now (4 * a.w + j) in
    let new = c.extract_all-counts.new.buffer in
    let read : (j : ℕ) → j < 4 → (i : ℕ) → get_or (digits_of (quarter_of new j)) i 0 ≡ get_or (taken_to a.row a.earlier a.notes.now (digits_of a.line.now) j (2 * length a.line.now)) i 0 =
    λ j hj i. rw c.extract_all-counts.ensures.1 (quarter-reads a.row p.2.shared a.earlier a.notes.now a.line.now F q j hj whole enough i) in
    c.feed_four.ensures
    ∙ several-same a.state.now (4 * a.w) (λ (j : ℕ). frames_to a.pattern (lent j) (digits_of (quarter_of new j)) (counts j) (b j) F)
    (λ (j : ℕ). ran_on a.row a.pattern (lent j) a.line.now a.earlier a.notes.now j (b j)) 4
    (λ j hj.
    frames-same a.pattern (lent j) (digits_of (quarter_of new j)) (taken_to a.row a.earlier a.notes.now (digits_of a.line.now) j (2 * length a.line.now)) (read j hj)
    (counts j) (b j) F)
