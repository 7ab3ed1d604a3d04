-- `feed_both`: fed one way, a copy the other way, and the better blocks kept.
use mathlib.Core.Path.{◌≡◌, ◌∙◌, ap}
use mathlib.Core.List.{List}
use Prim.Native.Nat.{ℕ, ◌+◌, ◌/◌, ◌<◌}
use lib.ListN.{length, take, drop}
use native.Mathlib.Omega.{arith}
use borrow.Rule.Slice.PartMut.{put_mid}
use Rattle.digits.specs.Digits.{digits_of}
use Rattle.levels.specs.Sizes.{quarter_of}
use Rattle.slips.specs.Slips.{lent_from}
use Rattle.verdict_blocks.specs.Blocks.{Block}
use Rattle.verdict_blocks.specs.Readings.{majorities, after_votes, ran_by}
use Rattle.verdict_blocks.specs.Keeping.{block_at, with_blocks}
use Rattle.verdict_blocks.specs.Going.{Sound}
use Rattle.verdict.proofs.Betters.{by-sound, both-kept, ready_at, lent-whole, put_whole}
use Rattle.verdict.proofs.behind.feed_both.Goals as goal

pub copy_of-other-requires : goal.copy_of-other-requires
copy_of-other-requires c = c.requires.0

pub feed_after-requires : goal.feed_after-requires
feed_after-requires c = (c.requires.0, c.requires.1, c.requires.2, c.requires.3, omega arith)

pub slice_bounds-other-end : goal.slice_bounds-other-end
slice_bounds-other-end c =
    let long : length c.copy_of-other.result ≡ 683 = ap length c.copy_of-other.ensures ∙ c.requires.0 in
    omega (arith, long)

pub feed_after-requires-2 : goal.feed_after-requires-2
feed_after-requires-2 c =
    let p = c.requires in
    let a = c.args in
    let copy = c.copy_of-other.result in
    let long : length c.copy_of-other.result ≡ 683 = ap length c.copy_of-other.ensures ∙ p.0 in
    let e = lent-whole copy long ∙ c.copy_of-other.ensures in (
      ap length e ∙ p.0,
      rw (c.feed_after.auto.room, c.feed_after.auto.scratch) p.1,
      p.2,
      λ j hj. ready_at a.pattern (length a.line.now / a.row.bytes) _ a.state.now (12 + j) e (p.3 j hj),
      omega arith,
    )

pub slice_bounds-keep_last-end : goal.slice_bounds-keep_last-end
slice_bounds-keep_last-end c =
    let p = c.requires in
    let a = c.args in
    let copy = c.copy_of-other.result in
    let B = c.feed_after-2.new.state in
    let long : length c.copy_of-other.result ≡ 683 = ap length c.copy_of-other.ensures ∙ p.0 in
    let e = lent-whole copy long ∙ c.copy_of-other.ensures in
    let h_b : length c.feed_after-2.new.state ≡ 683 = c.feed_after-2.auto.state ∙ ap length e ∙ p.0 in
    let whole = put_whole copy B long h_b in
    let len : length (put_mid 0 683 copy B) ≡ 683 = ap length whole ∙ h_b in
    omega (arith, len)

pub keep_last-requires : goal.keep_last-requires
keep_last-requires c =
    let p = c.requires in
    let a = c.args in
    let copy = c.copy_of-other.result in
    let B = c.feed_after-2.new.state in
    let long : length c.copy_of-other.result ≡ 683 = ap length c.copy_of-other.ensures ∙ p.0 in
    let e = lent-whole copy long ∙ c.copy_of-other.ensures in
    let h_b : length c.feed_after-2.new.state ≡ 683 = c.feed_after-2.auto.state ∙ ap length e ∙ p.0 in
    let whole = put_whole copy B long h_b in
    let len : length (put_mid 0 683 copy B) ≡ 683 = ap length whole ∙ h_b in
    (c.feed_after.auto.state ∙ p.0, ap length (lent-whole (put_mid 0 683 copy B) len) ∙ len)

pub shape_of-state : goal.shape_of-state
shape_of-state c = c.keep_last.auto.state ∙ c.feed_after.auto.state

pub shape_of-room : goal.shape_of-room
shape_of-room c = c.feed_after-2.auto.room ∙ c.feed_after.auto.room

pub shape_of-scratch : goal.shape_of-scratch
shape_of-scratch c = c.feed_after-2.auto.scratch ∙ c.feed_after.auto.scratch

pub returns : goal.returns
returns c =
    let p = c.requires in
    let a = c.args in
    let copy = c.copy_of-other.result in
    let B = c.feed_after-2.new.state in
    let long : length c.copy_of-other.result ≡ 683 = ap length c.copy_of-other.ensures ∙ p.0 in
    let e = lent-whole copy long ∙ c.copy_of-other.ensures in
    let h_b : length c.feed_after-2.new.state ≡ 683 = c.feed_after-2.auto.state ∙ ap length e ∙ p.0 in
    let whole = put_whole copy B long h_b in
    let len : length (put_mid 0 683 copy B) ≡ 683 = ap length whole ∙ h_b in
    let st = a.state.now in
    let few = p.1.accepted.framed.few in
    let lent : ℕ → ℕ → ℕ = λ (j : ℕ). lent_from a.base (digits_of (quarter_of a.sent.now j)) in
    let by : ℕ → List ℕ → ℕ → Block = λ (u : ℕ) (l : List ℕ) (j : ℕ).
    ran_by a.row a.pattern (lent j) a.line.now (after_votes (majorities a.row a.line.now) u) j (block_at l (12 + j)) in
    let sound : (u j : ℕ) → j < 4 → Sound a.pattern 0 (by u st j) =
    λ u j hj.
    by-sound a.row p.1.shared a.pattern (lent j) a.line.now (after_votes (majorities a.row a.line.now) u) j (block_at st (12 + j)) few (p.3 j hj) in
    let two : take 683 (drop 0 (put_mid 0 683 copy B)) ≡ with_blocks st 12 (by 15 st) 4 =
    lent-whole (put_mid 0 683 copy B) len ∙ whole ∙ c.feed_after-2.ensures ∙ ap (λ (l : List ℕ). with_blocks l 12 (by 15 l) 4) e in
    both-kept a.pattern st c.feed_after.new.state (take 683 (drop 0 (put_mid 0 683 copy B))) c.keep_last.new.state (by 0 st) (by 15 st) p.0 (sound 0) (sound 15)
    c.feed_after.ensures two c.keep_last.ensures
