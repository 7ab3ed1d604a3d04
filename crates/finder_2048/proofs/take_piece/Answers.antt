-- `take_piece` is `run_from` over the piece's digits: what is left to do is what was to do (proofs/Runs.antt, `Going`).
use mathlib.Core.Path.{sym, ap, ◌∙◌}
use native.Mathlib.Omega.{arith}
use Rattle.finder_2048.specs.Feed.{fed_by}
use Rattle.finder_2048.proofs.Validity.{step-valid}
use Rattle.finder_2048.proofs.Runs.{going, going_on, run_end, run_on, run-stop}
use Rattle.finder_2048.proofs.take_piece.Goals as goal

pub overflow_add-end : goal.overflow_add-end
overflow_add-end c = omega arith

pub loop-p-init : goal.loop-p-init
loop-p-init c = going _ _ _ _ c.requires.0 c.requires.1 c.requires.2

pub hurry_on-h-requires : goal.hurry_on-h-requires
hurry_on-h-requires c = let l = c.loop-p in (l.invariant.valid, l.invariant.small, c.loop-p-test.true, l.invariant.within)

pub digit_at-d-requires : goal.digit_at-d-requires
digit_at-d-requires c = omega (arith, c.hurry_on-h.ensures.before, c.loop-p.invariant.within)

pub step-c-requires : goal.step-c-requires
step-c-requires c = (c.hurry_on-h.ensures.valid, c.digit_at-d.ensures.1)

pub overflow_add-p : goal.overflow_add-p
overflow_add-p c = omega (arith, c.hurry_on-h.ensures.before, c.loop-p.invariant.within, c.loop-p.invariant.small)

pub overflow_sub-p : goal.overflow_sub-p
overflow_sub-p c = omega (arith, c.loop-p.invariant.from, c.hurry_on-h.ensures.from)

pub returns-then-is_turned : goal.returns-then-is_turned
returns-then-is_turned c =
    let g = going_on _ _ _ _ _ _ _ _ _ c.loop-p.invariant c.hurry_on-h.ensures in
    let stops = sym c.is_turned.ensures ∙ c.if-is_turned.true in
    c.accept.ensures ∙ ap fed_by (run-stop _ _ _ _ _ _ _ g c.hurry_on-h.ensures.before _ _ c.digit_at-d.ensures.0 c.step-c.ensures stops)

pub loop-p-smaller : goal.loop-p-smaller
loop-p-smaller c = omega (arith, c.hurry_on-h.ensures.from, c.hurry_on-h.ensures.before)

pub loop-p-preserved : goal.loop-p-preserved
loop-p-preserved c =
    let h = c.hurry_on-h in
    let g = going_on _ _ _ _ _ _ _ _ _ c.loop-p.invariant h.ensures in
    let on = sym c.is_turned.ensures ∙ c.if-is_turned.false in
    record {
      valid = rw c.step-c.ensures (step-valid _ g.valid c.digit_at-d.result);
      from = omega (arith, g.from);
      upto = omega (arith, h.ensures.before);
      ends = g.ends;
      within = g.within;
      small = g.small;
      same = run_on _ _ _ _ _ _ _ g h.ensures.before _ _ c.digit_at-d.ensures.0 c.step-c.ensures on;
    }

pub overflow_sub-p-2 : goal.overflow_sub-p-2
overflow_sub-p-2 c = omega (arith, c.loop-p.invariant.from)

pub returns : goal.returns
returns c = c.accept-2.ensures ∙ ap fed_by (run_end _ _ _ _ _ _ _ c.loop-p.invariant c.loop-p-test.false)
