-- `take_piece` is `run_of` over the piece's digits: what is left to do is what was to do (proofs/Runs.antt, `Going`).
use mathlib.Core.Path.{sym, ◌∙◌}
use native.Mathlib.Omega.{arith}
use Rattle.receiver.proofs.Validity.{step-valid}
use Rattle.receiver.proofs.Runs.{going, going_on, going-carried, run_end, run_on, run-ready}
use Rattle.receiver.proofs.take_piece.Goals as goal

pub loop-p-init : goal.loop-p-init
loop-p-init c =
    rw c.core_of-c.ensures (going _ _ _ _ _ _ _ _ c.requires.1 c.requires.2 c.requires.3 c.requires.4)

pub keep-requires : goal.keep-requires
keep-requires c =
    let d = c.digit_at-d in
    let valid = step-valid c.args.row c.requires.0 _ c.carry_on-on.ensures.valid d.result in
    (c.requires.0, omega (arith, c.requires.0.word_short), rw c.step-next.ensures.0 valid, d.ensures.1)

pub returns-then-is_ready : goal.returns-then-is_ready
returns-then-is_ready c =
    let on = c.carry_on-on.ensures in
    let hunted = going_on _ _ _ _ _ _ _ _ _ _ _ _ _ _ _ _ c.loop-p.invariant c.hunt_on-h.ensures in
    let g = going-carried _ _ _ _ _ _ _ _ _ _ _ _ _ _ _ _ hunted on in
    let ready = sym c.is_ready.ensures ∙ c.if-is_ready.true in
    let s = c.step-next.ensures in
    let whole = run-ready _ _ _ _ _ _ _ _ _ _ _ _ _ g on.before _ _ _ _ c.digit_at-d.ensures.0 s.0 s.1 c.keep.ensures _ c.count-counted.ensures ready in
    c.accept.ensures ∙ (rw c.core_of-c.ensures at whole)

pub loop-p-preserved : goal.loop-p-preserved
loop-p-preserved c =
    let d = c.digit_at-d in
    let s = c.step-next.ensures in
    let on = c.carry_on-on.ensures in
    let hunted = going_on _ _ _ _ _ _ _ _ _ _ _ _ _ _ _ _ c.loop-p.invariant c.hunt_on-h.ensures in
    let g = going-carried _ _ _ _ _ _ _ _ _ _ _ _ _ _ _ _ hunted on in
    let unready = sym c.is_ready.ensures ∙ c.if-is_ready.false in
    record {
      valid = rw s.0 (step-valid c.args.row c.requires.0 _ g.valid d.result);
      counting = g.counting;
      from = omega (arith, g.from);
      upto = omega (arith, on.before);
      ends = g.ends;
      within = g.within;
      small = g.small;
      most = omega (arith, g.most, g.from, s.2);
      same = run_on _ _ _ _ _ _ _ _ _ _ _ _ _ g on.before _ _ _ _ d.ensures.0 s.0 s.1 c.keep.ensures unready;
    }

pub returns : goal.returns
returns c =
    let whole = run_end _ _ _ _ _ _ _ _ _ _ _ _ _ c.loop-p.invariant _ c.count-counted-2.ensures c.loop-p-test.false in
    c.accept-2.ensures ∙ (rw c.core_of-c.ensures at whole)
