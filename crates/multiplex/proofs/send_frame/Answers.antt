-- `send_frame`: the sets so far.
use mathlib.Core.Path.{◌≡◌, ◌∙◌}
use native.Mathlib.Omega.{arith}
use Rattle.multiplex.proofs.Running.{frame-last}
use Rattle.multiplex.proofs.send_frame.Goals as goal

pub send_set-w-requires : goal.send_set-w-requires
send_set-w-requires c =
    let pre = c.requires in
    let if1 = c.loop-set-test in
    let l = c.loop-set in
    (pre.0, pre.1, if1.true, pre.2, l.invariant.1)

pub loop-set-preserved : goal.loop-set-preserved
loop-set-preserved c =
    let send-set = c.send_set-w in
    let l = c.loop-set in
    (send-set.auto.line ∙ l.invariant.0, send-set.ensures)

pub returns : goal.returns
returns c =
    let l = c.loop-set in
    let end : l.set ≡ c.args.row.sets = omega arith in
    frame-last _ _ _ _ _ _ _ _ (rw end at l.invariant.1)
