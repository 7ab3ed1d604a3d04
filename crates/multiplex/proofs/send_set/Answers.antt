-- `send_set`: the head, then the run (Running).
use mathlib.Core.Path.{ap, ◌∙◌}
use Prim.Native.Nat.{ℕ, ◌-◌, ◌/◌}
use native.Mathlib.Omega.{arith}
use Rattle.levels.proofs.Runs.{head-end-in}
use Rattle.multiplex.proofs.Running.{run-in-line, run-has, run-sent}
use Rattle.multiplex.proofs.send_set.Goals as goal

pub send_head-headed-requires : goal.send_head-headed-requires
send_head-headed-requires c =
    let pre = c.requires in
    (pre.1, pre.2, pre.3, pre.4)

pub head_end-requires : goal.head_end-requires
head_end-requires c = c.requires.4.fits.shared

pub overflow_sub-columns : goal.overflow_sub-columns
overflow_sub-columns c =
    let pre = c.requires in
    let b = c.args in
    omega (arith, c.head_end.ensures, head-end-in _ pre.4.fits.shared b.set)

pub send_run-requires : goal.send_run-requires
send_run-requires c =
    let pre = c.requires in
    let send-head = c.send_head-headed in
    let head-end = c.head_end in
    let b = c.args in
    let room = run-in-line b.row b.earlier b.notes.now b.buffer.now b.f b.set pre.1 pre.2 _ _ _ send-head.ensures _
    (ap (λ (h : ℕ). (b.row.set - h) / 4) head-end.ensures) in
    let has = run-has b.row b.earlier b.notes.now b.buffer.now b.f b.set pre.1 pre.2 _ _ _ send-head.ensures _
    (ap (λ (h : ℕ). (b.row.set - h) / 4) head-end.ensures) in
    (pre.0, send-head.ensures.ready, room, pre.3, has)

pub shape_of-line : goal.shape_of-line
shape_of-line c = c.send_run.auto.line ∙ c.send_head-headed.auto.line

pub returns : goal.returns
returns c =
    let pre = c.requires in
    let send-head = c.send_head-headed in
    let head-end = c.head_end in
    let send-run = c.send_run in
    let b = c.args in
    run-sent b.row b.earlier b.notes.now b.buffer.now b.f b.set pre.1 pre.2 _ _ _ send-head.ensures _
    (ap (λ (h : ℕ). (b.row.set - h) / 4) head-end.ensures) _ _ _ send-run.ensures send-run.auto.line
