-- `send_many` puts out four times eight columns; the line keeps its length from one to the next.
use mathlib.Core.Path.{◌≡◌, ◌∙◌}
use native.Mathlib.Omega.{arith}
use lib.ListN.{length}
use Rattle.digits.specs.Digits.{digits_of}
use Rattle.digits.proofs.Laws.{digits-binary}
use Rattle.weave.proofs.Weaving.{many-appended}
use Rattle.weave.proofs.send_many.Goals as goal

pub send_eight-w3-requires : goal.send_eight-w3-requires
send_eight-w3-requires c =
    let b = c.args in
    let pre = c.requires in
    let one = c.send_eight-w1 in
    let two = c.send_eight-w2 in
    let l : length two.new.line ≡ length b.line.now = two.auto.line ∙ one.auto.line in
    (pre.0, two.ensures.ready, omega (arith, one.ensures.place, two.ensures.place, l, pre.2), omega arith)

pub send_eight-requires : goal.send_eight-requires
send_eight-requires c =
    let b = c.args in
    let pre = c.requires in
    let one = c.send_eight-w1 in
    let two = c.send_eight-w2 in
    let three = c.send_eight-w3 in
    let l : length three.new.line ≡ length b.line.now = three.auto.line ∙ two.auto.line ∙ one.auto.line in
    (pre.0, three.ensures.ready, omega (arith, one.ensures.place, two.ensures.place, three.ensures.place, l, pre.2), omega arith)

pub returns : goal.returns
returns c =
    let send-eight = c.send_eight-w1 in
    let send-eight2 = c.send_eight-w2 in
    let send-eight3 = c.send_eight-w3 in
    let send-eight4 = c.send_eight in
    let b = c.args in
    let x = c.read_digits-x in
    let y = c.read_digits-y in
    let z = c.read_digits-z in
    let t = c.read_digits-t in
    many-appended (digits_of b.a.now) (digits_of b.b.now) (digits_of b.c.now) (digits_of b.d.now) (digits-binary b.a.now) (digits-binary b.b.now)
    (digits-binary b.c.now) (digits-binary b.d.now) b.i _ _ _ _ x.ensures.0 y.ensures.0 z.ensures.0 t.ensures.0 _ _ _ _ _ _ _ _ _ _
    send-eight.ensures send-eight2.ensures send-eight3.ensures send-eight4.ensures
