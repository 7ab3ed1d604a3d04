-- `put` holds the new digits, or stores the first four bytes of those held and the new ones.
use native.Mathlib.Omega.{arith}
use Rattle.words.proofs.Writing.{put-held, put-stored, all-is}
use Rattle.words.proofs.put.Goals as goal

pub returns-then-fill-lt32 : goal.returns-then-fill-lt32
returns-then-fill-lt32 c =
    put-held c.args.s.now c.args.w c.args.n c.args.word c.requires.0 c.requires.1 c.requires.2 c.if-fill-lt32.true (omega arith)

pub returns : goal.returns
returns c =
    let if1 = c.if-fill-lt32 in
    let full = if1.false in
    let four = c.store4 in
    let whole = all-is c.args.s.now c.args.w c.args.n c.args.word c.requires.0 c.requires.1 c.requires.2 in
    put-stored c.args.s.now c.args.w c.args.n c.args.word c.requires.0 c.requires.1 c.requires.2 full (omega arith) _ c.ones.result four.new.s
    whole c.ones.ensures four.ensures
