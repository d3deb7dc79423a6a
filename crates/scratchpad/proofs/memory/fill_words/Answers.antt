use Rattle.std.proofs.Common.{◌+◌, ◌<◌, length, set, arith, ap, ◌∙◌}
use Rattle.scratchpad.proofs.Written.{written_more}
use Rattle.scratchpad.proofs.memory.fill_words.Goals as goal

pub loop-offset-preserved : goal.loop-offset-preserved
loop-offset-preserved c =
    let inside : c.args.index + c.loop-offset.offset < length c.args.words.now =
    omega (arith, c.requires.fits, c.requires.whole, c.loop-offset-test.true) in
    ap (λ ws. set ws (c.args.index + c.loop-offset.offset) c.word_in.result) c.loop-offset.invariant
    ∙ rw c.word_in.ensures
    (written_more c.args.words.now c.args.bytes.now c.args.index c.loop-offset.offset inside)
