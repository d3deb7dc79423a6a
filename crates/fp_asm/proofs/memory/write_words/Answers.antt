use Rattle.std.proofs.Common.{arith}
use Rattle.fp_asm.proofs.WordByWord.{words_start, words_here, words_end}
use Rattle.fp_asm.proofs.memory.write_words.Goals as goal

pub loop-word-init : goal.loop-word-init
loop-word-init c = grind (arith, words_start)

pub loop-word-preserved : goal.loop-word-preserved
loop-word-preserved c = grind (arith, words_here)

pub returns : goal.returns
returns c = grind (arith, words_end)
