use Rattle.std.proofs.Common.{◌≡◌}
use Rattle.fp_asm.specs.Second.{with_words}
use Rattle.fp_asm.proofs.WordByWord.{words_from}
use Rattle.fp_asm.proofs.memory.write_words.Given as goal

abbrev pub invariant-loop-word : goal.invariant-loop-word
invariant-loop-word l =
    with_words l.initial.memory.entries l.location l.words
    ≡ words_from l.memory.entries l.a l.words l.word-index
