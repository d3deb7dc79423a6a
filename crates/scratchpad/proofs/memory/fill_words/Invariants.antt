use Rattle.std.proofs.Common.{◌≡◌, ◌+◌, ◌++◌, take, drop}
use Rattle.scratchpad.specs.Words.{first_words}
use Rattle.scratchpad.proofs.memory.fill_words.Given as goal

abbrev pub invariant-loop-offset : goal.invariant-loop-offset
invariant-loop-offset l =
    l.words ≡ take l.index l.initial.words
    ++ (first_words l.bytes l.offset ++ drop (l.index + l.offset) l.initial.words)
