use Rattle.std.proofs.Common.{rules}
use Rattle.scratchpad.proofs.memory.word_in.Goals as goal

pub returns : goal.returns
returns c = search rules
