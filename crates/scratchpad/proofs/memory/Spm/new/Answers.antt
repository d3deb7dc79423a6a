use Rattle.std.proofs.Common.{rules}
use Rattle.scratchpad.proofs.memory.Spm.new.Goals as goal

pub returns-clause-words : goal.returns-clause-words
returns-clause-words c = search rules
