use Rattle.std.proofs.Common.{rules}
use Rattle.pipeline_core.proofs.memory.store_in_scratchpad.Goals as goal

pub returns-in_default-clause-words : goal.returns-in_default-clause-words
returns-in_default-clause-words c = search rules
