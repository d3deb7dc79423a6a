-- A word outside the scratchpads is a port's.
use Rattle.std.proofs.Common.{arith}
use Rattle.std.proofs.lemmas.Grind.{common_steps}
use Rattle.core_model.specs.Memory.{data_at}
use Rattle.pipeline_core.proofs.memory.data_word.Goals as goal

pub returns-else-is_data-clause-word : goal.returns-else-is_data-clause-word
unfolding data_at
returns-else-is_data-clause-word c = grind (arith, common_steps)
