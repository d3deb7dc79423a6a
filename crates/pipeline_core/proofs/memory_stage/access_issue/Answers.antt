-- The words after a store in M.
use Rattle.std.proofs.Common.{arith}
use Rattle.std.proofs.lemmas.Grind.{common_steps}
use Rattle.pipe_model.specs.Stages.{words_stored}
use Rattle.pipeline_core.proofs.memory_stage.access_issue.Goals as goal

pub returns-clause-words : goal.returns-clause-words
unfolding words_stored
returns-clause-words c = grind (arith, common_steps)
