use Rattle.std.proofs.Common.{rules}
use Rattle.pipeline_core.proofs.Turns.{of_issue}
use Rattle.pipeline_core.proofs.memory_stage.put_same.Goals as goal

pub returns : goal.returns
returns c = rw (of_issue c.args.thread _ c.requires) (search rules)
