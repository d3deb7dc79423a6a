use Rattle.std.proofs.Common.{rules}
use Rattle.pipeline_core.proofs.memory_stage.put_late.Goals as goal

pub returns-in-Some-Reg : goal.returns-in-Some-Reg
returns-in-Some-Reg c = search rules
