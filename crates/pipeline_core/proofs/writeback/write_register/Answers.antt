use Rattle.std.proofs.Common.{arith, rules}
use Rattle.std.proofs.lemmas.Grind.{common_steps}
use Rattle.pipeline_core.proofs.writeback.write_register.Goals as goal

pub returns-in-Some-Csr : goal.returns-in-Some-Csr
returns-in-Some-Csr c = search rules

pub returns-in_default : goal.returns-in_default
returns-in_default c = grind (arith, common_steps)
