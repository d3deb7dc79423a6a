use Rattle.std.proofs.Common.{arith}
use Rattle.std.proofs.lemmas.Grind.{common_steps}
use Rattle.fp_io.proofs.memory_files.MemFilesFiles.fetch.Goals as goal

-- A listed call.
pub returns-then-count_call-clause-failed : goal.returns-then-count_call-clause-failed
returns-then-count_call-clause-failed c = grind (arith, common_steps)

pub returns-then-count_call-clause-missing : goal.returns-then-count_call-clause-missing
returns-then-count_call-clause-missing c = grind (arith, common_steps)

-- A name without a file.
pub returns-in_default-clause-failed : goal.returns-in_default-clause-failed
returns-in_default-clause-failed c = grind (arith, common_steps)

pub returns-in_default-clause-missing : goal.returns-in_default-clause-missing
returns-in_default-clause-missing c = grind (arith, common_steps)

-- The first bytes of a file.
pub returns-clause-bytes : goal.returns-clause-bytes
returns-clause-bytes c = grind (arith, common_steps)
