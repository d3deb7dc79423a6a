-- The operand's bits are cleared.
use Rattle.std.proofs.Common.{arith}
use Rattle.std.proofs.lemmas.Grind.{common_steps}
use Rattle.core_model.specs.Csr.{csr_update}
use Rattle.trap_unit.proofs.word.change.Goals as goal

pub returns-in-Clear : goal.returns-in-Clear
unfolding csr_update
returns-in-Clear c = grind (arith, common_steps)
