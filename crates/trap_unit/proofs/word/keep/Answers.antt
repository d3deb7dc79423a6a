-- The low bits of mtvec and mepc stay 0.
use Rattle.std.proofs.Common.{arith}
use Rattle.std.proofs.lemmas.Grind.{common_steps}
use Rattle.trap_unit.proofs.word.keep.Goals as goal

pub returns-then-csr-eq-MEPC : goal.returns-then-csr-eq-MEPC
returns-then-csr-eq-MEPC c = grind (arith, common_steps)
