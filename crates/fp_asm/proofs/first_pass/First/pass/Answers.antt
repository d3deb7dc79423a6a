use Rattle.std.proofs.Common.{arith}
use Rattle.fp_asm.proofs.PassByPass.{first_here, first_end, first_stop}
use Rattle.fp_asm.proofs.first_pass.First.pass.Goals as goal

pub loop-i-preserved : goal.loop-i-preserved
loop-i-preserved c = grind (arith, first_here)

pub returns-clause-ok : goal.returns-clause-ok
returns-clause-ok c = grind (arith, first_end)

pub returns-in-Err-clause-refused : goal.returns-in-Err-clause-refused
returns-in-Err-clause-refused c = grind (arith, first_stop)
