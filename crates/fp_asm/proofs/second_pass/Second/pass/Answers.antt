use Rattle.std.proofs.Common.{arith}
use Rattle.fp_asm.proofs.PassByPass.{second_here, second_end, second_stop}
use Rattle.fp_asm.proofs.second_pass.Second.pass.Goals as goal

pub loop-i-preserved : goal.loop-i-preserved
loop-i-preserved c = grind (arith, second_here)

pub returns-clause-ok : goal.returns-clause-ok
returns-clause-ok c = grind (arith, second_end)

pub returns-in-Err-clause-refused : goal.returns-in-Err-clause-refused
returns-in-Err-clause-refused c = grind (arith, second_stop)
