use Rattle.std.proofs.Common.{arith}
use Rattle.fp_asm.proofs.RunByRun.{bytes_start, bytes_here, bytes_end}
use Rattle.fp_asm.proofs.build.bytes_of.Goals as goal

pub loop-left-init : goal.loop-left-init
loop-left-init c = grind (arith, bytes_start)

pub loop-left-preserved : goal.loop-left-preserved
loop-left-preserved c = grind (arith, bytes_here)

pub returns : goal.returns
returns c = grind (arith, bytes_end)
