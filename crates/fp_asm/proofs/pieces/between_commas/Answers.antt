use Rattle.std.proofs.Common.{arith}
use Rattle.fp_asm.proofs.CommaByComma.{commas_start, commas_on, commas_push, commas_last}
use Rattle.fp_asm.proofs.pieces.between_commas.Goals as goal

pub loop-i-init : goal.loop-i-init
loop-i-init c = grind (arith, commas_start)

pub loop-i-preserved-then-not-is_comma : goal.loop-i-preserved-then-not-is_comma
loop-i-preserved-then-not-is_comma c = grind (arith, commas_on)

pub loop-i-preserved : goal.loop-i-preserved
loop-i-preserved c = grind (arith, commas_push)

pub returns-clause-operands : goal.returns-clause-operands
returns-clause-operands c = grind (arith, commas_last)
