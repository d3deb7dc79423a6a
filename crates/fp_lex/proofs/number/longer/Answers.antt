-- The number with one more digit, where 32 bits hold it.
use Rattle.std.proofs.Common.{arith}
use Rattle.std.proofs.lemmas.Grind.{common_steps}
use Rattle.fp_lex.specs.Bytes.{fit}
use Rattle.fp_lex.proofs.number.longer.Goals as goal

pub returns-clause-fits : goal.returns-clause-fits
unfolding fit
returns-clause-fits c = grind (arith, common_steps)

pub returns-clause-value : goal.returns-clause-value
unfolding fit
returns-clause-value c = grind (arith, common_steps)
