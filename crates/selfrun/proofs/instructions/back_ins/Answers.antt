use Rattle.std.proofs.Common.{rules, negsuc, refl}
use Rattle.selfrun.proofs.instructions.back_ins.Goals as goal

pub returns-clause-range : goal.returns-clause-range
returns-clause-range c = (search rules, search rules, (negsuc 249, refl))
