use Rattle.std.proofs.Common.{rules, pos, refl, arith}
use Rattle.selfrun.specs.Drawn.{drawn_ins}
use Rattle.selfrun.proofs.instructions.drawn_ins.Goals as goal

pub returns-in_default-clause-range : goal.returns-in_default-clause-range
returns-in_default-clause-range c = (omega arith, omega arith, search rules, (pos 4, refl))

pub returns-in-1-clause-ins : goal.returns-in-1-clause-ins
unfolding drawn_ins
returns-in-1-clause-ins c = search rules
