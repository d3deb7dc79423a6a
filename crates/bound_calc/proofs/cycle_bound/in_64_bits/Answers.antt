use Rattle.std.proofs.Common.{rules}
use Rattle.bound_calc.proofs.cycle_bound.in_64_bits.Goals as goal

pub returns-in-Ok : goal.returns-in-Ok
returns-in-Ok c = search rules
