use Rattle.std.proofs.Common.{rules}
use Rattle.bound_calc.proofs.pass.leads_on.Goals as goal

pub returns-then-is_none : goal.returns-then-is_none
returns-then-is_none c = search rules
