use Rattle.call_bounds.proofs.Costs.{bound_in_functions}
use Rattle.call_bounds.proofs.Facts.{functions}
use Rattle.call_bounds.proofs.laws.functions_have_the_bound.Goals as goal

pub returns : goal.returns
returns g x is ok b met most = bound_in_functions x b (functions x.calls is ok) met most
