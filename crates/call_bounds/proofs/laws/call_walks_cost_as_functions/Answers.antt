use Rattle.call_bounds.proofs.Costs.{flat, in_functions}
use Rattle.call_bounds.proofs.Facts.{functions}
use Rattle.call_bounds.proofs.laws.call_walks_cost_as_functions.Goals as goal

pub returns : goal.returns
returns g x is ok c = (
  λ costs. in_functions x (functions x.calls is ok) costs,
  λ nested. flat x c (functions x.calls is ok) nested,
)
