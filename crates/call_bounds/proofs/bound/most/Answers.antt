use Rattle.call_bounds.specs.Calls.{IsReached}
use Rattle.call_bounds.proofs.bound.most.Goals as goal

pub returns-in-None : goal.returns-in-None
returns-in-None c = absurd (c.in-None.ensures IsReached.first)

pub most_in-requires-clause-function : goal.most_in-requires-clause-function
most_in-requires-clause-function c = c.in-Some.ensures.1
