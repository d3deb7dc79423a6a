use Rattle.call_bounds.specs.Summaries.{AreReturns}
use Rattle.call_bounds.proofs.summary.returns.Given as goal

abbrev pub invariant-loop-index : goal.invariant-loop-index
invariant-loop-index l = AreReturns l.tree l.number l.section l.index l.returns.items
