use Rattle.call_bounds.specs.Summaries.{AreCallees}
use Rattle.call_bounds.proofs.summary.callees.Given as goal

abbrev pub invariant-loop-index : goal.invariant-loop-index
invariant-loop-index l = AreCallees l.tree l.section l.index l.callees.items
