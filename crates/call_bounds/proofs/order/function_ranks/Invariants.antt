use Rattle.call_bounds.proofs.OrderLaws.{AreRanksTo}
use Rattle.call_bounds.proofs.order.function_ranks.Given as goal

abbrev pub invariant-loop-function : goal.invariant-loop-function
invariant-loop-function l = AreRanksTo l.code l.table l.function l.ranks.items
