use Rattle.std.proofs.Common.{ℕ, ◌<◌}
use Rattle.call_bounds.proofs.OrderLaws.{Recurs}
use Rattle.call_bounds.proofs.order.recursion.Given as goal

abbrev pub invariant-loop-function : goal.invariant-loop-function
invariant-loop-function l = (k : ℕ) → 0 < k → k < l.function → Recurs l.code l.table l.reached k → ⊥
