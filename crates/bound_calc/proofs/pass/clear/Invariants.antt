use Rattle.std.proofs.Common.{◌≡◌, ℕ, ◌<◌, ◌≤◌, None, length}
use Rattle.bound_calc.specs.Propagation.{power_at}
use Rattle.bound_calc.proofs.pass.clear.Given as goal

abbrev pub invariant-loop-index : goal.invariant-loop-index
invariant-loop-index l = record {
  none : (k : ℕ) → l.fn.span.first ≤ k → k < l.index → power_at l.frontier.waiting.items k ≡ None;
  count : length l.frontier.waiting.items ≡ length l.fn.frontier.waiting.items;
}
