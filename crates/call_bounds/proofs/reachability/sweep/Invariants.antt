use Rattle.call_bounds.specs.Reachability.{Swept}
use Rattle.call_bounds.proofs.reachability.sweep.Given as goal

abbrev pub invariant-loop-function : goal.invariant-loop-function
invariant-loop-function l = Swept l.count l.table l.function l.fn.met.items l.met.items l.changed
