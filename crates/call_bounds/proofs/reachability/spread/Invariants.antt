use Rattle.call_bounds.specs.Reachability.{Spread}
use Rattle.call_bounds.proofs.reachability.spread.Given as goal

abbrev pub invariant-loop-callee : goal.invariant-loop-callee
invariant-loop-callee l =
    Spread l.count l.table l.function l.callee l.fn.met.items l.met.items l.changed
