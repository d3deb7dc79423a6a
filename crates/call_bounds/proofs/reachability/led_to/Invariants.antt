use Rattle.std.proofs.Common.{◌+◌, cond}
use Rattle.call_bounds.specs.Reachability.{unmet_count}
use Rattle.call_bounds.proofs.ReachabilityLaws.{Marks}
use Rattle.call_bounds.proofs.reachability.led_to.Given as goal

abbrev pub invariant-loop-changed : goal.invariant-loop-changed
invariant-loop-changed l = Marks l.count l.table l.function l.met.items l.changed

abbrev pub decreases-loop-changed : goal.decreases-loop-changed
decreases-loop-changed l = unmet_count l.met.items + cond l.changed 1 0
