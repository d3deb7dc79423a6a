use Rattle.std.proofs.Common.{◌≡◌, vec_len}
use Rattle.test_units.proofs.pipelines.push_events.Given as goal

abbrev pub invariant-loop-cycle : goal.invariant-loop-cycle
invariant-loop-cycle g l = vec_len l.ports ≡ 8
