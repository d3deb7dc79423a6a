use Rattle.std.proofs.Common.{◌≡◌, vec_len}
use Rattle.test_units.proofs.pipelines.push_shown.Given as goal

abbrev pub invariant-loop-count : goal.invariant-loop-count
invariant-loop-count l = vec_len l.ports ≡ l._count
