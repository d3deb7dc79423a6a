use Rattle.std.proofs.Common.{◌≡◌, vec_len}
use Rattle.test_units.proofs.pipelines.feed.Given as goal

abbrev pub invariant-loop-pair : goal.invariant-loop-pair
invariant-loop-pair g l = vec_len l.ports ≡ 8
