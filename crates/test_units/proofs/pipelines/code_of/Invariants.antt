use Rattle.std.proofs.Common.{◌≡◌, length}
use Rattle.test_units.proofs.pipelines.code_of.Given as goal

abbrev pub invariant-loop-pair : goal.invariant-loop-pair
invariant-loop-pair l = length l.imem ≡ 4096
