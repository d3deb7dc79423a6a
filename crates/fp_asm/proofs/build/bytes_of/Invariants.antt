use Rattle.std.proofs.Common.{◌≡◌, ◌+◌, ◌*◌, ◌<◌, ◌^◌}
use Rattle.fp_asm.specs.Runs.{bytes_from}
use Rattle.fp_asm.proofs.RunByRun.{more_bytes}
use Rattle.fp_asm.proofs.build.bytes_of.Given as goal

abbrev pub invariant-loop-left : goal.invariant-loop-left
invariant-loop-left l = record {
  short : l.a + 4 * l.left < 2 ^ 32;
  so_far : bytes_from l.memory.entries l.run.first l.run.count
      ≡ more_bytes l.list.items l.memory.entries l.a l.left;
}

abbrev pub decreases-loop-left : goal.decreases-loop-left
decreases-loop-left l = l.left
