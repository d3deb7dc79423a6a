use Rattle.std.proofs.Common.{◌≡◌, ◌≤◌, ◌<◌, ◌^◌, ◌+◌}
use Rattle.fp_asm.specs.Runs.{runs_from}
use Rattle.fp_asm.proofs.RunByRun.{left}
use Rattle.fp_asm.proofs.runs.runs_after.Given as goal

abbrev pub invariant-loop-a : goal.invariant-loop-a
invariant-loop-a l = record {
  count_small : l.count ≤ l.a-index + 1;
  first_small : l.first < 2 ^ 32;
  so_far : runs_from l.start 1 l.others ≡ left l.list.items l.first l.count l.others l.a-index;
}
