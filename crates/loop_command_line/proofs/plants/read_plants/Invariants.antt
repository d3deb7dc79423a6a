use Rattle.std.proofs.Common.{◌≡◌, None, replicate}
use Rattle.loop_command_line.proofs.plants.read_plants.Given as goal

abbrev pub invariant-loop-thread : goal.invariant-loop-thread
invariant-loop-thread l = l.plants.items ≡ replicate l._thread None
