use Rattle.std.proofs.Common.{◌≡◌, vec_len}
use Rattle.loop_cli.proofs.run.Given as goal

abbrev pub invariant-loop-thread : goal.invariant-loop-thread
invariant-loop-thread l = vec_len l.ports ≡ l._thread
