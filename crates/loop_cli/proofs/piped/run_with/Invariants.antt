use Rattle.std.proofs.Common.{◌≡◌, ◌≤◌, ◌-◌, vec_len}
use Rattle.loop_cli.proofs.piped.run_with.Given as goal

abbrev pub invariant-loop-machine : goal.invariant-loop-machine
invariant-loop-machine g l = record {
  within : l.machine.at ≤ l.ask.cycles;
  ports : vec_len l.ports ≡ 8;
  plants : vec_len l.plants ≡ 8;
}

abbrev pub decreases-loop-machine : goal.decreases-loop-machine
decreases-loop-machine g l = l.ask.cycles - l.machine.at
