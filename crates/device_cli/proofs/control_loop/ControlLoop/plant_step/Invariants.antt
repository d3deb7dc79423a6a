use Rattle.std.proofs.Common.{◌≡◌, ◌+◌, vec_len}
use Rattle.device_cli.proofs.control_loop.ControlLoop.plant_step.Given as goal

abbrev pub invariant-loop-cycle : goal.invariant-loop-cycle
invariant-loop-cycle g l = record {
  eight : vec_len l.self.ports ≡ 8;
  at : l.self.machine.at ≡ l.initial.self.machine.at + l._cycle;
}
