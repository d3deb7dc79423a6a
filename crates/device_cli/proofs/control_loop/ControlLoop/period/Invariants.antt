use Rattle.std.proofs.Common.{◌≡◌, ◌+◌, ◌*◌, vec_len}
use Rattle.device_cli.proofs.control_loop.ControlLoop.period.Given as goal

abbrev pub invariant-loop-step : goal.invariant-loop-step
invariant-loop-step g l = record {
  eight : vec_len l.self.ports ≡ 8;
  at : l.self.machine.at ≡ l.initial.self.machine.at + 100 * l._step;
}
