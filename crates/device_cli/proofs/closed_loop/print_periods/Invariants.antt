use Rattle.std.proofs.Common.{◌≡◌, ◌*◌, vec_len}
use Rattle.device_cli.proofs.closed_loop.print_periods.Given as goal

abbrev pub invariant-loop-period : goal.invariant-loop-period
invariant-loop-period g l = record {
  eight : vec_len l.closed.ports ≡ 8;
  at : l.closed.machine.at ≡ 800 * l._period;
}
