use Rattle.std.proofs.Common.{◌≡◌, vec_len}
use Rattle.pipe_view.proofs.view.put_window.Given as goal

abbrev pub invariant-loop-cycle : goal.invariant-loop-cycle
invariant-loop-cycle g l = record {
  at : l.machine.at ≡ l._cycle;
  eight : vec_len l.ports ≡ 8;
}
