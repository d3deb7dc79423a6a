use Rattle.std.proofs.Common.{◌≡◌, vec_len}
use Rattle.beside_loads.proofs.tests.no_ports.Given as goal

abbrev pub invariant-loop-thread : goal.invariant-loop-thread
invariant-loop-thread g l = vec_len l.ports ≡ l._thread
