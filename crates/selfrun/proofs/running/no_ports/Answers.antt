use Rattle.std.proofs.Common.{rules}
use Rattle.selfrun.proofs.running.no_ports.Goals as goal

pub loop-thread-init : goal.loop-thread-init
loop-thread-init c = search rules
