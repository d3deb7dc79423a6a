use Rattle.std.proofs.Common.{rules}
use Rattle.flexpret_top.proofs.Preparing.{trace-prepares}
use Rattle.flexpret_top.proofs.machine_commands.trace.Goals as goal

pub returns : goal.returns
returns g c = search (
  rules,
  trace-prepares (g.F.Files.contents c.args.files.now) c.args.setup.now c.args.thread
      c.args.cycles _ _
      c.in_ok-ready.ready c.in_ok-ready.ensures.cycles c.in_ok-ready.ensures.ok,
)

pub returns-in_err-ready : goal.returns-in_err-ready
returns-in_err-ready g c = search rules
