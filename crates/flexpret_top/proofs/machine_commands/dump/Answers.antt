use Rattle.std.proofs.Common.{rules}
use Rattle.flexpret_top.proofs.Preparing.{dump-prepares}
use Rattle.flexpret_top.proofs.machine_commands.dump.Goals as goal

pub returns : goal.returns
returns g c = search (
  rules,
  dump-prepares (g.F.Files.contents c.args.files.now) c.args.setup.now c.args.cycles _ _
      c.in_ok-ready.field-0 c.in_ok-ready.ensures.cycles c.in_ok-ready.ensures.ok,
)

pub returns-in_err-ready : goal.returns-in_err-ready
returns-in_err-ready g c = search rules
