use Rattle.flexpret_top.proofs.AloneCommands.{solo-prepares}
use Rattle.flexpret_top.proofs.view_commands.solo.Goals as goal

pub returns-in-Ok-clause-ok : goal.returns-in-Ok-clause-ok
returns-in-Ok-clause-ok g c =
    solo-prepares (g.F.Files.contents c.args.files.now) c.args.setup.now c.args.thread c.args.cycles
    c.in-Ok.alone c.requires.thread c.in-Ok.ensures.ok
