use Rattle.std.proofs.Common.{rules, refl, sym, ◌∙◌}
use Rattle.flexpret_top.proofs.Preparing.{fed-part, ready-beside, same-fed}
use Rattle.flexpret_top.proofs.machine_commands.ready.Goals as goal

pub returns-in-Ok-machine_with_ports-clause-ok : goal.returns-in-Ok-machine_with_ports-clause-ok
returns-in-Ok-machine_with_ports-clause-ok g c =
    ready-beside _ _ (g.F.Files.contents c.args.files.now) c.args.setup.now c.args.ports.now.items
    c.machine_with_ports.new.ports.items c.in-Ok.program _ c.in-Ok.ensures.ok
    c.in-Ok-machine_with_ports.ensures.fed refl (sym c.args.ports.now.ok.0 ∙ c.requires.eight)
    (sym c.machine_with_ports.new.ports.ok.0 ∙ c.in-Ok-machine_with_ports.ensures.eight)
    c.requires.limit c.in-Ok-machine_with_ports.ensures.refines

pub returns-in-Err-machine_with_ports : goal.returns-in-Err-machine_with_ports
returns-in-Err-machine_with_ports g c = search (
  rules,
  fed-part (g.F.Files.contents c.args.files.now) c.args.setup.now _ _ c.in-Ok.program
      c.in-Ok.ensures.ok
      c.in-Err-machine_with_ports.ensures.part,
)

pub returns-in-Err : goal.returns-in-Err
returns-in-Err g c = search (rules, same-fed (g.F.Files.contents c.args.files.now) c.args.setup.now)
