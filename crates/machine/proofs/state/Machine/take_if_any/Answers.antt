use Rattle.std.proofs.Common.{sym, ◌∙◌}
use Rattle.machine.proofs.Retiring.{none_due}
use Rattle.machine.proofs.state.Machine.take_if_any.Goals as goal

pub returns-then-loses_ports-clause-rows : goal.returns-then-loses_ports-clause-rows
returns-then-loses_ports-clause-rows g c = c.take_due.ensures.rows

pub returns-then-loses_ports-clause-eight : goal.returns-then-loses_ports-clause-eight
returns-then-loses_ports-clause-eight g c = c.take_due.ensures.eight

pub returns-else-loses_ports-clause-rows : goal.returns-else-loses_ports-clause-rows
returns-else-loses_ports-clause-rows g c =
    sym (none_due c.args.self.now.unplugs c.args.self.now.at _ 8
    (sym c.requires.known ∙ c.if-loses_ports.false))

pub returns-else-loses_ports-clause-eight : goal.returns-else-loses_ports-clause-eight
returns-else-loses_ports-clause-eight g c = c.requires.eight
