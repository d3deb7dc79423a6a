use Rattle.command_line.proofs.commands.cycles_of.Goals as goal

pub returns-clause-value : goal.returns-clause-value
returns-clause-value c = c.number_of.ensures.value

pub returns-clause-limit : goal.returns-clause-limit
returns-clause-limit c = c.number_of.ensures.limit
