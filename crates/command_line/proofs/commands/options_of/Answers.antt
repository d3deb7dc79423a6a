use Rattle.std.proofs.Common.{rules}
use Rattle.command_line.proofs.commands.options_of.Goals as goal

pub returns-in-Phases-clause-options : goal.returns-in-Phases-clause-options
returns-in-Phases-clause-options c = search rules
