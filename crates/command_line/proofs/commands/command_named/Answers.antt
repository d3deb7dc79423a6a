use Rattle.std.proofs.Common.{rules}
use Rattle.command_line.proofs.commands.command_named.Goals as goal

pub returns-in-elf : goal.returns-in-elf
returns-in-elf c = search rules
