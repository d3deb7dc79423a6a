use Rattle.std.proofs.Common.{rules}
use Rattle.commands.proofs.elf.imported_bytes.Goals as goal

pub returns-clause-ok : goal.returns-clause-ok
returns-clause-ok c = search rules
