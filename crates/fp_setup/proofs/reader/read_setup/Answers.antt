use Rattle.std.proofs.Common.{rules}
use Rattle.fp_setup.proofs.reader.read_setup.Goals as goal

pub returns-clause-refused : goal.returns-clause-refused
returns-clause-refused c = search rules
