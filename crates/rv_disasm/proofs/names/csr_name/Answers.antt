use Rattle.std.proofs.Common.{rules}
use Rattle.rv_disasm.proofs.names.csr_name.Goals as goal

pub returns-clause-name : goal.returns-clause-name
returns-clause-name c = search rules
