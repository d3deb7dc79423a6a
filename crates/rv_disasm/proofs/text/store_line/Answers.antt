use Rattle.std.proofs.Common.{rules}
use Rattle.rv_disasm.proofs.text.store_line.Goals as goal

pub returns : goal.returns
returns c = search rules
