use Rattle.std.proofs.Common.{rules}
use Rattle.rv_disasm.proofs.text.fence_line.Goals as goal

pub returns-in-4111 : goal.returns-in-4111
returns-in-4111 c = search rules
