use Rattle.std.proofs.Common.{rules}
use Rattle.fp_elf.proofs.refusals.fault.Goals as goal

pub returns : goal.returns
returns c = search rules
