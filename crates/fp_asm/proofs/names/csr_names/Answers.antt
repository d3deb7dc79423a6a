use Rattle.std.proofs.Common.{rules}
use Rattle.fp_asm.specs.Names.{csrs}
use Rattle.fp_asm.proofs.names.csr_names.Goals as goal

pub returns : goal.returns
unfolding csrs
returns c = search rules
