use Rattle.fp_elf.proofs.ReadBack.{reads-back}
use Rattle.fp_elf.proofs.law.reads_back.Goals as goal

pub returns : goal.returns
returns c = reads-back
