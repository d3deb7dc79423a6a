use Rattle.std.proofs.Common.{rules}
use Rattle.fp_asm.proofs.statement_words.offset_to.Goals as goal

pub returns : goal.returns
returns c = search rules
