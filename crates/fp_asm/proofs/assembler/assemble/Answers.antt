use Rattle.std.proofs.Common.{arith}
use Rattle.std.proofs.lemmas.Grind.{common_steps}
use Rattle.std.proofs.Common.{rules}
use Rattle.fp_asm.specs.Source.{assembly_of}
use Rattle.fp_asm.proofs.assembler.assemble.Goals as goal

pub returns-then-source-gt-MOST_SOURCE_BYTES-clause-image :
    goal.returns-then-source-gt-MOST_SOURCE_BYTES-clause-image
returns-then-source-gt-MOST_SOURCE_BYTES-clause-image c = tt

pub returns-then-source-gt-MOST_SOURCE_BYTES-clause-refused :
    goal.returns-then-source-gt-MOST_SOURCE_BYTES-clause-refused
unfolding assembly_of
returns-then-source-gt-MOST_SOURCE_BYTES-clause-refused c = search rules

pub assemble_lines-requires-clause-few : goal.assemble_lines-requires-clause-few
assemble_lines-requires-clause-few c = search rules

pub returns-clause-image : goal.returns-clause-image
unfolding assembly_of
returns-clause-image c = grind (arith, common_steps)

pub returns-clause-refused : goal.returns-clause-refused
unfolding assembly_of
returns-clause-refused c = grind (arith, common_steps)
