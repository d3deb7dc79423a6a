use Rattle.std.proofs.Common.{arith}
use Rattle.std.proofs.lemmas.Grind.{common_steps}
use Rattle.fp_asm.specs.Second.{written_by}
use Rattle.fp_asm.proofs.Checks.{after_four}
use Rattle.fp_asm.proofs.second_pass.Second.write.Goals as goal

pub returns-in_default-clause-ok : goal.returns-in_default-clause-ok
unfolding written_by
returns-in_default-clause-ok c = grind (arith, common_steps)

pub returns-in_err-words-clause-refused : goal.returns-in_err-words-clause-refused
unfolding written_by
returns-in_err-words-clause-refused c = grind (arith, common_steps)

pub returns-in_ok-write_words-clause-ok : goal.returns-in_ok-write_words-clause-ok
unfolding written_by
returns-in_ok-write_words-clause-ok c = grind (arith, common_steps)

pub returns-in_ok-write_words-clause-aligned : goal.returns-in_ok-write_words-clause-aligned
returns-in_ok-write_words-clause-aligned c = grind (arith, after_four)
