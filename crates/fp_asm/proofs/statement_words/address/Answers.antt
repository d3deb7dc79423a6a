use Rattle.std.proofs.Common.{arith}
use Rattle.std.proofs.lemmas.Grind.{common_steps}
use Rattle.fp_asm.specs.Second.{address_words}
use Rattle.fp_asm.proofs.statement_words.address.Goals as goal

pub returns-clause-words : goal.returns-clause-words
unfolding address_words
returns-clause-words c = grind (arith, common_steps)

pub returns-in_err-v-clause-refused : goal.returns-in_err-v-clause-refused
unfolding address_words
returns-in_err-v-clause-refused c = grind (arith, common_steps)

pub returns-then-not-fits_word-clause-refused : goal.returns-then-not-fits_word-clause-refused
unfolding address_words
returns-then-not-fits_word-clause-refused c = grind (arith, common_steps)
