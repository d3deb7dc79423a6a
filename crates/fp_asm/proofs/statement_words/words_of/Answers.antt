use Rattle.std.proofs.Common.{arith}
use Rattle.std.proofs.lemmas.Grind.{common_steps}
use Rattle.fp_asm.specs.Second.{statement_words}
use Rattle.fp_asm.proofs.statement_words.words_of.Goals as goal

pub returns-in-Plain-clause-words : goal.returns-in-Plain-clause-words
unfolding statement_words
returns-in-Plain-clause-words c = grind (arith, common_steps)

pub returns-in-Plain-clause-refused : goal.returns-in-Plain-clause-refused
unfolding statement_words
returns-in-Plain-clause-refused c = grind (arith, common_steps)

pub returns-in-Branch-clause-words : goal.returns-in-Branch-clause-words
unfolding statement_words
returns-in-Branch-clause-words c = grind (arith, common_steps)

pub returns-in-Branch-clause-refused : goal.returns-in-Branch-clause-refused
unfolding statement_words
returns-in-Branch-clause-refused c = grind (arith, common_steps)

pub returns-in-Jal-clause-words : goal.returns-in-Jal-clause-words
unfolding statement_words
returns-in-Jal-clause-words c = grind (arith, common_steps)

pub returns-in-Jal-clause-refused : goal.returns-in-Jal-clause-refused
unfolding statement_words
returns-in-Jal-clause-refused c = grind (arith, common_steps)

pub returns-in-La-clause-words : goal.returns-in-La-clause-words
unfolding statement_words
returns-in-La-clause-words c = grind (arith, common_steps)

pub returns-in-La-clause-refused : goal.returns-in-La-clause-refused
unfolding statement_words
returns-in-La-clause-refused c = grind (arith, common_steps)

pub returns-in-Words-clause-words : goal.returns-in-Words-clause-words
unfolding statement_words
returns-in-Words-clause-words c = grind (arith, common_steps)

pub returns-in-Words-clause-refused : goal.returns-in-Words-clause-refused
unfolding statement_words
returns-in-Words-clause-refused c = grind (arith, common_steps)

pub returns-in-Org-clause-words : goal.returns-in-Org-clause-words
unfolding statement_words
returns-in-Org-clause-words c = grind (arith, common_steps)

pub returns-in_ok-load_words-in-Li-clause-words : goal.returns-in_ok-load_words-in-Li-clause-words
unfolding statement_words
returns-in_ok-load_words-in-Li-clause-words c = grind (arith, common_steps)

pub returns-in_ok-vec-in-Space-clause-words : goal.returns-in_ok-vec-in-Space-clause-words
unfolding statement_words
returns-in_ok-vec-in-Space-clause-words c = grind (arith, common_steps)
