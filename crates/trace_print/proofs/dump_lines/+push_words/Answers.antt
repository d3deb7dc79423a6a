use Rattle.std.proofs.Common.{arith}
use Rattle.std.proofs.lemmas.Grind.{common_steps}
use Rattle.trace_print.specs.DumpLines.{words_text}
use Rattle.trace_print.proofs.dump_lines.+push_words.Goals as goal

pub returns-in-len1-up-clause-text : goal.returns-in-len1-up-clause-text
unfolding words_text
returns-in-len1-up-clause-text t c = grind (arith, common_steps)
