use Rattle.std.proofs.Common.{arith}
use Rattle.std.proofs.lemmas.Grind.{common_steps}
use Rattle.fp_image.specs.Format.{image_of}
use Rattle.fp_image.proofs.reader.read_image.Goals as goal

pub returns-clause-value : goal.returns-clause-value
unfolding image_of
returns-clause-value c = grind (arith, common_steps)

pub returns-clause-rules : goal.returns-clause-rules
unfolding image_of
returns-clause-rules c = grind (arith, common_steps)

pub returns-in_err-count-clause-value : goal.returns-in_err-count-clause-value
unfolding image_of
returns-in_err-count-clause-value c = grind (arith, common_steps)
