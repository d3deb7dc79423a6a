use Rattle.std.proofs.Common.{arith}
use Rattle.std.proofs.lemmas.Grind.{common_steps}
use Rattle.fp_image.proofs.writer.push_segment.Goals as goal

pub returns : goal.returns
returns c = grind (arith, common_steps)
