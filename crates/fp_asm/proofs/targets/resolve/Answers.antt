use Rattle.std.proofs.Common.{arith}
use Rattle.std.proofs.lemmas.Grind.{common_steps}
use Rattle.fp_asm.specs.Second.{target_word}
use Rattle.fp_asm.proofs.targets.resolve.Goals as goal

pub returns-in-Some : goal.returns-in-Some
unfolding target_word
returns-in-Some c = grind (arith, common_steps)
