-- A moment's two words.
use Rattle.std.proofs.Common.{arith}
use Rattle.std.proofs.lemmas.Grind.{common_steps}
use Rattle.timer_unit.proofs.clock.moment.Goals as goal

pub returns : goal.returns
returns c = grind (arith, common_steps)
