-- The row of a wait.
use Rattle.std.proofs.Common.{arith}
use Rattle.std.proofs.lemmas.Grind.{common_steps}
use Rattle.rv_decode.specs.Table.{time_rows}
use Rattle.rv_decode.proofs.decoder.timing.Goals as goal

pub returns-in-3 : goal.returns-in-3
unfolding time_rows
returns-in-3 c = grind (arith, common_steps)
