-- The rows of shifts by a constant.
use Rattle.std.proofs.Common.{arith}
use Rattle.std.proofs.lemmas.Grind.{common_steps}
use Rattle.rv_decode.specs.Table.{imm_rows}
use Rattle.rv_decode.proofs.decoder.shift.Goals as goal

pub returns : goal.returns
unfolding imm_rows
returns c = grind (arith, common_steps)
