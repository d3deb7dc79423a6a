-- The rows of products and quotients.
use Rattle.std.proofs.Common.{arith}
use Rattle.std.proofs.lemmas.Grind.{common_steps}
use Rattle.rv_decode.specs.Table.{op_rows}
use Rattle.rv_decode.proofs.decoder.muldiv.Goals as goal

pub returns : goal.returns
unfolding op_rows
returns c = grind (arith, common_steps)
