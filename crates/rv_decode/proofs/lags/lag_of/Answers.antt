-- The lags of loads and branches.
use Rattle.std.proofs.Common.{arith}
use Rattle.std.proofs.lemmas.Grind.{common_steps}
use Rattle.rv_decode.specs.Lag.{lag}
use Rattle.rv_decode.proofs.lags.lag_of.Goals as goal

pub returns-in-Load-clause-table : goal.returns-in-Load-clause-table
unfolding lag
returns-in-Load-clause-table c = grind (arith, common_steps)

pub returns-in-Branch-clause-table : goal.returns-in-Branch-clause-table
unfolding lag
returns-in-Branch-clause-table c = grind (arith, common_steps)

pub returns-in-Branch-2-clause-table : goal.returns-in-Branch-2-clause-table
unfolding lag
returns-in-Branch-2-clause-table c = grind (arith, common_steps)
