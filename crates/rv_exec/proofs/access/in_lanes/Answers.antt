-- The mask and the value at their lanes.
use Rattle.std.proofs.Common.{arith}
use Rattle.std.proofs.lemmas.Grind.{common_steps}
use Rattle.rv_exec.proofs.ByteLanes.{lane_power}
use Rattle.rv_exec.proofs.access.in_lanes.Goals as goal

pub returns : goal.returns
returns c = grind (arith, common_steps, lane_power)
