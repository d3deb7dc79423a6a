use Rattle.example_plants.proofs.Heat.{in_range, cools}
use Rattle.example_plants.proofs.laws.heat_stays_in_range.Goals as goal

pub returns : goal.returns
returns c = record { range = in_range; cools = cools }
