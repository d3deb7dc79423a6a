use Rattle.bound_calc.proofs.RoundLaws.{stays_in_rounds}
use Rattle.bound_calc.proofs.laws.stays_in_rounds.Goals as goal

pub returns : goal.returns
returns c = stays_in_rounds
