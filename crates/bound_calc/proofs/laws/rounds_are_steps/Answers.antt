use Rattle.bound_calc.proofs.RoundLaws.{rounds_are_steps}
use Rattle.bound_calc.proofs.laws.rounds_are_steps.Goals as goal

pub returns : goal.returns
returns c = rounds_are_steps
