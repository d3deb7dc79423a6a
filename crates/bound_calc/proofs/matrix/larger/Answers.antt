use Rattle.std.proofs.Common.{rules}
use Rattle.bound_calc.specs.Matrices.{larger_of}
use Rattle.bound_calc.proofs.matrix.larger.Goals as goal

pub returns-in-Some-Some : goal.returns-in-Some-Some
unfolding larger_of
returns-in-Some-Some c = search rules
