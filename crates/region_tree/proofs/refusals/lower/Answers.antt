use Rattle.std.proofs.Common.{rules}
use Rattle.region_tree.specs.Search.{lower_of}
use Rattle.region_tree.proofs.refusals.lower.Goals as goal

pub returns-in-Some-Some : goal.returns-in-Some-Some
unfolding lower_of
returns-in-Some-Some c = search rules
