use Rattle.std.proofs.Common.{rules}
use Rattle.region_tree.specs.Edges.{edges_from}
use Rattle.region_tree.proofs.edges.edges_from.Goals as goal

pub returns-in_default : goal.returns-in_default
unfolding edges_from
returns-in_default c = search rules
