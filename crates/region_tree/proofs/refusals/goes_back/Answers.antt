use Rattle.std.proofs.Common.{rules}
use Rattle.region_tree.proofs.refusals.goes_back.Goals as goal

pub returns-then-holds : goal.returns-then-holds
returns-then-holds c = search rules
