use Rattle.std.proofs.Common.{rules}
use Rattle.region_tree.proofs.refusals.returns_badly.Goals as goal

pub returns-then-to-from : goal.returns-then-to-from
returns-then-to-from c = search rules

pub returns-else-to-from : goal.returns-else-to-from
returns-else-to-from c = search rules
