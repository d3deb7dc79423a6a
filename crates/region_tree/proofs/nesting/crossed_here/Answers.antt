use Rattle.std.proofs.Common.{rules}
use Rattle.region_tree.proofs.nesting.crossed_here.Goals as goal

pub returns-then-crosses : goal.returns-then-crosses
returns-then-crosses c = search rules
