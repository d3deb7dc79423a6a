use Rattle.std.proofs.Common.{rules}
use Rattle.region_tree.proofs.draft.counts.Goals as goal

pub returns-then-section-j-2 : goal.returns-then-section-j-2
returns-then-section-j-2 c = search rules
