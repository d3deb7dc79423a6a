use Rattle.std.proofs.Common.{rules}
use Rattle.region_tree.proofs.nesting.deep_here.Goals as goal

pub returns-then-depth-gt-DEEPEST : goal.returns-then-depth-gt-DEEPEST
returns-then-depth-gt-DEEPEST c = search rules

pub returns-else-depth-gt-DEEPEST : goal.returns-else-depth-gt-DEEPEST
returns-else-depth-gt-DEEPEST c = search rules
