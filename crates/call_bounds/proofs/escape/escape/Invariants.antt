use Rattle.region_tree.specs.Search.{Before, LowestOf}
use Rattle.call_bounds.specs.Build.{EscapeFrom}
use Rattle.call_bounds.proofs.escape.escape.Given as goal

abbrev pub invariant-loop-function : goal.invariant-loop-function
invariant-loop-function l = LowestOf (Before (EscapeFrom l.trees) l.function) l.found
