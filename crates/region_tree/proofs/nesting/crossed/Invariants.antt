use Rattle.region_tree.specs.Search.{Before, CrossedHere, LowestOf}
use Rattle.region_tree.proofs.nesting.crossed.Given as goal

abbrev pub invariant-loop-later : goal.invariant-loop-later
invariant-loop-later l = LowestOf (Before (CrossedHere l.loops) l.later) l.found
