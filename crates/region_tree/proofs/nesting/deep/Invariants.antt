use Rattle.region_tree.specs.Search.{Before, DeepHere, LowestOf}
use Rattle.region_tree.proofs.nesting.deep.Given as goal

abbrev pub invariant-loop-index : goal.invariant-loop-index
invariant-loop-index l = LowestOf (Before (DeepHere l.loops) l.index) l.found
