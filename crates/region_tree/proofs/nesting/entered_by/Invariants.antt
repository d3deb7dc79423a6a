use Rattle.region_tree.specs.Search.{Before, EnteredHere, LowestOf}
use Rattle.region_tree.proofs.nesting.entered_by.Given as goal

abbrev pub invariant-loop-index : goal.invariant-loop-index
invariant-loop-index l = LowestOf (Before (EnteredHere l.loops l.from l.to) l.index) l.found
