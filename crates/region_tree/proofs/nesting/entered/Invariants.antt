use Rattle.region_tree.specs.Search.{Before, EnteredFrom, LowestOf}
use Rattle.region_tree.proofs.nesting.entered.Given as goal

abbrev pub invariant-loop-index : goal.invariant-loop-index
invariant-loop-index l = LowestOf (Before (EnteredFrom l.draft) l.index) l.found
