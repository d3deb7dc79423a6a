use Rattle.std.proofs.Common.{◌+◌, arith, sym, subst}
use Rattle.region_tree.specs.Search.{Before, DeepHere, LowestOf}
use Rattle.region_tree.proofs.LowestLaws.{lowest-next, deep-all}
use Rattle.region_tree.proofs.nesting.deep.Goals as goal

pub loop-index-preserved : goal.loop-index-preserved
loop-index-preserved c =
    subst (LowestOf (Before (DeepHere c.args.loops.now) (c.loop-index.index + 1)))
    (sym c.lower-found.ensures) (lowest-next (DeepHere c.args.loops.now) c.loop-index.index
    c.loop-index.found c.deep_here.result c.loop-index.invariant c.deep_here.ensures)

pub returns : goal.returns
returns c =
    deep-all c.args.loops.now c.loop-index.index c.loop-index.found
    (omega arith) c.loop-index.invariant
