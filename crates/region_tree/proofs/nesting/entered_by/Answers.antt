use Rattle.std.proofs.Common.{◌+◌, arith, sym, subst}
use Rattle.region_tree.specs.Search.{Before, EnteredHere, LowestOf}
use Rattle.region_tree.proofs.LowestLaws.{lowest-next, entered-by}
use Rattle.region_tree.proofs.nesting.entered_by.Goals as goal

pub loop-index-preserved : goal.loop-index-preserved
loop-index-preserved c =
    subst (LowestOf (Before (EnteredHere c.args.loops.now c.args.from c.in_ok-to.to)
    (c.loop-index.index + 1))) (sym c.lower-found.ensures)
    (lowest-next (EnteredHere c.args.loops.now c.args.from c.in_ok-to.to) c.loop-index.index
    c.loop-index.found c.entered_here.result c.loop-index.invariant c.entered_here.ensures)

pub returns : goal.returns
returns c =
    entered-by c.args.loops.now c.args.from c.in_ok-to.to c.loop-index.index c.args.target
    c.loop-index.found c.in_ok-to.was (omega arith) c.loop-index.invariant
