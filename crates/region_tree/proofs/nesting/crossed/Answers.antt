use Rattle.std.proofs.Common.{◌+◌, arith, sym, subst}
use Rattle.region_tree.specs.Search.{Before, CrossedHere, LowestOf}
use Rattle.region_tree.proofs.LowestLaws.{lowest-next, crossed-all}
use Rattle.region_tree.proofs.nesting.crossed.Goals as goal

pub loop-later-preserved : goal.loop-later-preserved
loop-later-preserved c =
    subst (LowestOf (Before (CrossedHere c.args.loops.now) (c.loop-later.later + 1)))
    (sym c.lower-found.ensures) (lowest-next (CrossedHere c.args.loops.now) c.loop-later.later
    c.loop-later.found c.crossed_here.result c.loop-later.invariant c.crossed_here.ensures)

pub returns : goal.returns
returns c =
    crossed-all c.args.loops.now c.loop-later.later c.loop-later.found
    (omega arith) c.loop-later.invariant
