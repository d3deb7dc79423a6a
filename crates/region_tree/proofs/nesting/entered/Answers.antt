use Rattle.std.proofs.Common.{◌+◌, arith, sym, subst}
use Rattle.region_tree.specs.Search.{Before, EnteredFrom, LowestOf}
use Rattle.region_tree.proofs.LowestLaws.{lowest-next, entered-all}
use Rattle.region_tree.proofs.nesting.entered.Goals as goal

pub loop-index-preserved : goal.loop-index-preserved
loop-index-preserved c =
    subst (LowestOf (Before (EnteredFrom c.args.draft.now) (c.loop-index.index + 1)))
    (sym c.lower-found.ensures) (lowest-next (EnteredFrom c.args.draft.now) c.loop-index.index
    c.loop-index.found c.entered_from.result c.loop-index.invariant c.entered_from.ensures)

pub returns : goal.returns
returns c =
    entered-all c.args.draft.now c.loop-index.index c.loop-index.found c.len-index-end.ensures.rules
    (omega (arith, c.len-index-end.ensures.value)) c.loop-index.invariant
