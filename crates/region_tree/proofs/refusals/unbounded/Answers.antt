use Rattle.std.proofs.Common.{arith, sym, subst}
use Rattle.region_tree.specs.Refusals.{IsLowest, UnboundedAt}
use Rattle.region_tree.specs.Tree.{graph}
use Rattle.region_tree.proofs.LowestLaws.{lowest-first, lowest-never}
use Rattle.region_tree.proofs.refusals.unbounded.Goals as goal

pub returns-then-is_unbounded : goal.returns-then-is_unbounded
returns-then-is_unbounded c =
    let t = c.args.draft.now in
    subst (IsLowest (UnboundedAt (graph t))) (sym c.address.ensures.value)
    (lowest-first t (UnboundedAt (graph t)) c.loop-index.index c.len-index-end.ensures.rules
    (λ u h. h.reached) c.loop-index.invariant (c.is_unbounded.ensures.0 c.if-is_unbounded.true))

pub returns : goal.returns
returns c =
    lowest-never c.args.draft.now
    (UnboundedAt (graph c.args.draft.now)) c.loop-index.index c.len-index-end.ensures.rules
    (omega (arith, c.len-index-end.ensures.value)) (λ u h. h.reached) c.loop-index.invariant
