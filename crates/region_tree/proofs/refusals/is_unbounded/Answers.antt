use Rattle.std.proofs.Common.{rules}
use Rattle.region_tree.proofs.LowestLaws.{unbounded-first, unbounded-second}
use Rattle.region_tree.proofs.refusals.is_unbounded.Goals as goal

pub returns-then-not-met-index : goal.returns-then-not-met-index
returns-then-not-met-index c = search rules

pub returns-then-returns_badly : goal.returns-then-returns_badly
returns-then-returns_badly c =
    unbounded-first c.args.draft.now c.args.index c.address-address.result c.edges-edges.result
    c.returns_badly.result c.address-address.ensures.value c.edges-edges.ensures
    ((c.requires.met.exact c.args.index c.requires.within).0 c.if-not-met-index.false)
    c.returns_badly.ensures c.if-returns_badly.true

pub returns-else-returns_badly : goal.returns-else-returns_badly
returns-else-returns_badly c =
    unbounded-second c.args.draft.now c.args.index c.address-address.result
    c.edges-edges.result c.returns_badly.result c.returns_badly-else-returns_badly.result
    c.address-address.ensures.value c.edges-edges.ensures
    ((c.requires.met.exact c.args.index c.requires.within).0 c.if-not-met-index.false)
    c.returns_badly.ensures c.if-returns_badly.false c.returns_badly-else-returns_badly.ensures
