use Rattle.std.proofs.Common.{subst}
use Rattle.region_tree.specs.Search.{EnteredBy, LowestOf, address}
use Rattle.region_tree.proofs.LowestLaws.{entered-from}
use Rattle.region_tree.proofs.nesting.entered_from.Goals as goal

pub returns : goal.returns
returns c =
    let t = c.args.draft.now in
    let k = c.args.index in
    let jump = subst (λ e. LowestOf (EnteredBy t.loops (address t k) e.jump) c.entered_by.result)
    c.edges.ensures
    (subst (λ a. LowestOf (EnteredBy t.loops a c.edges.result.jump) c.entered_by.result)
    c.address-address.ensures.value (subst (λ l. LowestOf (EnteredBy l c.address-address.result
    c.edges.result.jump) c.entered_by.result) c.loops.ensures c.entered_by.ensures)) in
    entered-from t k c.entered_by.result c.requires.rules c.requires.within
    ((c.requires.met.exact k c.requires.within).0 c.if-not-met-index.false) jump
