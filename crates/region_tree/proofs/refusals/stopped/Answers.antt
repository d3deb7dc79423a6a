use Rattle.std.proofs.Common.{◌≡◌, arith, rules, sym, ◌∙◌, subst, ap}
use Rattle.region_tree.specs.Graph.{Reachable}
use Rattle.region_tree.specs.Refusals.{IsLowest}
use Rattle.region_tree.specs.Tree.{graph}
use Rattle.region_tree.proofs.LowestLaws.{lowest-first, lowest-never}
use Rattle.region_tree.proofs.refusals.stopped.Goals as goal

pub returns-then-eq : goal.returns-then-eq
returns-then-eq c =
    let t = c.args.draft.now in
    let k = c.loop-index.index in
    let same : c.edges.result.stop ≡ c.args.stop = search rules in
    subst (IsLowest (λ u. Reachable (graph t) u × ((graph t).stop u ≡ c.args.stop)))
    (sym c.address.ensures.value)
    (lowest-first t (λ u. Reachable (graph t) u × ((graph t).stop u ≡ c.args.stop)) k
    c.len-index-end.ensures.rules (λ u h. h.0) c.loop-index.invariant (
      (c.requires.exact k (omega (arith, c.len-index-end.ensures.value))).0 c.if-met-index.true,
      ap (λ e. e.stop) (sym c.edges.ensures) ∙ same,
    ))

pub returns : goal.returns
returns c =
    let t = c.args.draft.now in
    lowest-never t (λ u. Reachable (graph t) u × ((graph t).stop u ≡ c.args.stop))
    c.loop-index.index c.len-index-end.ensures.rules (omega (arith, c.len-index-end.ensures.value))
    (λ u h. h.0) c.loop-index.invariant
