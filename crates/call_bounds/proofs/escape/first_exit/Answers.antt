use Rattle.std.proofs.Common.{◌+◌, ◌*◌, arith, ap, sym, subst}
use Rattle.region_tree.specs.Refusals.{IsLowest}
use Rattle.region_tree.specs.Tree.{graph}
use Rattle.region_tree.proofs.LowestLaws.{lowest-first, lowest-never}
use Rattle.call_bounds.specs.Build.{HasExitAt}
use Rattle.call_bounds.proofs.escape.first_exit.Goals as goal

pub returns-then-leaves : goal.returns-then-leaves
returns-then-leaves c =
    let t = c.args.tree.now in
    subst (IsLowest (HasExitAt (graph t)))
    (sym (ap (λ s. s.from + 4 * c.loop-index.index) c.section-section.ensures.value))
    (lowest-first t (HasExitAt (graph t)) c.loop-index.index c.section-section.ensures.rules.draft
    (λ u h. h.reached) c.loop-index.invariant (c.leaves.ensures.0 c.if-leaves.true))

pub returns : goal.returns
returns c =
    let t = c.args.tree.now in
    lowest-never t (HasExitAt (graph t)) c.loop-index.index c.section-section.ensures.rules.draft
    (let w = c.section-section.ensures.rules.draft.words in
    let e = ap (λ s. s.from) c.section-section.ensures.value in
    let f = ap (λ s. s.to) c.section-section.ensures.value in omega arith)
    (λ u h. h.reached) c.loop-index.invariant
