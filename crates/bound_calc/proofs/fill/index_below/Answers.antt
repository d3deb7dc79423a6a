use Rattle.std.proofs.Common.{◌≡◌, ◌+◌, ◌-◌, ◌/◌, ◌<◌, ◌≤◌, arith, ap, sym, subst, Contains}
use Rattle.region_tree.specs.Search.{address}
use Rattle.bound_calc.proofs.fill.index_below.Goals as goal

pub returns-clause-next : goal.returns-clause-next
returns-clause-next c =
    λ j known below.
    let from : c.section-from.result.from ≡ c.args.tree.now.section.from =
    ap (λ s. s.from) c.section-from.ensures.value in
    let le : j.head ≤ c.head_below-head.result = c.head_below-head.ensures.next j
    (subst (λ l. Contains l j) (sym c.loops.ensures) known) (omega arith) in
    omega arith
