use Rattle.std.proofs.Common.{subst, sym}
use Rattle.bound_calc.specs.Propagation.{AreWordCosts, IsFilled, IsReady, CostTable, over, costs_on}
use Rattle.bound_calc.specs.Section.{whole}
use Rattle.bound_calc.proofs.FillLaws.{ready-whole}
use Rattle.bound_calc.proofs.MostLaws.{no-word_costs, none-go_on}
use Rattle.bound_calc.proofs.cycle_bound.largest_cost_by.Goals as goal

pub fill-requires-clause-own : goal.fill-requires-clause-own
fill-requires-clause-own c =
    subst (λ (w : CostTable). AreWordCosts c.args.steps.now (costs_on w)) (sym c.new.ensures)
    (none-go_on c.args.steps.now)

pub most-requires-clause-ready : goal.most-requires-clause-ready
most-requires-clause-ready c =
    let t = c.args.tree.now in
    let o = c.args.steps.now in
    let filled =
    subst (λ (w : CostTable). IsFilled (over t o (costs_on w)) t 0 c.in_ok-powers.powers.items)
    c.new.ensures c.in_ok-powers.ensures.filled in
    subst (λ powers. IsReady (over t o no-word_costs) t (whole (over t o no-word_costs)) powers)
    (sym c.deref.ensures.value)
    (ready-whole t o no-word_costs c.in_ok-powers.powers.items c.requires.tree
    (none-go_on o) filled)
