use Rattle.std.proofs.Common.{subst}
use Rattle.region_tree.specs.Walk.{Positions}
use Rattle.bound_calc.specs.Bound.{positions}
use Rattle.call_bounds.specs.Listing.{calls}
use Rattle.call_bounds.specs.Summaries.{IsMost, route}
use Rattle.call_bounds.proofs.Exact.{answer-bound, answer-refused, no-memory, own-position}
use Rattle.call_bounds.proofs.Facts.{functions}
use Rattle.call_bounds.proofs.bound.call_bound.Goals as goal

pub returns-clause-bound : goal.returns-clause-bound
returns-clause-bound c =
    let l = c.args.tree.now in
    let rules = c.in_ok-largest_cost.ensures.rules in
    let m = subst (λ (s : Positions). IsMost (route l s) c.in_ok-largest_cost.field-0)
    c.new-steps.ensures c.in_ok-largest_cost.ensures.most in
    answer-bound (route l (positions c.args.slots.now c.args.thread)) c.in_ok-largest_cost.field-0
    c.in_64_bits.result (functions (calls l) rules.0 rules.1) m c.in_64_bits.ensures

pub returns-clause-refused : goal.returns-clause-refused
returns-clause-refused c =
    let l = c.args.tree.now in
    let rules = c.in_ok-largest_cost.ensures.rules in
    let m = subst (λ (s : Positions). IsMost (route l s) c.in_ok-largest_cost.field-0)
    c.new-steps.ensures c.in_ok-largest_cost.ensures.most in
    answer-refused (route l (positions c.args.slots.now c.args.thread)) c.in_ok-largest_cost.field-0
    c.in_64_bits.result (functions (calls l) rules.0 rules.1) m c.in_64_bits.ensures

pub largest_cost-requires : goal.largest_cost-requires
largest_cost-requires c =
    own-position c.args.slots.now c.args.thread c.new-steps.result c.requires.slot
    c.new-steps.ensures

pub returns-in_err-largest_cost : goal.returns-in_err-largest_cost
returns-in_err-largest_cost c =
    let z = no-memory (route c.args.tree.now (positions c.args.slots.now c.args.thread))
    c.from_residual.result c.from_residual.ensures.1 in record { bound = z.0; refused = z.1 }

pub new-steps-requires : goal.new-steps-requires
new-steps-requires c = c.requires.thread
