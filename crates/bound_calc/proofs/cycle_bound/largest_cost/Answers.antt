use Rattle.std.proofs.Common.{arith}
use Rattle.bound_calc.proofs.MostLaws.{no-word_costs}
use Rattle.bound_calc.proofs.PassLaws.{span-count}
use Rattle.bound_calc.proofs.cycle_bound.largest_cost.Goals as goal

pub largest_cost_by-requires-clause-room : goal.largest_cost_by-requires-clause-room
largest_cost_by-requires-clause-room c = omega (
  arith,
  c.in_ok-frontier.ensures,
  span-count c.args.tree.now c.args.steps.now no-word_costs c.span_of.result.first
      c.span_of.result.last
      c.span_of.ensures.rules (c.span_of.ensures.span c.args.steps.now no-word_costs),
)
