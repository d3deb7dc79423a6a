use Rattle.std.proofs.Common.{◌∙◌, sym}
use Rattle.std.specs.Option.{option_map}
use Rattle.bound_calc.specs.Best.{In, Then}
use Rattle.bound_calc.specs.Matrices.{entry}
use Rattle.bound_calc.specs.Propagation.{leaves, move_costs}
use Rattle.bound_calc.proofs.TopLaws.{top-onto}
use Rattle.call_bounds.proofs.TopLaws.{top-unless, top-when}
use Rattle.call_bounds.proofs.bound.leave_by.Goals as goal

pub returns-then-is_out : goal.returns-then-is_out
returns-then-is_out c =
    top-when (Then (In (entry c.args.here.now))
    (move_costs c.args.steps.now (option_map (λ m. m.now) c.args.edge_costs) c.args.lag))
    (leaves c.args.function.now c.args.target) (sym c.is_out.ensures ∙ c.if-is_out.true)
    (top-onto c.along.ensures c.largest.ensures)

pub returns-else-is_out : goal.returns-else-is_out
returns-else-is_out c =
    top-unless (Then (In (entry c.args.here.now))
    (move_costs c.args.steps.now (option_map (λ m. m.now) c.args.edge_costs) c.args.lag))
    (leaves c.args.function.now c.args.target) c.args.most
    (sym c.is_out.ensures ∙ c.if-is_out.false)
