use Rattle.std.proofs.Common.{ap, ◌∙◌, Some}
use Rattle.std.specs.Option.{option_map}
use Rattle.bound_calc.specs.Propagation.{move_costs}
use Rattle.bound_calc.proofs.TurnLaws.{is-turned}
use Rattle.bound_calc.proofs.rounds.turn.Goals as goal

pub returns-in-Some : goal.returns-in-Some
returns-in-Some c =
    is-turned (move_costs c.args.steps.now (option_map (λ m. m.now) c.args.edge_costs) c.args.lag)
    c.args.back.now c.args.here.now c.join_along.new.onto c.args.target c.args.head
    (c.in-Some.is ∙ ap Some c.if-to-head.true) c.join_along.ensures
