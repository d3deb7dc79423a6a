use Rattle.std.proofs.Common.{sym, subst}
use Rattle.std.specs.Option.{option_map}
use Rattle.bound_calc.specs.Best.{Either, In, IsBest, Then}
use Rattle.bound_calc.specs.Matrices.{entry}
use Rattle.bound_calc.specs.Propagation.{move_costs}
use Rattle.bound_calc.proofs.PassLaws.{hops-positions, with-steps}
use Rattle.bound_calc.proofs.pass.join_along.Goals as goal

pub join_advanced-requires : goal.join_advanced-requires
join_advanced-requires c = record {
  positions =
      hops-positions c.args.steps.now c.args.lag c.hops.result.now.hops c.hops.ensures.frame
      c.hops.ensures.hops;
}

pub returns-in-None : goal.returns-in-None
returns-in-None c =
    subst (λ w. IsBest (entry c.join_advanced.new.onto) (Either (In (entry c.args.onto.now)) (Then
    (In
    (entry c.args.here.now)) (move_costs c.args.steps.now (option_map (λ m. m.now) w) c.args.lag))))
    (sym c.in-None.is) (with-steps c.hops.ensures.hops c.join_advanced.ensures)

pub returns-in-Some : goal.returns-in-Some
returns-in-Some c =
    subst (λ w. IsBest (entry c.join_chain.new.self) (Either (In (entry c.args.onto.now)) (Then (In
    (entry c.args.here.now)) (move_costs c.args.steps.now (option_map (λ m. m.now) w) c.args.lag))))
    (sym c.in-Some.is) c.join_chain.ensures
