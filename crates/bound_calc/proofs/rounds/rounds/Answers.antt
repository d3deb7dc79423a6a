use Rattle.region_tree.specs.Walk.{IsOwn}
use Rattle.bound_calc.specs.Best.{Either, IsBest, Stays}
use Rattle.bound_calc.specs.Matrices.{entry}
use Rattle.bound_calc.specs.Propagation.{over, costs_on}
use Rattle.bound_calc.specs.Section.{net}
use Rattle.bound_calc.specs.PathCosts.{Round}
use Rattle.bound_calc.proofs.BestLaws.{best-either}
use Rattle.bound_calc.proofs.PowerLaws.{power-best}
use Rattle.bound_calc.proofs.TurnLaws.{base-lands}
use Rattle.bound_calc.proofs.rounds.rounds.Goals as goal
use Rattle.bound_calc.proofs.rounds.rounds.Goals.{After-join-base}

-- at most one round
base : (c : After-join-base) →
    IsBest (entry c.join-base.result) (Either (Stays (IsOwn c.args.steps.now))
    (Round (net (over c.args.tree.now c.args.steps.now (costs_on c.args.word_costs.now))) c.args.j))
base c = best-either c.one.ensures.one c.in_ok-back.ensures.round c.join-base.ensures.best

pub power-requires : goal.power-requires
power-requires c = record {
  lands =
      base-lands c.args.tree.now c.args.steps.now (costs_on c.args.word_costs.now)
      c.args.j c.join-base.result c.back_at_head.ensures.rules c.requires.own
      (base (goal.at.power-requires c).After-join-base);
}

pub returns-clause-rounds : goal.returns-clause-rounds
returns-clause-rounds c =
    power-best (IsOwn c.args.steps.now) (Either (Stays (IsOwn c.args.steps.now))
    (Round (net (over c.args.tree.now c.args.steps.now (costs_on c.args.word_costs.now))) c.args.j))
    (entry c.join-base.result) (entry c.power.result) c.args.j.limit
    (base (goal.at.returns-clause-rounds c).After-join-base) c.power.ensures
