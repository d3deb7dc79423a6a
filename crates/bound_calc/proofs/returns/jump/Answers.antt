use Rattle.bound_calc.proofs.PassLaws.{hops-positions}
use Rattle.bound_calc.proofs.ThroughLaws.{jump-best}
use Rattle.bound_calc.proofs.returns.jump.Goals as goal

pub join_advanced-requires : goal.join_advanced-requires
join_advanced-requires c = record {
  positions =
      hops-positions c.args.steps.now 3 c.hops.result.now.hops c.hops.ensures.frame
      c.hops.ensures.hops;
}

pub returns : goal.returns
returns c =
    jump-best c.args.steps.now c.one.result.now c.hops.result.now.hops c.join_advanced.new.onto
    c.one.ensures.one c.hops.ensures.hops c.join_advanced.ensures
