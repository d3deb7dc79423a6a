use Rattle.std.proofs.Common.{subst, sym}
use Rattle.bound_calc.specs.Propagation.{IsOut}
use Rattle.bound_calc.proofs.MostLaws.{out-left}
use Rattle.bound_calc.proofs.PassLaws.{hops-positions}
use Rattle.bound_calc.proofs.cycle_bound.most_out.Goals as goal

pub largest_advanced-requires : goal.largest_advanced-requires
largest_advanced-requires c = record {
  positions =
      hops-positions c.args.steps.now c.args.lag c.hops.result.now.hops c.hops.ensures.frame
      c.hops.ensures.hops;
}

pub returns-then-out : goal.returns-then-out
returns-then-out c =
    subst (λ out. IsOut c.args.steps.now c.args.here.now out c.args.lag c.args.most
    c.largest_advanced.result)
    (sym c.if-out.true) (out-left c.args.steps.now c.args.here.now c.hops.result.now.hops c.args.lag
    c.args.most c.largest_advanced.result c.hops.ensures.hops c.largest_advanced.ensures)
