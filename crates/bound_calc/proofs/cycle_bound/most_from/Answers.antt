use Rattle.std.proofs.Common.{subst}
use Rattle.bound_calc.specs.Propagation.{IsOut}
use Rattle.bound_calc.proofs.cycle_bound.most_from.Goals as goal

pub returns : goal.returns
returns c =
    let o = c.args.steps.now in
    let here = c.args.here.now in
    record {
      inner = c.largest-inside.result;
      next = c.most_out-next.result;
      largest = c.largest-inside.ensures;
      by_next =
          subst (λ out. IsOut o here out c.args.edges.now.next_lag c.largest-inside.result
          c.most_out-next.result) c.is_out-out.ensures c.most_out-next.ensures;
      by_jump =
          subst (λ out. IsOut o here out 3 c.most_out-next.result c.most_out.result)
          c.is_out.ensures c.most_out.ensures;
    }
