use Rattle.std.proofs.Common.{None, Some, arith, refl, replicate, slice_set, subst, sym}
use Rattle.bound_calc.specs.Best.{IsBest, Stays}
use Rattle.bound_calc.specs.Matrices.{entry}
use Rattle.bound_calc.specs.Propagation.{scope_of, over}
use Rattle.bound_calc.proofs.PassLaws.{begun, still}
use Rattle.bound_calc.proofs.pass.begin.Goals as goal
use Rattle.region_tree.specs.Walk.{IsOwn}

pub returns : goal.returns
returns c =
    λ word_costs part k low.
    let t = c.args.tree.now in
    let o = c.args.steps.now in
    let waiting = c.clear.new.frontier.waiting.items in
    begun t o word_costs (scope_of (over t o word_costs) c.args.around) c.span_of-span.result.first
    c.span_of-span.result.last k waiting c.in_ok-new.field-0 (record {
      waiting = slice_set waiting c.span_of-span.result.first (Some c.in_ok-new.field-0);
      base = c.clear.new.frontier.base.value;
      hops = replicate 8 None;
    })
    c.span_of-span.ensures.rules part (c.span_of-span.ensures.span o word_costs) low
    (omega (arith, c.clear.ensures.count, c.requires.room)) c.clear.ensures.none
    (subst (λ m. IsBest (entry m) (Stays (IsOwn o))) (sym c.in_ok-new.ensures.ok) c.one.ensures.one)
    refl still
