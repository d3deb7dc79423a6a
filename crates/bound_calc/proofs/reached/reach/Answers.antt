use Rattle.std.proofs.Common.{◌+◌, ◌<◌, arith, ap, length, subst, sym, ◌∙◌}
use Rattle.std.proofs.lemmas.List.{length_push}
use Rattle.bound_calc.specs.Best.{IsBest}
use Rattle.bound_calc.specs.Matrices.{entry}
use Rattle.bound_calc.specs.Passing.{ReachesAt}
use Rattle.bound_calc.specs.Propagation.{matrix_at, costs_on}
use Rattle.bound_calc.proofs.PassLaws.{reach-more, span-count}
use Rattle.bound_calc.proofs.reached.reach.Goals as goal

pub loop-index-init : goal.loop-index-init
loop-index-init c = record {
  pass = c.in_ok-pass.ensures.start;
  count = ap length c.in_ok-at.ensures.items;
  best = λ k lt. absurd (omega arith);
}

pub visit-requires-clause-inside : goal.visit-requires-clause-inside
visit-requires-clause-inside c = omega (
  arith,
  span-count c.args.tree.now c.args.steps.now (costs_on c.args.word_costs.now)
      c.span_of-count.result.first c.span_of-count.result.last c.span_of-count.ensures.rules
      (c.span_of-count.ensures.span c.args.steps.now (costs_on c.args.word_costs.now)),
)

pub loop-index-preserved : goal.loop-index-preserved
loop-index-preserved c =
    let t = c.args.tree.now in
    let o = c.args.steps.now in
    let h = costs_on c.args.word_costs.now in
    let k = c.loop-index.index in
    let pushed = c.in_ok-push.ensures.items in
    record {
      pass = c.in_ok-visit.ensures.after;
      count =
          ap length pushed ∙ (length_push c.loop-index.at.items c.here.result.now
          ∙ ap (λ n. n + 1) c.loop-index.invariant.count);
      best =
          subst (λ l. (i : _) → i < k + 1 → IsBest (matrix_at l i) (ReachesAt t o h i)) (sym pushed)
          (reach-more c.loop-index.at.items k c.here.result.now (λ i. ReachesAt t o h i)
          c.loop-index.invariant.count c.loop-index.invariant.best
          (subst (λ m. IsBest (entry m) (ReachesAt t o h k)) (sym c.here.ensures)
          c.in_ok-visit.ensures.here));
    }

pub returns-clause-reached : goal.returns-clause-reached
returns-clause-reached c =
    let count = span-count c.args.tree.now c.args.steps.now (costs_on c.args.word_costs.now)
    c.span_of-count.result.first c.span_of-count.result.last c.span_of-count.ensures.rules
    (c.span_of-count.ensures.span c.args.steps.now (costs_on c.args.word_costs.now)) in
    record {
      count = omega (arith, c.loop-index.invariant.count);
      best = λ k lt. c.loop-index.invariant.best k (omega arith);
    }
