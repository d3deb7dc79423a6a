use Rattle.std.proofs.Common.{◌≡◌, ◌≤◌, Option, ap, arith, length, subst, sym}
use Rattle.std.specs.Option.{option_map}
use Rattle.region_tree.specs.declared.section.Section.{Section}
use Rattle.bound_calc.specs.Matrices.{entry}
use Rattle.bound_calc.specs.Propagation.{edges_at, costs_on}
use Rattle.bound_calc.specs.Tops.{IsTop}
use Rattle.bound_calc.specs.declared.matrix.Matrix.{Matrix}
use Rattle.bound_calc.specs.Passing.{here}
use Rattle.bound_calc.proofs.PassLaws.{lag-small}
use Rattle.call_bounds.specs.Tops.{EndsFrom, IsMostBelow}
use Rattle.call_bounds.proofs.TopLaws.{most-more, most-none}
use Rattle.call_bounds.proofs.bound.most_over.Goals as goal

pub loop-index-init : goal.loop-index-init
loop-index-init c = record {
  pass = c.in_ok-pass.ensures.start;
  most = most-none c.args.function.now c.args.steps.now (costs_on c.args.word_costs.now)
      (costs_on c.args.into.now);
}

pub loop-index-preserved : goal.loop-index-preserved
loop-index-preserved c =
    let t = c.args.function.now in
    let o = c.args.steps.now in
    let word_costs = costs_on c.args.word_costs.now in
    let into = costs_on c.args.into.now in
    let k = c.loop-index.index in
    let old = c.loop-index.most in
    let new = c.most_at-most.result in
    record {
      pass = c.in_ok-visit.ensures.after;
      most =
          most-more t o word_costs into k old new (here c.visit.new.self)
          c.loop-index.invariant.most
          c.in_ok-visit.ensures.here
          (subst (λ m. IsTop (EndsFrom t o (word_costs k) (into k) (edges_at t k) (entry
          m)) old new)
          c.here.ensures (subst (λ e. IsTop (EndsFrom t o (word_costs k) (into k) e
          (entry c.here.result.now)) old new) c.edges_at-edges.ensures
          (subst (λ (w : Option Matrix). IsTop (EndsFrom t o (word_costs k) w
          c.edges_at-edges.result
          (entry c.here.result.now)) old new) c.at.ensures
          (subst (λ (w : Option Matrix). IsTop (EndsFrom t o w
          (option_map (λ m. m.now) c.at.result) c.edges_at-edges.result
          (entry c.here.result.now)) old new) c.at-edge_costs.ensures c.most_at-most.ensures))));
    }

pub most_at-most-requires : goal.most_at-most-requires
most_at-most-requires c = record {
  lag =
      subst (λ e. e.next_lag ≤ 3) (sym c.edges_at-edges.ensures)
      (lag-small c.args.function.now c.loop-index.index);
}

pub returns-clause-most : goal.returns-clause-most
returns-clause-most c =
    let t = c.args.function.now in
    let r = c.section-section.result in
    let words = c.section-section.ensures.rules.draft.words in
    let from : r.from ≡ t.section.from =
    ap (λ (s : Section). s.from) c.section-section.ensures.value in
    let to : r.to ≡ t.section.to = ap (λ (s : Section). s.to) c.section-section.ensures.value in
    let all : c.loop-index.index ≡ length t.words =
    omega (arith, c.loop-index-test.false, c.loop-index.auto.index-end) in
    subst (λ n. IsMostBelow t c.args.steps.now (costs_on c.args.word_costs.now)
    (costs_on c.args.into.now) n c.loop-index.most) all c.loop-index.invariant.most
