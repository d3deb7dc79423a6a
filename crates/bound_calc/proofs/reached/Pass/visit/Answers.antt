use Rattle.std.proofs.Common.{arith, subst, sym}
use Rattle.bound_calc.specs.Best.{IsBest}
use Rattle.bound_calc.specs.Matrices.{entry}
use Rattle.bound_calc.specs.Passing.{ReachesAt}
use Rattle.bound_calc.specs.Propagation.{IsArrived, IsGone, abstract_frontier, edges_at, over}
use Rattle.bound_calc.specs.Propagation.{costs_on}
use Rattle.bound_calc.specs.Section.{whole}
use Rattle.bound_calc.proofs.PassLaws.{arrived, gone, read-power, span-count}
use Rattle.bound_calc.proofs.reached.Pass.visit.Goals as goal

pub process_word-requires-clause-order : goal.process_word-requires-clause-order
process_word-requires-clause-order c = omega (
  arith,
  c.requires.inside,
  span-count c.args.tree.now c.args.steps.now (costs_on c.args.word_costs.now)
      c.span_of-last.result.first c.span_of-last.result.last c.requires.tree
      (c.span_of-last.ensures.span c.args.steps.now (costs_on c.args.word_costs.now)),
)

pub returns : goal.returns
returns c =
    let t = c.args.tree.now in
    let o = c.args.steps.now in
    let h = costs_on c.args.word_costs.now in
    let s = whole (over t o h) in
    let k = c.args.index in
    let first = c.span_of-last.result.first in
    let last = c.span_of-last.result.last in
    let powers = c.args.self.now.powers.items in
    let p = c.requires.before in
    let f = abstract_frontier c.args.self.now.frontier in
    let here = c.in_ok-process_word.ensures.0 in
    let new = abstract_frontier c.process_word.new.frontier in
    let sp = c.span_of-last.ensures.span o h in
    let count = span-count t o h first last c.requires.tree sp in
    let a = subst (λ p. IsArrived p k f here) (sym (read-power powers k c.index-power.result.now
    c.index-power.ensures (omega (arith, p.ready.count, c.requires.inside))))
    c.in_ok-process_word.ensures.1 in
    let g = subst (λ y. IsGone t o y (edges_at t k) k last here new)
    c.at-edge_costs.ensures c.in_ok-process_word.ensures.2 in
    record {
      after = record {
        ready = p.ready;
        frontier =
            gone t o h s first last k f here new powers c.requires.tree p.ready sp
            (omega (arith, sp.low)) (omega (arith, count, c.requires.inside)) p.frontier a g;
      };
      here =
          subst (λ m. IsBest (entry m) (ReachesAt t o h k)) (sym g.base)
          (arrived t o h s k f here powers c.requires.tree p.ready p.frontier
          (omega (arith, sp.low)) (omega (arith, sp.within, count, c.requires.inside))
          c.requires.inside a);
    }
