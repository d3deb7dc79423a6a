use Rattle.std.proofs.Common.{◌+◌, ◌≤◌, None, arith, refl, subst, sym}
use Rattle.region_tree.specs.Search.{address}
use Rattle.bound_calc.specs.Best.{IsBest}
use Rattle.bound_calc.specs.Hops.{IsLeft}
use Rattle.bound_calc.specs.Matrices.{entry}
use Rattle.bound_calc.specs.Propagation.{IsArrived, IsFrontier, IsMost, IsMostFrom}
use Rattle.bound_calc.specs.Propagation.{IsSkipped, IsStraight, FrontierCosts, edges_at}
use Rattle.bound_calc.specs.Propagation.{abstract_frontier, over, power_at, walks}
use Rattle.bound_calc.specs.Section.{net, whole}
use Rattle.bound_calc.specs.PathCosts.{Reaches}
use Rattle.bound_calc.proofs.MostLaws.{most-all, most-first, most-more}
use Rattle.bound_calc.proofs.MostLaws.{most-straight, no-word_costs, turns-are, turns-best}
use Rattle.bound_calc.proofs.PassLaws.{arrived, gone, lag-small, read-power}
use Rattle.bound_calc.proofs.PassLaws.{skipped, span-count, straight}
use Rattle.bound_calc.proofs.cycle_bound.most.Goals as goal
use Rattle.bound_calc.proofs.cycle_bound.most.Goals.{then-is_straight}
use Rattle.bound_calc.proofs.cycle_bound.most.Goals.{else-is_straight+in_ok-process_word}

pub loop-index-init : goal.loop-index-init
loop-index-init c = record {
  frontier = c.in_ok-begin.ensures no-word_costs c.requires.ready.part 0 (omega arith);
  most = most-first (walks c.args.tree.now c.args.steps.now) c.args.tree.now c.requires.slot;
}

pub skip-requires-clause-lag : goal.skip-requires-clause-lag
skip-requires-clause-lag c =
    subst (λ e. e.next_lag ≤ 3) (sym c.edges_at-edges.ensures)
    (lag-small c.args.tree.now c.loop-index.index)

pub most_from-most-requires : goal.most_from-most-requires
most_from-most-requires c = record {
  lag =
      subst (λ e. e.next_lag ≤ 3) (sym c.edges_at-edges.ensures)
      (lag-small c.args.tree.now c.loop-index.index);
}

pub loop-index-preserved : goal.loop-index-preserved
loop-index-preserved c =
    let t = c.args.tree.now in
    let o = c.args.steps.now in
    let x = over t o no-word_costs in
    let s = whole x in
    let k = c.loop-index.index in
    let first = c.span_of-last.result.first in
    let last = c.span_of-last.result.last in
    let powers = c.args.powers.now in
    let f = abstract_frontier c.loop-index.frontier in
    let is = c.requires.tree in
    let sp = c.span_of-last.ensures.span o no-word_costs in
    elim c.if-is_straight.branch [
      | then-is_straight w ↦
          let z = subst (λ p. IsStraight t (edges_at t k) k last None p f)
          (sym (read-power powers k c.index-powers-index.result c.index-powers-index.is
          (omega (arith, c.requires.ready.count, sp.inside)))) (w.if-is_straight.ensures.0 refl) in
          let g = subst (λ e. IsSkipped o e.next_lag f (abstract_frontier w.skip.new.frontier))
          c.edges_at-edges.ensures w.skip.ensures in
          let best = turns-are t o (FrontierCosts f) (address t k)
          (straight t o no-word_costs s k f powers is c.requires.ready
          c.loop-index.invariant.frontier
          (omega (arith, sp.within)) (omega (arith, sp.inside)) z.no_power z.waits) in
          let l = subst (λ m. IsLeft m f.hops c.loop-index.most w.largest_advanced-most.result)
          w.deref.ensures w.largest_advanced-most.ensures in
          record {
            frontier =
                subst (λ n. IsFrontier x t s (k + 1) (abstract_frontier n)) (sym w.frontier-is)
                (skipped t o no-word_costs s first last k f
                (abstract_frontier w.skip.new.frontier) powers is c.requires.ready sp
                (omega (arith, sp.low)) (omega arith) c.loop-index.invariant.frontier z g);
            most =
                subst (λ n. IsMost (walks t o) t (k + 1) n) (sym w.most-is)
                (most-straight t o k last None (power_at powers k) f c.loop-index.most
                w.largest_advanced-most.result is sp.inside best z c.loop-index.invariant.most l);
          }
      | else-is_straight+in_ok-process_word w ↦
          let here = w.in_ok-process_word.ensures.0 in
          let new = abstract_frontier w.process_word.new.frontier in
          let g = w.in_ok-process_word.ensures.2 in
          let r = w.index-powers-index-else-is_straight in
          let a = subst (λ p. IsArrived p k f here) (sym (read-power powers k r.result r.is
          (omega (arith, c.requires.ready.count, sp.inside)))) w.in_ok-process_word.ensures.1 in
          let best = turns-best t o (entry new.base) (address t k)
          (subst (λ m. IsBest (entry m) (Reaches (net x) s (address t k))) (sym g.base)
          (arrived t o no-word_costs s k f here powers is c.requires.ready
          c.loop-index.invariant.frontier
          (omega (arith, sp.low)) (omega (arith, sp.within)) (omega (arith, sp.inside)) a)) in
          let m = subst (λ e. IsMostFrom t o new.base e c.loop-index.most w.most_from-most.result)
          c.edges_at-edges.ensures
          (subst (λ b. IsMostFrom t o b c.edges_at-edges.result c.loop-index.most
          w.most_from-most.result) w.deref-else-is_straight.ensures w.most_from-most.ensures) in
          record {
            frontier =
                subst (λ n. IsFrontier x t s (k + 1) (abstract_frontier n)) (sym w.frontier-is)
                (gone t o no-word_costs s first last k f here new powers is c.requires.ready sp
                (omega (arith, sp.low)) (omega arith) c.loop-index.invariant.frontier a g);
            most =
                subst (λ n. IsMost (walks t o) t (k + 1) n) (sym w.most-is)
                (most-more t o k new.base c.loop-index.most w.most_from-most.result best
                c.loop-index.invariant.most m);
          }
    ]

pub returns : goal.returns
returns c =
    let sp = c.span_of-last.ensures.span c.args.steps.now no-word_costs in
    most-all c.args.tree.now c.args.steps.now c.loop-index.index c.loop-index.most c.requires.tree
    c.requires.frame (omega (
      arith,
      span-count c.args.tree.now c.args.steps.now no-word_costs c.span_of-last.result.first
          c.span_of-last.result.last c.requires.tree sp,
    )) c.loop-index.invariant.most
