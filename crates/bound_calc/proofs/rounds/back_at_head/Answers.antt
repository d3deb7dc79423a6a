use Rattle.std.proofs.Common.{ℕ, Option, ◌+◌, ◌≤◌, arith, ap, ◌∙◌, refl, subst, sym}
use Rattle.std.specs.Option.{option_map}
use Rattle.region_tree.specs.Search.{address}
use Rattle.region_tree.specs.Walk.{Positions}
use Rattle.region_tree.specs.declared.edges.Edges.{Edges}
use Rattle.bound_calc.specs.declared.matrix.Matrix.{Matrix}
use Rattle.region_tree.proofs.GraphLaws.{address-index}
use Rattle.bound_calc.specs.Best.{IsBest}
use Rattle.bound_calc.specs.Context.{body}
use Rattle.bound_calc.specs.Matrices.{entry}
use Rattle.bound_calc.specs.Pass.{Below, Turns}
use Rattle.bound_calc.specs.Propagation.{IsArrived, IsFrontier, IsGone, IsSkipped}
use Rattle.bound_calc.specs.Propagation.{IsStraight, IsTurned, edges_at, abstract_frontier}
use Rattle.bound_calc.specs.Propagation.{move_costs, over, power_at, costs_on}
use Rattle.bound_calc.specs.Section.{net}
use Rattle.bound_calc.specs.PathCosts.{Reaches}
use Rattle.bound_calc.proofs.PassLaws.{arrived, gone, lag-small, none-entry, read-power, skipped}
use Rattle.bound_calc.proofs.TurnLaws.{turned, turns-done, turns-none, turns-straight, turns-word}
use Rattle.bound_calc.proofs.rounds.back_at_head.Goals as goal
use Rattle.bound_calc.proofs.rounds.back_at_head.Goals.{then-is_straight}
use Rattle.bound_calc.proofs.rounds.back_at_head.Goals.{else-is_straight+in_ok-process_word}

-- both edges of a word were taken back to a head
abbrev TurnedBy : Positions → Option Matrix → Edges → Matrix → Matrix → ℕ → Matrix → Type 0
TurnedBy o edge_costs e back here head new =
    (mid : Matrix) × IsTurned (move_costs o edge_costs e.next_lag) back here e.next head mid
    × IsTurned (move_costs o edge_costs 3) mid here e.jump head new

pub loop-index-init : goal.loop-index-init
loop-index-init c =
    let sp = c.span_of-span.ensures.span c.args.steps.now (costs_on c.args.word_costs.now) in
    record {
      frontier =
          c.in_ok-begin.ensures (costs_on c.args.word_costs.now) c.requires.ready.part
          c.span_of-span.result.first sp.low;
      back =
          turns-none c.args.j (address c.args.tree.now c.span_of-span.result.first) sp.low
          c.requires.ready.part none-entry;
    }

pub skip-requires-clause-lag : goal.skip-requires-clause-lag
skip-requires-clause-lag c =
    subst (λ e. e.next_lag ≤ 3) (sym c.edges_at-edges.ensures)
    (lag-small c.args.tree.now c.loop-index.index)

pub turn_edges-requires : goal.turn_edges-requires
turn_edges-requires c = record {
  lag =
      subst (λ e. e.next_lag ≤ 3) (sym c.edges_at-edges.ensures)
      (lag-small c.args.tree.now c.loop-index.index);
}

pub loop-index-preserved : goal.loop-index-preserved
loop-index-preserved c =
    let t = c.args.tree.now in
    let o = c.args.steps.now in
    let h = costs_on c.args.word_costs.now in
    let x = over t o h in
    let s = body (net x) c.args.j in
    let k = c.loop-index.index in
    let first = c.span_of-span.result.first in
    let last = c.span_of-span.result.last in
    let powers = c.args.powers.now in
    let f = abstract_frontier c.loop-index.frontier in
    let is = c.span_of-span.ensures.rules in
    let sp = c.span_of-span.ensures.span o h in
    let edge_costs = ap (λ n. h n) (address-index t k) ∙ sym c.at-edge_costs.ensures in
    elim c.if-is_straight.branch [
      | then-is_straight w ↦
          let z = subst (λ p. IsStraight t (edges_at t k) k last (h k) p f)
          (sym (read-power powers k c.index-powers-index.result c.index-powers-index.is
          (omega (arith, c.requires.ready.count, sp.inside))))
          (subst (λ y. IsStraight t (edges_at t k) k last y (option_map (λ b. b.value)
          c.index-powers-index.result) f) c.at-edge_costs.ensures (w.if-is_straight.ensures.0 refl))
          in
          let g = subst (λ e. IsSkipped o e.next_lag f (abstract_frontier w.skip.new.frontier))
          c.edges_at-edges.ensures w.skip.ensures in
          record {
            frontier =
                subst (λ n. IsFrontier x t s (k + 1) (abstract_frontier n)) (sym w.frontier-is)
                (skipped t o h s first last k f (abstract_frontier w.skip.new.frontier) powers is
                c.requires.ready sp (omega arith) (omega arith) c.loop-index.invariant.frontier z
                g);
            back =
                subst (λ b. IsBest (entry b) (Turns x c.args.j (Below x (address t (k + 1)))))
                (sym w.back-is) (turns-straight t o h c.args.j k last (h k)
                (power_at powers k) f is c.requires.reached c.requires.ready.part
                (omega (arith, sp.low)) z c.loop-index.invariant.back);
          }
      | else-is_straight+in_ok-process_word w ↦
          let here = w.in_ok-process_word.ensures.0 in
          let new = abstract_frontier w.process_word.new.frontier in
          let r = w.index-powers-index-else-is_straight in
          let a = subst (λ p. IsArrived p k f here) (sym (read-power powers k r.result r.is
          (omega (arith, c.requires.ready.count, sp.inside)))) w.in_ok-process_word.ensures.1 in
          let g = subst (λ y. IsGone t o y (edges_at t k) k last here new)
          c.at-edge_costs.ensures w.in_ok-process_word.ensures.2 in
          let best = subst (λ m. IsBest (entry m) (Reaches (net x) s (address t k))) (sym g.base)
          (arrived t o h s k f here powers is c.requires.ready c.loop-index.invariant.frontier
          (omega (arith, sp.low)) (omega (arith, sp.within)) (omega (arith, sp.inside)) a) in
          let turns = subst (λ y. TurnedBy o y
          (edges_at t k) c.loop-index.back new.base c.args.j.head w.turn_edges.new.back)
          (sym edge_costs)
          (subst (λ e. TurnedBy o (option_map (λ m. m.now) c.at-edge_costs.result) e
          c.loop-index.back
          new.base c.args.j.head w.turn_edges.new.back) c.edges_at-edges.ensures
          (subst (λ m. TurnedBy o (option_map (λ m. m.now) c.at-edge_costs.result)
          c.edges_at-edges.result c.loop-index.back m c.args.j.head w.turn_edges.new.back)
          w.deref.ensures w.turn_edges.ensures)) in
          record {
            frontier =
                subst (λ n. IsFrontier x t s (k + 1) (abstract_frontier n)) (sym w.frontier-is)
                (gone t o h s first last k f here new powers is c.requires.ready sp (omega arith)
                (omega arith) c.loop-index.invariant.frontier a g);
            back =
                subst (λ b. IsBest (entry b) (Turns x c.args.j (Below x (address t (k + 1)))))
                (sym w.back-is)
                (turns-word t o h c.args.j k is c.requires.reached c.requires.ready.part
                (turned c.args.j (address t k) (edges_at t k).jump 3 c.requires.reached
                c.requires.ready.part best turns.2 (turned c.args.j (address t k)
                (edges_at t k).next (edges_at t k).next_lag c.requires.reached c.requires.ready.part
                best turns.1 c.loop-index.invariant.back)));
          }
    ]

pub returns-clause-round : goal.returns-clause-round
returns-clause-round c =
    let sp = c.span_of-span.ensures.span c.args.steps.now (costs_on c.args.word_costs.now) in
    turns-done c.args.tree.now c.args.steps.now (costs_on c.args.word_costs.now) c.args.j
    c.span_of-span.result.first c.span_of-span.result.last c.loop-index.index
    c.span_of-span.ensures.rules c.requires.reached c.requires.known c.requires.ready.part sp
    (omega arith) c.loop-index.invariant.back
