use Rattle.std.proofs.Common.{◌≤◌, subst, sym}
use Rattle.std.proofs.lemmas.Result.{on_ok_weaker}
use Rattle.bound_calc.specs.Propagation.{abstract_frontier}
use Rattle.bound_calc.proofs.PassLaws.{lag-small}
use Rattle.bound_calc.proofs.pass.process_word.Goals as goal

pub follow_edges-requires-clause-lag : goal.follow_edges-requires-clause-lag
follow_edges-requires-clause-lag c =
    subst (λ e. e.next_lag ≤ 3) (sym c.edges_at-edges.ensures)
    (lag-small c.args.tree.now c.args.index)

pub returns : goal.returns
returns c =
    on_ok_weaker c.follow_edges.result (λ gone.
    (abstract_frontier c.arrive.new.frontier, c.in_ok-arrive.ensures, gone)) c.follow_edges.ensures
