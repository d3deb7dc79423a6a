use Rattle.std.proofs.Common.{subst}
use Rattle.std.proofs.lemmas.Result.{on_ok_weaker}
use Rattle.std.specs.Option.{option_map}
use Rattle.bound_calc.specs.Best.{In, Then}
use Rattle.bound_calc.specs.Matrices.{entry}
use Rattle.bound_calc.specs.Propagation.{IsBrought, IsLed, abstract_frontier, move_costs, up_of}
use Rattle.bound_calc.proofs.PassLaws.{led-on}
use Rattle.bound_calc.proofs.pass.follow_edges.Goals as goal

pub returns : goal.returns
returns c =
    let t = c.args.tree.now in
    let o = c.args.steps.now in
    let k = c.args.index in
    let old = abstract_frontier c.args.frontier.now in
    let mid = abstract_frontier c.go_on.new.frontier in
    let edge_costs = option_map (λ m. m.now) c.args.edge_costs in
    let next =
    subst (λ e. IsLed o edge_costs (up_of t k c.args.last e.next) e.next_lag k old mid)
    c.requires.edges
    (subst (λ n. IsLed o edge_costs n c.args.edges.now.next_lag k old mid)
    c.up_to-next.ensures c.in_ok-go_on.ensures) in
    on_ok_weaker c.bring.result
    (λ b. led-on t o edge_costs k c.args.last old mid (abstract_frontier c.bring.new.frontier) next
    (subst (λ e. IsBrought (up_of t k c.args.last e.jump)
    (Then (In (entry mid.base)) (move_costs o edge_costs 3)) mid (abstract_frontier
    c.bring.new.frontier))
    c.requires.edges (subst (λ n. IsBrought n (Then (In (entry mid.base)) (move_costs o
    edge_costs 3)) mid
    (abstract_frontier c.bring.new.frontier)) c.up_to-jump.ensures b))) c.bring.ensures
