use Rattle.std.proofs.Common.{◌<◌, length, length-set, slice_set, subst, sym, IfSome}
use Rattle.std.specs.Box.{with_value}
use Rattle.std.specs.Option.{option_map}
use Rattle.bound_calc.specs.Best.{Either, In, IsBest, Then}
use Rattle.bound_calc.specs.Matrices.{entry}
use Rattle.bound_calc.specs.Propagation.{IsBrought, abstract_frontier, move_costs}
use Rattle.bound_calc.proofs.PassLaws.{brought-none, is-brought, read-power, waits-set}
use Rattle.bound_calc.proofs.pass.bring.Goals as goal

pub returns-in_default : goal.returns-in_default
returns-in_default c =
    let frontier = abstract_frontier c.args.frontier.now in
    let f = Then (In (entry frontier.base))
    (move_costs c.args.steps.now (option_map (λ m. m.now) c.args.edge_costs) c.args.lag) in
    subst (λ to. IsBrought to f frontier frontier) (sym c.in_default.is) (brought-none f frontier)

pub returns : goal.returns
returns c =
    let k = c.in-Some.to in
    let frontier = abstract_frontier c.args.frontier.now in
    let move = move_costs c.args.steps.now (option_map (λ m. m.now) c.args.edge_costs) c.args.lag in
    let lt = subst (λ o. IfSome o (λ k. k < length frontier.waiting)) c.in-Some.is
    c.requires.within in
    let there = c.in_ok-there.there in
    is-brought c.args.to k there.value (with_value there c.join_along.new.onto)
    (Then (In (entry frontier.base)) move) frontier (slice_set frontier.waiting k
    c.take.new.waiting)
    _ c.in-Some.is lt (λ w ne. waits-set frontier.waiting k w c.take.new.waiting ne)
    (length-set frontier.waiting k c.take.new.waiting)
    (read-power frontier.waiting k c.index_mut.result.now c.index_mut.ensures.value lt)
    c.in_ok-there.ensures.taken (subst (λ m. IsBest (entry c.join_along.new.onto)
    (Either (In (entry m)) (Then (In (entry frontier.base)) move))) c.deref_mut.ensures.value
    (subst (λ b. IsBest (entry c.join_along.new.onto) (Either (In (entry c.deref_mut.result.now))
    (Then (In (entry b)) move))) c.deref.ensures c.join_along.ensures))
