use Rattle.std.proofs.Common.{Option, refl, subst, sym, Bor}
use Rattle.std.proofs.lemmas.Result.{on_ok_weaker}
use Rattle.std.specs.Option.{option_map}
use Rattle.bound_calc.specs.Propagation.{IsLed, abstract_frontier}
use Rattle.bound_calc.specs.declared.matrix.Matrix.{Matrix}
use Rattle.bound_calc.proofs.PassLaws.{led-turns, led-waits, no-option}
use Rattle.bound_calc.proofs.pass.go_on.Goals as goal

pub returns-then-is_index : goal.returns-then-is_index
returns-then-is_index c =
    let old = abstract_frontier c.args.frontier.now in
    subst (λ (w : Option (Bor Matrix)).
    IsLed c.args.steps.now (option_map (λ m. m.now) w) c.args.next c.args.lag c.args.index old
    (record { waiting = old.waiting; base = old.base; hops = c.hops.result.now.hops }))
    (sym (no-option c.args.edge_costs c.if-is_none.ensures))
    (led-turns c.args.steps.now c.args.next c.args.lag c.args.index old c.hops.result.now
    c.requires.lag c.hops.ensures.frame c.hops.ensures.hops (c.if-is_index.ensures.0 refl))

pub returns : goal.returns
returns c =
    on_ok_weaker c.bring.result (λ b. led-waits c.args.steps.now
    (option_map (λ m. m.now) c.args.edge_costs) c.args.next c.args.lag c.args.index
    (abstract_frontier c.args.frontier.now) (abstract_frontier c.bring.new.frontier) b)
    c.bring.ensures
