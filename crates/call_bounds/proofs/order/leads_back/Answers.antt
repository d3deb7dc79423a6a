use Rattle.std.proofs.Common.{◌≡◌, ◌↔◌, ◌∙◌, arith, false, subst, sym, true}
use Rattle.std.proofs.lemmas.List.{get_or_default}
use Rattle.call_bounds.specs.Reachability.{IsExact, IsCalled, is_met}
use Rattle.call_bounds.proofs.order.leads_back.Goals as goal

pub returns : goal.returns
returns c =
    let led = c.in_ok-led.led.items in
    let e : IsExact c.args.count c.args.table.now c.args.function led = c.in_ok-led.ensures in
    let met : is_met led c.args.function ≡ c.index.result.now = get_or_default led c.args.function
    false c.index.result.now (omega (arith, c.requires.function, e.count)) ∙ sym c.index.ensures in
    subst (λ b. (b ≡ true) ↔ IsCalled c.args.count c.args.table.now c.args.function
    c.args.function) met
    (e.exact c.args.function)
