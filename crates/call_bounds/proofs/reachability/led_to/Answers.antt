use Rattle.std.proofs.Common.{subst}
use Rattle.call_bounds.proofs.ReachabilityLaws.{Marks, exact, goes-on, goes-start}
use Rattle.call_bounds.proofs.reachability.led_to.Goals as goal

pub loop-changed-init : goal.loop-changed-init
loop-changed-init c =
    goes-start c.args.count c.args.table.now c.args.function c.in_ok-met.met.items
    c.spread.new.met.items c.spread.result c.in_ok-met.ensures.1 c.spread.ensures

pub loop-changed-preserved : goal.loop-changed-preserved
loop-changed-preserved c = search goes-on

pub returns : goal.returns
returns c =
    exact c.args.count c.args.table.now c.args.function c.loop-changed.met.items
    (subst (λ b. Marks c.args.count c.args.table.now c.args.function c.loop-changed.met.items b)
    c.loop-changed-test.false c.loop-changed.invariant)
