use Rattle.std.proofs.Common.{subst}
use Rattle.call_bounds.specs.Reachability.{IsExact}
use Rattle.call_bounds.proofs.OrderLaws.{reached-is}
use Rattle.call_bounds.proofs.order.reached_functions.Goals as goal

pub returns : goal.returns
returns c =
    reached-is c.args.code.now c.args.table.now
    c.in_ok-reached.reached.items c.function_count.ensures.rules c.requires
    (subst (λ n. IsExact n c.args.table.now 0 c.in_ok-reached.reached.items)
    c.function_count.ensures.value c.in_ok-reached.ensures)
