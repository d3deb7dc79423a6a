use Rattle.std.proofs.Common.{◌≡◌, ◌<◌, arith, subst, true}
use Rattle.call_bounds.specs.Reachability.{IsCalled, is_met}
use Rattle.call_bounds.specs.Listing.{function_count}
use Rattle.call_bounds.proofs.OrderLaws.{recursion-found, recursion-never}
use Rattle.call_bounds.proofs.order.recursion.Goals as goal

pub returns-then-back : goal.returns-then-back
returns-then-back c =
    let l = c.args.code.now in
    let k = c.loop-function.function in
    let within : k < function_count l = omega (arith, c.function_count-count.ensures.value) in
    recursion-found l c.args.table.now c.args.reached.now k c.range.result
    c.function_count-count.ensures.rules c.requires.table c.requires.reached
    (let z : 0 < k = omega (arith, c.loop-function.auto.function) in z) within c.range.ensures.value
    (subst (λ n. (is_met c.args.reached.now k ≡ true) × IsCalled n c.args.table.now k k)
    c.function_count-count.ensures.value (c.in_ok-back.ensures.0 c.if-back.true))
    c.loop-function.invariant

pub returns : goal.returns
returns c =
    recursion-never c.args.code.now c.args.table.now c.args.reached.now c.loop-function.function
    c.function_count-count.ensures.rules c.requires.table c.requires.reached
    (omega (arith, c.function_count-count.ensures.value)) c.loop-function.invariant
