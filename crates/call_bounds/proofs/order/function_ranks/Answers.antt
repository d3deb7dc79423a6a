use Rattle.std.proofs.Common.{arith, subst}
use Rattle.call_bounds.specs.Build.{IsRankOf}
use Rattle.call_bounds.proofs.OrderLaws.{ranks-all, ranks-next}
use Rattle.call_bounds.proofs.order.function_ranks.Goals as goal

pub loop-function-preserved : goal.loop-function-preserved
loop-function-preserved c =
    ranks-next c.args.code.now c.args.table.now c.loop-function.function c.in_ok-rank.rank
    c.loop-function.ranks.items c.push.new.self.items c.in_ok-push.ensures.items
    (subst (λ n. IsRankOf n c.args.table.now c.loop-function.function c.in_ok-rank.rank)
    c.function_count-count.ensures.value c.in_ok-rank.ensures) c.loop-function.invariant

pub returns : goal.returns
returns c =
    ranks-all c.args.code.now c.args.table.now c.loop-function.function c.loop-function.ranks.items
    c.function_count-count.ensures.rules c.requires.table c.requires.recursion
    (omega (arith, c.function_count-count.ensures.value)) c.loop-function.invariant
