use Rattle.std.proofs.Common.{arith}
use Rattle.bound_calc.proofs.AdvanceLaws.{left-all, left-more, left-start}
use Rattle.bound_calc.proofs.advanced.largest_advanced.Goals as goal

pub loop-p-init : goal.loop-p-init
loop-p-init c = left-start c.args.here.now c.args.hops.now.hops c.args.most

pub loop-p-preserved : goal.loop-p-preserved
loop-p-preserved c =
    left-more c.args.here.now c.args.hops.now.hops c.loop-p.p c.args.most c.loop-p.farthest
    c.largest_advanced_row-farthest.result c.loop-p.invariant
    c.largest_advanced_row-farthest.ensures

pub returns : goal.returns
returns c =
    left-all c.args.here.now c.args.hops.now.hops c.loop-p.p c.args.most c.loop-p.farthest
    (omega arith) c.loop-p.invariant (omega arith)
