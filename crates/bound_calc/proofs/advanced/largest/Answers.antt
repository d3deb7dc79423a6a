use Rattle.std.proofs.Common.{arith}
use Rattle.bound_calc.proofs.AdvanceLaws.{largest-all, largest-more, largest-start}
use Rattle.bound_calc.proofs.advanced.largest.Goals as goal

pub loop-p-init : goal.loop-p-init
loop-p-init c = largest-start c.args.here.now c.args.most

pub loop-p-preserved : goal.loop-p-preserved
loop-p-preserved c =
    largest-more c.args.here.now c.loop-p.p c.args.most c.loop-p.largest
    c.largest_row-largest.result c.loop-p.invariant c.largest_row-largest.ensures.stays
    c.largest_row-largest.ensures.upper c.largest_row-largest.ensures.met

pub returns : goal.returns
returns c =
    largest-all c.args.here.now c.loop-p.p c.args.most c.loop-p.largest (omega arith)
    (omega arith) c.loop-p.invariant
