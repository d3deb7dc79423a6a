use Rattle.std.proofs.Common.{arith}
use Rattle.bound_calc.proofs.TopLaws.{longest-all, longest-more, longest-start}
use Rattle.bound_calc.proofs.advanced.largest_through.Goals as goal

pub loop-r-init : goal.loop-r-init
loop-r-init c = longest-start c.args.here.now c.args.into.now c.args.most

pub loop-r-preserved : goal.loop-r-preserved
loop-r-preserved c =
    longest-more c.args.here.now c.args.into.now c.loop-r.r c.args.most c.loop-r.largest
    c.largest_column_on-largest.result c.largest_row-onward.result (omega arith) c.loop-r.invariant
    c.largest_row-onward.ensures.upper c.largest_row-onward.ensures.met
    c.largest_column_on-largest.ensures.stays c.largest_column_on-largest.ensures.upper
    c.largest_column_on-largest.ensures.met

pub returns : goal.returns
returns c =
    longest-all c.args.here.now c.args.into.now c.loop-r.r c.args.most c.loop-r.largest
    (omega arith) (omega arith) c.loop-r.invariant
