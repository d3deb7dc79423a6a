use Rattle.std.proofs.Common.{refl, false, slice_index_or}
use Rattle.bound_calc.proofs.PassLaws.{none-entry}
use Rattle.bound_calc.proofs.ThroughLaws.{ended-more, ended-none}
use Rattle.bound_calc.proofs.returns.through.Goals as goal

pub loop-index-init : goal.loop-index-init
loop-index-init c = ended-none c.args.steps.now c.args.ends.now c.args.at.now _ none-entry

pub loop-index-preserved : goal.loop-index-preserved
loop-index-preserved c =
    ended-more c.args.steps.now c.args.ends.now c.args.at.now c.loop-index.index
    (slice_index_or c.args.ends.now c.loop-index.index false) c.loop-index.back c.end.new.back refl
    c.end.ensures c.loop-index.invariant
