use Rattle.region_guard.proofs.Sizes.{region_by_shift, region_small, zeros_below}
use Rattle.region_guard.proofs.access.region_at.Goals as goal

pub overflow_sub-result : goal.overflow_sub-result
overflow_sub-result c = zeros_below c.args.size c.requires.sized

pub returns-clause-region : goal.returns-clause-region
returns-clause-region c =
    region_by_shift c.args.size c.args.offset c.requires.sized c.requires.inside

pub returns-clause-small : goal.returns-clause-small
returns-clause-small c =
    rw (region_by_shift c.args.size c.args.offset c.requires.sized c.requires.inside)
    (region_small c.args.size c.args.offset c.requires.sized)
