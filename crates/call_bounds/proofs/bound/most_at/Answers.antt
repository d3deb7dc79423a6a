use Rattle.bound_calc.proofs.TopLaws.{top-either}
use Rattle.call_bounds.proofs.bound.most_at.Goals as goal

pub returns : goal.returns
returns c =
    top-either (top-either c.end_by-ended.ensures c.leave_by-next.ensures) c.leave_by.ensures
