use Rattle.flexpret_top.proofs.SimplerPremises.{calls-while-scheduled, while-scheduled}
use Rattle.flexpret_top.proofs.corollaries.bounds_while_scheduled.Goals as goal

pub returns : goal.returns
returns c = record {
  sections = while-scheduled c.start_is_set.ensures.setup c.start_is_set.ensures.earlier;
  calls = calls-while-scheduled c.start_is_set.ensures.setup c.start_is_set.ensures.earlier;
}
