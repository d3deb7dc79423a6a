use Rattle.flexpret_top.proofs.KeptRules.{programs-keep-rules}
use Rattle.flexpret_top.proofs.rules.programs_keep_rules.Goals as goal

pub returns : goal.returns
returns c = programs-keep-rules c.accepted_keep_rules.ensures
