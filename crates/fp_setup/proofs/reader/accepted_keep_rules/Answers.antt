use Rattle.fp_setup.proofs.Accepted.{accepted-keep}
use Rattle.fp_setup.proofs.reader.accepted_keep_rules.Goals as goal

pub returns : goal.returns
returns c = accepted-keep
