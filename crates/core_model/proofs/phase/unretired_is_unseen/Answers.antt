use Rattle.core_model.proofs.Settings.{unretired-unseen}
use Rattle.core_model.proofs.phase.unretired_is_unseen.Goals as goal

pub returns : goal.returns
returns c = unretired-unseen
