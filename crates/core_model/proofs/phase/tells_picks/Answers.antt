use Rattle.core_model.proofs.Settings.{settings-of-picks}
use Rattle.core_model.proofs.phase.tells_picks.Goals as goal

pub returns : goal.returns
returns c = settings-of-picks
