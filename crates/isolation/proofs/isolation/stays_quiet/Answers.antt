use Rattle.isolation.proofs.Unpermitted.{never-written}
use Rattle.isolation.proofs.isolation.stays_quiet.Goals as goal

pub returns : goal.returns
returns c = never-written
