use Rattle.pipeline_core.proofs.Turns.{of_issue}
use Rattle.pipeline_core.proofs.stage_register.StageRegister.put.Goals as goal

pub returns : goal.returns
returns g c = of_issue c.args.thread c.args.what c.requires
