use Rattle.pipeline_core.proofs.Turns.{of_bubble}
use Rattle.pipeline_core.proofs.stage_register.StageRegister.clear.Goals as goal

pub returns : goal.returns
returns g c = of_bubble c.args.self.now.what
