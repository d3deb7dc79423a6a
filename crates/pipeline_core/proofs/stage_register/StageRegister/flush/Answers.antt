use Rattle.pipeline_core.proofs.Turns.{of_flushed}
use Rattle.pipeline_core.proofs.stage_register.StageRegister.flush.Goals as goal

pub returns : goal.returns
returns g c = of_flushed c.args.thread c.args.self.now.what c.requires
