use Rattle.pipeline_core.proofs.Turns.{tests_bubble}
use Rattle.pipeline_core.proofs.stage_register.StageRegister.is_bubble.Goals as goal

pub returns : goal.returns
returns g c = tests_bubble c.args.self.now.turn c.args.self.now.what
