use Rattle.pipeline_core.proofs.Turns.{passes}
use Rattle.pipeline_core.proofs.stage_register.StageRegister.take_turn.Goals as goal

pub returns : goal.returns
returns g c =
    passes c.args.before.now.turn c.args.self.now.what c.args.before.now.what c.requires
