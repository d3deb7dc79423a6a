use Rattle.pipeline_core.proofs.Turns.{of_tested, no_issue}
use Rattle.pipeline_core.proofs.stage_register.StageRegister.is_issue.Goals as goal

pub returns-clause-issue : goal.returns-clause-issue
returns-clause-issue g c = of_tested c.args.self.now.turn c.args.self.now.what

pub returns-clause-other : goal.returns-clause-other
returns-clause-other g c = no_issue c.args.self.now.turn c.args.self.now.what
