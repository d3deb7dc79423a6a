-- The turn that an issue leaves in w, and its thread.
use Rattle.machine.proofs.Retiring.{issue_below, issue_written}
use Rattle.machine.proofs.run.Run.leaving.Goals as goal

pub returns-clause-stage : goal.returns-clause-stage
returns-clause-stage c =
    issue_written c.args.self.now.stages.now.m.turn c.args.self.now.stages.now.m.what c.requires

pub returns-clause-thread : goal.returns-clause-thread
returns-clause-thread c =
    issue_below c.args.self.now.stages.now.m.turn c.args.self.now.stages.now.m.what c.requires
    c.args.self.now.stages.now.stored
