use Rattle.std.proofs.Common.{◌-◌}
use Rattle.pipe_model.specs.Stages.{retired_event}
use Rattle.pipeline_core.specs.Turns.{held}
use Rattle.machine.proofs.LineObserving.{unseen_next, unseen_puts}
use Rattle.machine.proofs.unseen.UnseenObserver.retire.Goals as goal

pub returns-clause-state : goal.returns-clause-state
returns-clause-state c =
    unseen_next c.args.self.now (retired_event (c.args._cycle - 4) (held c.args._turn.now))

pub returns-clause-bytes : goal.returns-clause-bytes
returns-clause-bytes c =
    unseen_puts c.args.self.now (retired_event (c.args._cycle - 4) (held c.args._turn.now))
