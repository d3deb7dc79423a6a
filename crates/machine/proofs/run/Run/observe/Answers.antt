use Rattle.machine.proofs.Retiring.{event_issue}
use Rattle.machine.proofs.run.Run.observe.Goals as goal

pub returns-clause-issue : goal.returns-clause-issue
returns-clause-issue g c h = event_issue _ _ (c.retire.ensures.event h)
