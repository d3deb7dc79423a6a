use Rattle.pipeline_core.proofs.execute.execute_stage.Goals as goal

pub returns : goal.returns
returns g c = rw (c.is_issue.ensures.issue c.if-not-is_issue.false) c.execute_turn.ensures
