-- A flushed turn.
use Rattle.pipe_model.specs.Stages.{fetch_stage}
use Rattle.pipeline_core.proofs.fetch.fetch_stage.Goals as goal

pub returns-then-flushes_f-clause-stage : goal.returns-then-flushes_f-clause-stage
unfolding fetch_stage
returns-then-flushes_f-clause-stage c = rw (c.in-Issue.is, ← c.if-flushes_f.ensures) c.flush.ensures
