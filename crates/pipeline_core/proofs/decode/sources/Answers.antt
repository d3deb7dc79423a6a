-- The younger turn forwards.
use Rattle.std.proofs.Common.{arith, ◌∙◌}
use Rattle.pipeline_core.proofs.Forwarding.{from_m_length, e_forwards, e_passes}
use Rattle.pipeline_core.proofs.StageTurns.{executed_effect}
use Rattle.pipeline_core.proofs.decode.sources.Goals as goal

pub newer-requires-clause-fits : goal.newer-requires-clause-fits
newer-requires-clause-fits c =
    executed_effect c.args.e.now.turn c.args.e.now.what (omega arith) c.requires.e

pub newer-requires-then-e-thread-clause-fits : goal.newer-requires-then-e-thread-clause-fits
newer-requires-then-e-thread-clause-fits c =
    executed_effect c.args.e.now.turn c.args.e.now.what (omega arith) c.requires.e

pub returns-then-e-thread-clause-first : goal.returns-then-e-thread-clause-first
returns-then-e-thread-clause-first c =
    e_forwards c.args.bank.now _ c.args.thread c.args.e.now.turn c.args.e.now.what c.args.x _
    c.if-e-thread.true c.requires.thread (c.newer.ensures _
    (from_m_length c.args.thread _ _ ∙ c.settled-a.ensures.words) c.settled-a.ensures.first)

pub returns-then-e-thread-clause-second : goal.returns-then-e-thread-clause-second
returns-then-e-thread-clause-second c =
    e_forwards c.args.bank.now _ c.args.thread c.args.e.now.turn c.args.e.now.what c.args.y _
    c.if-e-thread.true c.requires.thread (c.newer-then-e-thread.ensures _
    (from_m_length c.args.thread _ _ ∙ c.settled-a.ensures.words) c.settled-a.ensures.second)

pub returns-else-e-thread-clause-first : goal.returns-else-e-thread-clause-first
returns-else-e-thread-clause-first c =
    e_passes c.args.bank.now _ c.args.thread c.args.e.now.turn c.args.e.now.what c.args.x _
    c.if-e-thread.false c.settled-a.ensures.first

pub returns-else-e-thread-clause-second : goal.returns-else-e-thread-clause-second
returns-else-e-thread-clause-second c =
    e_passes c.args.bank.now _ c.args.thread c.args.e.now.turn c.args.e.now.what c.args.y _
    c.if-e-thread.false c.settled-a.ensures.second
