-- The turn in M forwards.
use Rattle.std.proofs.Common.{arith, ap, sym, ◌∙◌}
use Rattle.core_model.specs.Thread.{reg_in}
use Rattle.pipeline_core.proofs.Forwarding.{m_forwards, m_passes}
use Rattle.pipeline_core.proofs.StageTurns.{stored_effect}
use Rattle.pipeline_core.proofs.decode.settled.Goals as goal

pub newer-requires-clause-fits : goal.newer-requires-clause-fits
newer-requires-clause-fits c =
    stored_effect c.args.m.now.turn c.args.m.now.what (omega arith) c.requires.m

pub newer-requires-then-m-thread-clause-fits : goal.newer-requires-then-m-thread-clause-fits
newer-requires-then-m-thread-clause-fits c =
    stored_effect c.args.m.now.turn c.args.m.now.what (omega arith) c.requires.m

pub returns-then-m-thread-clause-first : goal.returns-then-m-thread-clause-first
returns-then-m-thread-clause-first c =
    c.newer.ensures _ c.read-a.ensures.words c.read-a.ensures.value
    ∙ ap (λ regs. reg_in regs c.args.x) (sym (m_forwards c.args.thread c.args.m.now.turn
    c.args.m.now.what _ c.if-m-thread.true c.requires.thread))

pub returns-then-m-thread-clause-second : goal.returns-then-m-thread-clause-second
returns-then-m-thread-clause-second c =
    c.newer-then-m-thread.ensures _ c.read-b.ensures.words c.read-b.ensures.value
    ∙ ap (λ regs. reg_in regs c.args.y) (sym (m_forwards c.args.thread c.args.m.now.turn
    c.args.m.now.what _ c.if-m-thread.true c.requires.thread))

pub returns-else-m-thread-clause-first : goal.returns-else-m-thread-clause-first
returns-else-m-thread-clause-first c =
    c.read-a.ensures.value ∙ ap (λ regs. reg_in regs c.args.x) (sym (m_passes c.args.thread
    c.args.m.now.turn c.args.m.now.what _ c.if-m-thread.false))

pub returns-else-m-thread-clause-second : goal.returns-else-m-thread-clause-second
returns-else-m-thread-clause-second c =
    c.read-b.ensures.value ∙ ap (λ regs. reg_in regs c.args.y) (sym (m_passes c.args.thread
    c.args.m.now.turn c.args.m.now.what _ c.if-m-thread.false))
