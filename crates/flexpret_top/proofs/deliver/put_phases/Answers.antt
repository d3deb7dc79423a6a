use Rattle.flexpret_top.proofs.Delivering.{phases-left, phases-ok, phases-err, phases-part}
use Rattle.flexpret_top.proofs.deliver.put_phases.Goals as goal

pub returns-clause-left : goal.returns-clause-left
returns-clause-left g c =
    phases-left c.args.ready _ _ c.run_phases.new.machine (g.K.Sink.taken c.args.out.now)
    (g.K.Sink.taken c.run_phases.new.out) c.run_phases.result c.run_phases.ensures.words
    c.run_phases.ensures.ok

pub returns-clause-ok : goal.returns-clause-ok
returns-clause-ok g c =
    phases-ok c.args.ready _ _ c.run_phases.new.machine (g.K.Sink.taken c.args.out.now)
    (g.K.Sink.taken c.run_phases.new.out) c.run_phases.result c.run_phases.ensures.ok

pub returns-clause-err : goal.returns-clause-err
returns-clause-err g c =
    phases-err c.args.ready _ _ c.run_phases.new.machine (g.K.Sink.taken c.args.out.now)
    (g.K.Sink.taken c.run_phases.new.out) c.run_phases.result c.run_phases.ensures.err

pub returns-clause-part : goal.returns-clause-part
returns-clause-part g c =
    phases-part c.args.ready _ _ c.run_phases.new.machine (g.K.Sink.taken c.args.out.now)
    (g.K.Sink.taken c.run_phases.new.out) c.run_phases.result c.run_phases.ensures.err
