use Rattle.flexpret_top.proofs.Delivering.{ports-run, trace-ok, trace-err, trace-part}
use Rattle.flexpret_top.proofs.deliver.put_trace.Goals as goal

pub returns-clause-left : goal.returns-clause-left
returns-clause-left g c =
    ports-run c.args.ready c.args.thread _ _ c.run.new.self (g.K.Sink.taken c.args.out.now)
    (g.K.Sink.taken c.run.new.out) c.run.result c.run.ensures.words c.run.ensures.ok

pub returns-clause-ok : goal.returns-clause-ok
returns-clause-ok g c =
    trace-ok c.args.ready c.args.thread _ _ c.run.new.self (g.K.Sink.taken c.args.out.now)
    (g.K.Sink.taken c.run.new.out) c.run.result c.run.ensures.ok

pub returns-clause-err : goal.returns-clause-err
returns-clause-err g c =
    trace-err c.args.ready c.args.thread _ _ c.run.new.self (g.K.Sink.taken c.args.out.now)
    (g.K.Sink.taken c.run.new.out) c.run.result c.run.ensures.err

pub returns-clause-part : goal.returns-clause-part
returns-clause-part g c =
    trace-part c.args.ready c.args.thread _ _ c.run.new.self (g.K.Sink.taken c.args.out.now)
    (g.K.Sink.taken c.run.new.out) c.run.result c.run.ensures.err
