use Rattle.flexpret_top.proofs.Delivering.{dump-ok, dump-err, ports-gone}
use Rattle.flexpret_top.proofs.deliver.put_dump.Goals as goal

pub returns-clause-ok : goal.returns-clause-ok
returns-clause-ok g c =
    dump-ok c.args.ready _ _ c.go.new.machine (g.K.Sink.taken c.args.out.now)
    (g.K.Sink.taken c.dump.new.out) c.dump.result c.go.ensures.gone c.dump.ensures.ok

pub returns-clause-err : goal.returns-clause-err
returns-clause-err g c =
    dump-err c.args.ready _ _ c.go.new.machine (g.K.Sink.taken c.args.out.now)
    (g.K.Sink.taken c.dump.new.out) c.dump.result c.go.ensures.gone c.dump.ensures.err

pub returns-clause-left : goal.returns-clause-left
returns-clause-left g c = ports-gone c.args.ready _ _ c.go.new.machine c.go.ensures.gone
