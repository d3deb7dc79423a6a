use Rattle.machine.proofs.DumpLemmas.{dump_ok, dump_err}
use Rattle.machine.proofs.state.Machine.dump.Goals as goal

pub returns-clause-ok : goal.returns-clause-ok
returns-clause-ok g c =
    dump_ok c.put_lines.result (g.K.Sink.taken c.args.out.now)
    (g.K.Sink.taken c.put_lines.new.out) c.args.self.now _ c.put_lines.ensures.ok

pub returns-clause-err : goal.returns-clause-err
returns-clause-err g c =
    dump_err c.put_lines.result (g.K.Sink.taken c.args.out.now)
    (g.K.Sink.taken c.put_lines.new.out) c.args.self.now _ c.put_lines.ensures.err
