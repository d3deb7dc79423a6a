use Rattle.std.proofs.Common.{◌≡◌, rules, subst}
use Rattle.std.specs.Prelude.{OnOk, OnErr}
use Rattle.std.specs.Io.KnownBytes.{Appends}
use Rattle.fp_io.specs.Content.{AppendsPrefix}
use Rattle.solo_run.specs.Text.{event_text}
use Rattle.solo_run.proofs.lines.put_event.Goals as goal

pub returns-in-Some-clause-ok : goal.returns-in-Some-clause-ok
returns-in-Some-clause-ok g c =
    let text : c.as_bytes.result.now ≡ event_text c.args.event = cc in
    subst (λ text. OnOk c.put.result (Appends (g.K.Sink.taken c.args.out.now)
    (g.K.Sink.taken c.put.new.self) text)) text c.put.ensures.ok

pub returns-in-Some-clause-err : goal.returns-in-Some-clause-err
returns-in-Some-clause-err g c =
    let text : c.as_bytes.result.now ≡ event_text c.args.event = cc in
    subst (λ text. OnErr c.put.result (AppendsPrefix (g.K.Sink.taken c.args.out.now)
    (g.K.Sink.taken c.put.new.self) text)) text c.put.ensures.err

pub returns-in-None-clause-ok : goal.returns-in-None-clause-ok
returns-in-None-clause-ok c = search rules

pub returns-in-None-clause-err : goal.returns-in-None-clause-err
returns-in-None-clause-err c = search rules
