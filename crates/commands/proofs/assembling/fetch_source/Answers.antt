use Rattle.commands.specs.Assembled.{source_in}
use Rattle.commands.proofs.Cuts.{ok-over, stop-over}
use Rattle.commands.proofs.Cuts.{source-cut}
use Rattle.commands.proofs.assembling.fetch_source.Goals as goal

pub returns-clause-ok : goal.returns-clause-ok
returns-clause-ok g c =
    ok-over (g.F.Files.contents c.args.files.now) c.args.name.now source_in
    c.deref.result.now c.in_ok-bytes.bytes.items 1048576 c.source_in.result
    source-cut c.in_ok-bytes.ensures.bytes c.deref.ensures.value c.source_in.ensures.ok

pub returns-clause-stop : goal.returns-clause-stop
returns-clause-stop g c =
    stop-over (g.F.Files.contents c.args.files.now) c.args.name.now
    source_in c.deref.result.now c.in_ok-bytes.bytes.items 1048576
    (g.F.Files.faults c.args.files.now) (g.F.Files.faults c.fetch.new.files) c.source_in.result
    source-cut c.in_ok-bytes.ensures.bytes c.deref.ensures.value c.source_in.ensures.stop
