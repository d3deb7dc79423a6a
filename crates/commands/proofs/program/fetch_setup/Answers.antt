use Rattle.commands.specs.Program.{setup_in}
use Rattle.commands.proofs.Cuts.{setup-cut, ok-over, stop-over}
use Rattle.commands.proofs.program.fetch_setup.Goals as goal

pub returns-clause-ok : goal.returns-clause-ok
returns-clause-ok g c =
    ok-over (g.F.Files.contents c.args.files.now) c.args.name.now setup_in
    c.deref.result.now c.in_ok-bytes.bytes.items 262144 c.setup_in.result
    setup-cut c.in_ok-bytes.ensures.bytes c.deref.ensures.value c.setup_in.ensures.ok

pub returns-clause-stop : goal.returns-clause-stop
returns-clause-stop g c =
    stop-over (g.F.Files.contents c.args.files.now) c.args.name.now
    setup_in c.deref.result.now c.in_ok-bytes.bytes.items 262144
    (g.F.Files.faults c.args.files.now) (g.F.Files.faults c.fetch.new.files) c.setup_in.result
    setup-cut c.in_ok-bytes.ensures.bytes c.deref.ensures.value c.setup_in.ensures.stop
