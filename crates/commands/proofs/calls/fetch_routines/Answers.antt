use Rattle.commands.specs.CallsAnswer.{routines_in}
use Rattle.commands.proofs.Cuts.{ok-over, stop-over}
use Rattle.commands.proofs.ListCut.{routines-cut}
use Rattle.commands.proofs.calls.fetch_routines.Goals as goal

pub returns-clause-ok : goal.returns-clause-ok
returns-clause-ok g c =
    ok-over (g.F.Files.contents c.args.files.now) c.args.name.now
    (routines_in c.args.size) c.deref.result.now c.in_ok-bytes.bytes.items 1152 c.routines_in.result
    (routines-cut c.args.size) c.in_ok-bytes.ensures.bytes c.deref.ensures.value
    c.routines_in.ensures.ok

pub returns-clause-stop : goal.returns-clause-stop
returns-clause-stop g c =
    stop-over (g.F.Files.contents c.args.files.now) c.args.name.now
    (routines_in c.args.size) c.deref.result.now c.in_ok-bytes.bytes.items 1152
    (g.F.Files.faults c.args.files.now) (g.F.Files.faults c.fetch.new.files) c.routines_in.result
    (routines-cut c.args.size) c.in_ok-bytes.ensures.bytes c.deref.ensures.value
    c.routines_in.ensures.stop
