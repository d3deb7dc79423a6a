use Rattle.commands.specs.Elf.{elf_in}
use Rattle.commands.proofs.Cuts.{ok-over, stop-over}
use Rattle.commands.proofs.Cuts.{elf-cut}
use Rattle.commands.proofs.elf.fetch_executable.Goals as goal

pub returns-clause-ok : goal.returns-clause-ok
returns-clause-ok g c =
    ok-over (g.F.Files.contents c.args.files.now) c.args.name.now elf_in
    c.deref.result.now c.in_ok-bytes.bytes.items 4194304 c.elf_in.result
    elf-cut c.in_ok-bytes.ensures.bytes c.deref.ensures.value c.elf_in.ensures.ok

pub returns-clause-stop : goal.returns-clause-stop
returns-clause-stop g c =
    stop-over (g.F.Files.contents c.args.files.now) c.args.name.now
    elf_in c.deref.result.now c.in_ok-bytes.bytes.items 4194304
    (g.F.Files.faults c.args.files.now) (g.F.Files.faults c.fetch.new.files) c.elf_in.result
    elf-cut c.in_ok-bytes.ensures.bytes c.deref.ensures.value c.elf_in.ensures.stop
