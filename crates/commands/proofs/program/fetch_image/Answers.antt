use Rattle.std.proofs.Common.{ℕ, subst, sym}
use Rattle.commands.specs.Program.{image_in}
use Rattle.commands.proofs.Cuts.{IsCut, image-cut, ok-over, stop-over}
use Rattle.commands.proofs.program.fetch_image.Goals as goal

pub returns-clause-ok : goal.returns-clause-ok
returns-clause-ok g c =
    let over = image_in c.args.size in
    let Cut : ℕ → Type 0 = λ most. IsCut over most in
    let cut = subst Cut (sym c.longest.ensures) (image-cut c.args.size) in
    ok-over (g.F.Files.contents c.args.files.now) c.args.name.now over
    c.deref.result.now c.in_ok-bytes.bytes.items c.longest.result c.image_in.result
    cut c.in_ok-bytes.ensures.bytes c.deref.ensures.value c.image_in.ensures.ok

pub returns-clause-stop : goal.returns-clause-stop
returns-clause-stop g c =
    let over = image_in c.args.size in
    let Cut : ℕ → Type 0 = λ most. IsCut over most in
    let cut = subst Cut (sym c.longest.ensures) (image-cut c.args.size) in
    stop-over (g.F.Files.contents c.args.files.now) c.args.name.now over
    c.deref.result.now c.in_ok-bytes.bytes.items c.longest.result
    (g.F.Files.faults c.args.files.now) (g.F.Files.faults c.fetch.new.files) c.image_in.result
    cut c.in_ok-bytes.ensures.bytes c.deref.ensures.value c.image_in.ensures.stop
