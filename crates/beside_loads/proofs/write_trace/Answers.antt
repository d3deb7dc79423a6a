use Rattle.std.proofs.Common.{map, refl}
use Rattle.std.specs.Prelude.{string_bytes}
use Rattle.beside_loads.proofs.Traces.{traced}
use Rattle.beside_loads.proofs.write_trace.Goals as goal

pub returns : goal.returns
returns g c =
    λ zero. traced (g.F.Files.contents c.args.files.now) (map string_bytes c.args.words.now) _ _
    c.flexpret.result c.flexpret.ensures.outcome.known c.args.out.now.bytes
    c.flexpret.new.out.bytes c.requires.empty refl refl zero
