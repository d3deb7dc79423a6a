use Rattle.std.proofs.Common.{◌∙◌}
use Rattle.std.specs.Str.{bytes_eq}
use Rattle.fp_setup.proofs.Lists.{list_any_map}
use Rattle.fp_setup.proofs.keys.is_known.Goals as goal

pub returns : goal.returns
returns c =
    c.contains.ensures.value
    ∙ list_any_map (λ known. bytes_eq known c.args.key.now) (λ k. k.now) c.args.keys.now
