use Rattle.std.proofs.Common.{ap, ◌∙◌}
use Rattle.fp_setup.specs.Settings.{Settings}
use Rattle.setup_model.proofs.Accepted.{regions-kept}
use Rattle.setup_model.proofs.registers.d_regions.Goals as goal

pub returns : goal.returns
returns c =
    regions-kept c.setup.inside.dregions c.in-Ok.regions c.from_word.result
    (c.from_word.ensures.regions) c.in-Ok.is ∙ ap (λ (s : Settings). s.dregions) c.setup.view_is
