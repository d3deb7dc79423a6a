use Rattle.std.proofs.Common.{ap, ◌∙◌}
use Rattle.fp_setup.specs.Settings.{Settings}
use Rattle.setup_model.proofs.Accepted.{table-kept}
use Rattle.setup_model.proofs.registers.slot_table.Goals as goal

pub returns : goal.returns
returns c =
    table-kept c.setup.inside.slots c.in-Ok.slots c.from_word.result
    (c.from_word.ensures.table) c.in-Ok.is ∙ ap (λ (s : Settings). s.slots) c.setup.view_is
