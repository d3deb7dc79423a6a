use Rattle.std.proofs.Common.{sym, ◌∙◌, ap, Ok, is_some}
use Rattle.fp_asm.proofs.LabelByLabel.{seen, label_there, label_new}
use Rattle.fp_asm.proofs.labels.add_label.Goals as goal

pub returns-in-Some-clause-refused : goal.returns-in-Some-clause-refused
returns-in-Some-clause-refused c =
    label_there c.args.labels.now.entries c.args.name.now c.args.location
    (ap is_some (sym c.in_ok-insert.ensures.old ∙ c.in-Some.is))

pub returns-in-None-clause-ok : goal.returns-in-None-clause-ok
returns-in-None-clause-ok c =
    label_new c.args.labels.now.entries c.args.name c.args.location
    (ap is_some (sym c.in_ok-insert.ensures.old ∙ c.in-None.is))
    ∙ ap (λ es. Ok (seen es)) (sym c.in_ok-insert.ensures.entries)
