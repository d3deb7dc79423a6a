use Rattle.std.proofs.Common.{◌++◌, take, ap, ◌∙◌}
use Rattle.trace_print.proofs.Tables.{decimal_pair}
use Rattle.trace_print.proofs.in_place.set_two_digits.Goals as goal

pub returns : goal.returns
returns c =
    c.set_pair.ensures ∙ ap (λ pair. take c.args.at c.args.text.now ++ pair)
    (decimal_pair c.args.number c.requires.small)
