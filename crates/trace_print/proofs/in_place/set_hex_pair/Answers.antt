use Rattle.std.proofs.Common.{◌++◌, take, ap, ◌∙◌, arith}
use Rattle.trace_print.proofs.Tables.{hex_pair}
use Rattle.trace_print.proofs.in_place.set_hex_pair.Goals as goal

pub returns : goal.returns
returns c =
    c.set_pair.ensures ∙ ap (λ pair. take c.args.at c.args.text.now ++ pair)
    (hex_pair c.args.byte (omega (arith, c.ranges.byte.fits)))
