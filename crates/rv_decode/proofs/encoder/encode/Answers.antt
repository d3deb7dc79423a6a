-- The word of an instruction is read back as the instruction.
use Rattle.std.proofs.Common.{◌∙◌, ap}
use Rattle.rv_decode.specs.Table.{ins}
use Rattle.rv_decode.proofs.RoundTrip.{ins-encoded}
use Rattle.rv_decode.proofs.encoder.encode.Goals as goal

pub returns-clause-decoded : goal.returns-clause-decoded
returns-clause-decoded c = ap ins c.word_of.ensures ∙ ins-encoded c.args.i.now c.requires
