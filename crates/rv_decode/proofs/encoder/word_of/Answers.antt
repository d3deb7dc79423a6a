-- The word of a store.
use Rattle.std.proofs.Common.{arith}
use Rattle.std.proofs.lemmas.Grind.{common_steps}
use Rattle.rv_decode.specs.Encoding.{encoding_of}
use Rattle.rv_decode.proofs.encoder.word_of.Goals as goal

pub returns-in-Store : goal.returns-in-Store
unfolding encoding_of
returns-in-Store c = grind (arith, common_steps)
