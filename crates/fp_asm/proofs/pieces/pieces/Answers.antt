use Rattle.std.proofs.Common.{arith}
use Rattle.std.proofs.lemmas.Grind.{common_steps}
use Rattle.fp_asm.specs.Pieces.{pieces_of}
use Rattle.fp_asm.proofs.pieces.pieces.Goals as goal

pub returns : goal.returns
unfolding pieces_of
returns c = grind (arith, common_steps)

pub returns-in_err-tokens : goal.returns-in_err-tokens
unfolding pieces_of
returns-in_err-tokens c = grind (arith, common_steps)

pub returns-in_err-pieces_at : goal.returns-in_err-pieces_at
unfolding pieces_of
returns-in_err-pieces_at c = grind (arith, common_steps)
