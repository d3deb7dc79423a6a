use Rattle.std.proofs.Common.{rules}
use Rattle.selfrun.proofs.piece.with_byte.Goals as goal

pub returns : goal.returns
returns c = search rules
