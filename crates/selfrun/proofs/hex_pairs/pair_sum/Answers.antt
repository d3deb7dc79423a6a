use Rattle.std.proofs.Common.{rules}
use Rattle.selfrun.proofs.hex_pairs.pair_sum.Goals as goal

pub returns : goal.returns
returns c = search rules
