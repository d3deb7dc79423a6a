use Rattle.selfrun.proofs.FoldLemmas.{piece_pair}
use Rattle.selfrun.proofs.hex_pairs.HexPairs.pair.Goals as goal

pub returns : goal.returns
returns c = piece_pair c.args.byte _ (c.self.invariant c.args.byte c.requires)
