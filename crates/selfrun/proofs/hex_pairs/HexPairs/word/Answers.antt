use Rattle.std.proofs.Common.{◌<◌, ◌^◌, arith, subst}
use Rattle.selfrun.specs.Folds.{IsPiece}
use Rattle.selfrun.proofs.FoldLemmas.{by_bytes}
use Rattle.selfrun.proofs.hex_pairs.HexPairs.word.Goals as goal

pub returns : goal.returns
returns c =
    let small : c.args.word < 2 ^ 32 = omega (arith, c.ranges.word.fits) in
    subst (IsPiece c.and.result) (by_bytes c.args.word small)
    (c.and.ensures _ _ (c.and-upper.ensures _ _ c.pair.ensures c.pair-2.ensures)
    (c.and-lower.ensures _ _ c.pair-3.ensures c.pair-4.ensures))
