use Rattle.std.proofs.Common.{[], ◌∷◌}
use Rattle.selfrun.proofs.FoldLemmas.{piece_byte}
use Rattle.selfrun.proofs.piece.Piece.then.Goals as goal

pub returns : goal.returns
returns c =
    λ bytes is.
    c.and.ensures bytes (c.args.byte ∷ []) is (piece_byte c.args.byte c.from.result c.from.ensures)
