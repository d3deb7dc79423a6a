use Rattle.selfrun.proofs.FoldLemmas.{piece_and}
use Rattle.selfrun.proofs.piece.Piece.and.Goals as goal

pub returns : goal.returns
returns c =
    λ first second is more. rw (c.longer.ensures, c.longer-2.ensures)
    (piece_and c.args.self c.args.more first second is more)
