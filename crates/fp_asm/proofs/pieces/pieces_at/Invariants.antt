use Rattle.std.proofs.Common.{◌≡◌, map, take}
use Rattle.fp_asm.specs.Pieces.{piece}
use Rattle.fp_asm.specs.AbstractPieces.{abstract_piece}
use Rattle.fp_asm.proofs.pieces.pieces_at.Given as goal

abbrev pub invariant-loop-token : goal.invariant-loop-token
invariant-loop-token l =
    map abstract_piece l.list.items ≡ map (piece l.line) (take l.token-index l.tokens)
