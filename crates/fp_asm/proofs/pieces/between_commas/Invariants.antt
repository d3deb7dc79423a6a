use Rattle.std.proofs.Common.{◌≡◌, ◌≤◌, ◌++◌, map, length}
use Rattle.fp_asm.specs.Pieces.{commas}
use Rattle.fp_asm.specs.AbstractPieces.{abstract_piece, abstract_operand}
use Rattle.fp_asm.proofs.CommaByComma.{operands_from}
use Rattle.fp_asm.proofs.pieces.between_commas.Given as goal

abbrev pub invariant-loop-i : goal.invariant-loop-i
invariant-loop-i l = record {
  begun : l.start ≤ l.i;
  so_far : commas (map abstract_piece l.pieces)
      ≡ map abstract_operand l.list.items ++ operands_from l.pieces l.start l.i;
  few : length l.list.items ≤ l.i;
}
