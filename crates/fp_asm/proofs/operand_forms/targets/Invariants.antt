use Rattle.std.proofs.Common.{◌≡◌, map, length}
use Rattle.fp_asm.specs.Operands.{all_targets}
use Rattle.fp_asm.specs.AbstractPieces.{abstract_operand}
use Rattle.fp_asm.specs.AbstractOperands.{abstract_target}
use Rattle.fp_asm.proofs.Filling.{targets_from}
use Rattle.fp_asm.proofs.operand_forms.targets.Given as goal

abbrev pub invariant-loop-operand : goal.invariant-loop-operand
invariant-loop-operand l = record {
  so_far : all_targets (map abstract_operand l.operands)
      ≡ targets_from (map abstract_target l.list.items) l.operands l.operand-index;
  count : length l.list.items ≡ l.operand-index;
}
