use Rattle.std.proofs.Common.{◌+◌, length, map, ap, sym, ◌∙◌, arith}
use Rattle.std.proofs.lemmas.Grind.{common_steps}
use Rattle.fp_asm.specs.AbstractOperands.{abstract_target}
use Rattle.fp_asm.proofs.Filling.{targets_from, targets_start}
use Rattle.fp_asm.proofs.Filling.{targets_more, targets_none, targets_end}
use Rattle.fp_asm.proofs.operand_forms.targets.Goals as goal

pub loop-operand-init : goal.loop-operand-init
loop-operand-init c = record {
  so_far = rw c.in_ok-list.ensures.items (targets_start c.args.operands.now);
  count = ap length c.in_ok-list.ensures.items;
}

pub returns-in_default-clause-targets : goal.returns-in_default-clause-targets
returns-in_default-clause-targets c =
    sym (c.loop-operand.invariant.so_far
    ∙ targets_none (map abstract_target c.loop-operand.list.items) c.args.operands.now
    c.loop-operand.operand-index _ c.loop-operand-test.true (sym c.in_default.ensures))

pub loop-operand-preserved : goal.loop-operand-preserved
loop-operand-preserved c =
    let i = c.loop-operand.operand-index in
    let operands = c.args.operands.now in
    record {
      so_far =
          c.loop-operand.invariant.so_far
          ∙ (targets_more c.loop-operand.list.items operands i _
          c.in-Some.target c.loop-operand-test.true (sym c.in-Some.ensures)
          ∙ ap (λ list. targets_from (map abstract_target list) operands (i + 1))
          (sym c.in_ok-push.ensures.items));
      count = grind (arith, common_steps);
    }

pub returns-clause-targets : goal.returns-clause-targets
returns-clause-targets c =
    sym (c.loop-operand.invariant.so_far
    ∙ targets_end (map abstract_target c.loop-operand.list.items) c.args.operands.now
    c.loop-operand.operand-index c.loop-operand-test.false)
