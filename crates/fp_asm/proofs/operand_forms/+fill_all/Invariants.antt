use Rattle.std.proofs.Common.{length}
use Rattle.fp_asm.proofs.operand_forms.+fill_all.Given as goal

abbrev pub decreases-fill_all : goal.decreases-fill_all
decreases-fill_all l = length l.form.now
