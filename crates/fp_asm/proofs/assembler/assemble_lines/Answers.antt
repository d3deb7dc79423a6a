use Rattle.std.proofs.Common.{arith}
use Rattle.std.proofs.lemmas.Grind.{common_steps}
use Rattle.std.proofs.Common.{map}
use Rattle.fp_asm.specs.AbstractPasses.{abstract_first}
use Rattle.fp_asm.proofs.Soundness.{first_placed}
use Rattle.fp_asm.specs.Source.{assembled_lines}
use Rattle.fp_asm.proofs.assembler.assemble_lines.Goals as goal

pub image_at-requires : goal.image_at-requires
image_at-requires c =
    first_placed (map (λ l. l.now) c.args.lines.now) (abstract_first c.pass.new.self)
    (rw c.new-first.ensures at c.in_ok-pass.ensures.ok)

pub returns-clause-image : goal.returns-clause-image
unfolding assembled_lines
returns-clause-image c = rw (
  rw c.new-first.ensures at c.in_ok-pass.ensures.ok,
  rw c.new-second.ensures at c.in_ok-pass-2.ensures.ok,
) c.image_at.ensures.image

pub returns-clause-refused : goal.returns-clause-refused
unfolding assembled_lines
returns-clause-refused c = rw (
  rw c.new-first.ensures at c.in_ok-pass.ensures.ok,
  rw c.new-second.ensures at c.in_ok-pass-2.ensures.ok,
) c.image_at.ensures.refused

pub returns-in_err-pass-clause-refused : goal.returns-in_err-pass-clause-refused
unfolding assembled_lines
returns-in_err-pass-clause-refused c = grind (arith, common_steps)

pub returns-in_err-pass-2-clause-refused : goal.returns-in_err-pass-2-clause-refused
unfolding assembled_lines
returns-in_err-pass-2-clause-refused c = grind (arith, common_steps)
