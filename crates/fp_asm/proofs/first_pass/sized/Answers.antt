use Rattle.std.proofs.Common.{arith, ap, map, sym, ◌∙◌}
use Rattle.std.proofs.lemmas.Grind.{common_steps}
use Rattle.fp_asm.specs.AbstractPieces.{abstract_piece}
use Rattle.fp_asm.specs.First.{placed_size}
use Rattle.fp_asm.proofs.NoStatement.{nothing, sized_nothing}
use Rattle.fp_asm.proofs.first_pass.sized.Goals as goal

pub returns-in-None-clause-ok : goal.returns-in-None-clause-ok
unfolding placed_size
returns-in-None-clause-ok c = grind (arith, common_steps)

pub returns-in-Some-clause-ok : goal.returns-in-Some-clause-ok
unfolding placed_size
returns-in-Some-clause-ok c = grind (arith, common_steps)

pub returns-in_err-statement-clause-refused : goal.returns-in_err-statement-clause-refused
unfolding placed_size
returns-in_err-statement-clause-refused c = grind (arith, common_steps)

pub returns-then-is_empty-clause-ok : goal.returns-then-is_empty-clause-ok
returns-then-is_empty-clause-ok c =
    sized_nothing c.args.location _
    (ap (λ ps. map abstract_piece ps)
    (nothing c.args.pieces.now (sym c.is_empty.ensures ∙ c.if-is_empty.true)))
