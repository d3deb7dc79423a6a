use Rattle.std.proofs.Common.{arith, sym, ◌∙◌}
use Rattle.std.proofs.lemmas.Grind.{common_steps}
use Rattle.fp_asm.specs.First.{first_line, placed_by}
use Rattle.fp_asm.specs.AbstractPasses.{abstract_first}
use Rattle.fp_asm.proofs.NoStatement.{first_nothing}
use Rattle.fp_asm.proofs.first_pass.First.line.Goals as goal

pub returns : goal.returns
unfolding first_line placed_by
returns c = grind (arith, common_steps)

pub returns-in_err-size : goal.returns-in_err-size
unfolding first_line placed_by
returns-in_err-size c = grind (arith, common_steps)

pub returns-in_err-take_addresses : goal.returns-in_err-take_addresses
unfolding first_line placed_by
returns-in_err-take_addresses c = grind (arith, common_steps)

pub returns-in_err-pieces : goal.returns-in_err-pieces
unfolding first_line placed_by
returns-in_err-pieces c = grind (arith, common_steps)

pub returns-in_err-n : goal.returns-in_err-n
unfolding first_line placed_by
returns-in_err-n c = grind (arith, common_steps)

pub returns-then-is_empty-clause-ok : goal.returns-then-is_empty-clause-ok
returns-then-is_empty-clause-ok c =
    first_nothing (abstract_first c.args.self.now) c.args.line.now
    (sym c.is_empty.ensures ∙ c.if-is_empty.true)
