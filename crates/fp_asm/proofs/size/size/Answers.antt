use Rattle.std.proofs.Common.{arith}
use Rattle.fp_asm.specs.AbstractOperands.{abstract_statement}
use Rattle.fp_asm.proofs.Checks.{space_small}
use Rattle.fp_asm.proofs.size.size.Goals as goal

pub overflow_cast-result-in-Space : goal.overflow_cast-result-in-Space
overflow_cast-result-in-Space c =
    let small =
    space_small (abstract_statement c.args.statement.now) c.requires.checked c.in-Space.is in
    omega (arith, small, c.magnitude.ensures)

pub returns-in-Space-clause-small : goal.returns-in-Space-clause-small
returns-in-Space-clause-small c =
    let small =
    space_small (abstract_statement c.args.statement.now) c.requires.checked c.in-Space.is in
    omega (arith, small, c.magnitude.ensures)
