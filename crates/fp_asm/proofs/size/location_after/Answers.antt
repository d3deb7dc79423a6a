use Rattle.std.proofs.Common.{arith}
use Rattle.fp_asm.specs.AbstractOperands.{abstract_statement}
use Rattle.fp_asm.proofs.Checks.{org_small}
use Rattle.fp_asm.proofs.size.location_after.Goals as goal

pub overflow_cast-result : goal.overflow_cast-result
overflow_cast-result c =
    let small =
    org_small (abstract_statement c.args.statement.now) c.requires.checked c.in-Org.is in
    omega (arith, small, c.magnitude.ensures)
