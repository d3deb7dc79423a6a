use Rattle.std.proofs.Common.{arith, refl}
use Rattle.call_bounds.proofs.bound.in_64_bits.Goals as goal

pub returns-in-Ok : goal.returns-in-Ok
returns-in-Ok c = (c.in-Ok.ensures.1, c.in-Ok.ensures.0)

pub returns-in-Err : goal.returns-in-Err
returns-in-Err c = (refl, omega (arith, c.in-Err.ensures))
