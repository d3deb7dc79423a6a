use Rattle.std.proofs.Common.{refl}
use Rattle.commands.proofs.bound.bound_stop.Goals as goal

pub returns-in-Overflow : goal.returns-in-Overflow
returns-in-Overflow c = rw c.in-Overflow.is (rw c.bound_refusal.ensures refl)
