use Rattle.std.proofs.Common.{rules}
use Rattle.call_bounds.proofs.routines_file.is_placed.Goals as goal

pub returns-then-routine : goal.returns-then-routine
returns-then-routine c = search rules
