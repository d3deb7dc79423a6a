use Rattle.std.proofs.Common.{refl}
use Rattle.fp_setup.proofs.thread_rows.ThreadRows.unnamed.Goals as goal

pub returns-clause-modes : goal.returns-clause-modes
returns-clause-modes c = refl
