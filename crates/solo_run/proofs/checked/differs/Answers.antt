use Rattle.std.proofs.Common.{rules}
use Rattle.solo_run.proofs.checked.differs.Goals as goal

pub returns : goal.returns
returns c = search rules
