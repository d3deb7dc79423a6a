use Rattle.std.proofs.Common.{refl}
use Rattle.flexpret_top.proofs.alone.said_by.Goals as goal

pub returns-in-Differs-clause-same : goal.returns-in-Differs-clause-same
returns-in-Differs-clause-same c = tt

pub returns-in-Differs-clause-stop : goal.returns-in-Differs-clause-stop
returns-in-Differs-clause-stop c = rw c.in-Differs.is refl
