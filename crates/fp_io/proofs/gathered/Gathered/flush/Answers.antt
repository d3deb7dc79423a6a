use Rattle.std.proofs.Common.{refl}
use Rattle.fp_io.proofs.gathered.Gathered.flush.Goals as goal

pub returns-clause-ok : goal.returns-clause-ok
returns-clause-ok g c = rw (← c.self.view_is) c.put-put.ensures.ok

pub returns-clause-err : goal.returns-clause-err
returns-clause-err g c = rw (← c.self.view_is) c.put-put.ensures.err

pub returns-clause-gathered : goal.returns-clause-gathered
returns-clause-gathered g c = refl
