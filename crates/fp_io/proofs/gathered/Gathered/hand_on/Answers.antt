use Rattle.std.proofs.Common.{arith}
use Rattle.std.proofs.lemmas.Grind.{common_steps}
use Rattle.std.proofs.lemmas.Result.{on_err_weaker}
use Rattle.fp_io.proofs.Prefixes.{prefix_after}
use Rattle.fp_io.proofs.gathered.Gathered.hand_on.Goals as goal

-- All of the bytes are taken.
pub returns-clause-ok : goal.returns-clause-ok
returns-clause-ok g c = grind (arith, common_steps)

pub returns-clause-err : goal.returns-clause-err
returns-clause-err g c =
    let first = rw (← c.self.view_is) at c.in_ok-flush.ensures.ok in
    on_err_weaker c.put.result (prefix_after _ _ _ _ _ first) c.put.ensures.err
