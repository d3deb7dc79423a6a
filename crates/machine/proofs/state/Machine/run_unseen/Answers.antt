-- Nothing is put, so nothing fails.
use Rattle.machine.proofs.OnResults.{never_fails}
use Rattle.machine.proofs.state.Machine.run_unseen.Goals as goal

pub returns-clause-relation : goal.returns-clause-relation
returns-clause-relation g c s n within st =
    (never_fails c.run_with-done.result c.run_with-done.ensures.failed
    c.run_with-done.ensures.ok s n within st).0

pub returns-clause-at : goal.returns-clause-at
returns-clause-at g c =
    never_fails c.run_with-done.result c.run_with-done.ensures.failed
    c.run_with-done.ensures.cycles
