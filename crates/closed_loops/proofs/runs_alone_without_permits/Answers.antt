use Rattle.closed_loops.proofs.Closed.{loops-without-permits}
use Rattle.closed_loops.proofs.runs_alone_without_permits.Goals as goal

pub returns : goal.returns
returns c =
    loops-without-permits c.runs_alone_in_loop.ensures c.has_closed_loops.ensures
    c.stays_quiet.ensures
